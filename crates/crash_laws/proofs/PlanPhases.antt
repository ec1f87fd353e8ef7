-- The phases in which a plan is put, against the rows of the plan.
use Rattle.std.proofs.Common.{◌≡◌, ◌≤◌, ◌<◌, ◌+◌, ◌^◌, ℕ, zero, suc, List, length, Some, refl, sym, ap, ◌∙◌, inl, inr, ⊎_elim, subst, arith}
use Rattle.std.proofs.lemmas.Option.{slice_get_within}
use Rattle.cell_types.specs.Image.{Image, Extends}
use Rattle.cell_types.specs.Layout.{Layout, reserve_at, outcome_at, done_at, spare_at}
use Rattle.cell_types.specs.Records.{IsRecordCell, record_bytes}
use Rattle.cell_types.specs.declared.record_cell.RecordCell.{RecordCell}
use Rattle.cell_types.specs.declared.record_cell.RecordCell.TheVariants as records
use Rattle.cell_types.proofs.OneRecord.{address_in}
use Rattle.volume_meaning.specs.Documents.{content_at, document_at, stored_bytes}
use Rattle.volume_meaning.specs.Slots.{cells_for}
use Rattle.volume_meaning.specs.Volumes.{Holds}
use Rattle.volume_meaning.proofs.Holding.{some_is}
use Rattle.volume_meaning.proofs.Stamps.{stands_given}
use Rattle.tamper_rules.specs.Journals.{journal_at}
use Rattle.tamper_rules.specs.Settling.{RecordRow}
use Rattle.tamper_rules.specs.declared.numbers.TheConstants.{STRAY_CELL}
use Rattle.ingest_laws.specs.Filling.{IsWellPlanned}
use Rattle.ingest_laws.specs.Ingesting.{Phase, Reserving, Storing, Committing, Applying, Finishing, order_of, ContentRow, CopyRow, StoredRow, Row, IsLeftIn}
use Rattle.recovery_engine.specs.declared.put.Blame.TheVariants as blames
use Rattle.recovery_engine.specs.declared.put.Put.{Put}
use Rattle.recovery_engine.specs.Putting.{AreStanding, ChangesBy, IsInFirst, IsInRow, IsPut}
use Rattle.recovery_engine.specs.Ending.{done_put}
use Rattle.recovery_engine.specs.Entries.{target_of}
use Rattle.plan_writer.specs.Planned.{IsPooledPut, IsStampPut, PlansDocument, Suits, commit_put, document_from, ingest_phases, journal_from, reserve_put, reserved_by, stamp_put}
use Rattle.plan_writer.specs.declared.plan.Plan.{Plan}
use Rattle.crash_laws.proofs.WellPlanned.{plan_of}

-- a put of this record's cell is a row of it
record_row : (image : Image) (r : RecordCell) (at : ℕ) → Holds image at r → (cell : ℕ) (value : List ℕ) → cell ≡ at
    → value ≡ record_bytes r at → RecordRow r at cell value
record_row image r at x cell value here is =
    record { at = here; is = subst (IsRecordCell r at) (x.is.same ∙ sym is) x.is }

pub most_order : (x : Phase) → order_of x ≤ 4
most_order Reserving = omega arith
most_order Storing = omega arith
most_order Committing = omega arith
most_order Applying = omega arith
most_order Finishing = omega arith

-- the phase of this number, or the last one
pub phase_of : (phase : ℕ) → phase ≤ 5
    → (one : Phase) × (order_of one ≤ phase) × ((x : Phase) → order_of x ≤ phase → order_of x ≤ order_of one)
phase_of zero most = (Reserving, omega arith, λ x le. le)
phase_of (suc zero) most = (Storing, omega arith, λ x le. le)
phase_of (suc (suc zero)) most = (Committing, omega arith, λ x le. le)
phase_of (suc (suc (suc zero))) most = (Applying, omega arith, λ x le. le)
phase_of (suc (suc (suc (suc zero)))) most = (Finishing, omega arith, λ x le. le)
phase_of (suc (suc (suc (suc (suc j))))) most = (Finishing, omega arith, λ x le. most_order x)

module _ (g : Layout) (n : ℕ) (p : Plan) (id body : List ℕ) (old after : Image) (d : PlansDocument p id body)
    (suits : Suits g p) (w : IsWellPlanned g old after (plan_of n p id body)) where
  count_is : length p.document.now ≡ cells_for (length (stored_bytes id body))
  count_is = suits.document ∙ ap cells_for d.bytes

  content_place : (place : ℕ)
      → document_at p.start (reserved_by p).length (length (stored_bytes id body)) (length p.journal.now) + place
      ≡ document_from p + place
  content_place place = omega (arith, count_is)

  copy_place : (place : ℕ) → journal_at p.start (reserved_by p).length (length p.journal.now) + place
      ≡ journal_from p + place
  copy_place place = omega arith

  commit_is : record_bytes (records.Commit p.bytes (length p.journal.now)) (outcome_at n)
      ≡ record_bytes (records.Commit (length (stored_bytes id body)) (length p.journal.now)) (outcome_at n)
  commit_is = ap (λ (b : ℕ). record_bytes (records.Commit b (length p.journal.now)) (outcome_at n)) d.bytes

  -- a cell of the document or of the journal is a row of the plan
  pooled_row : (put : Put) → IsPooledPut p put → (cell : ℕ) (value : List ℕ) → put.at ≡ cell → put.value ≡ value
      → StoredRow (plan_of n p id body) cell value
  pooled_row put h cell value here is = ⊎_elim
      (λ (a : IsInRow (document_from p) p.document.now STRAY_CELL put).
      let below : a.place < cells_for (length (stored_bytes id body)) =
      omega (arith, slice_get_within p.document.now a.place put.value a.value, count_is) in
      inl (record {
        place = a.place;
        below = below;
        at = sym here ∙ a.at ∙ sym (content_place a.place);
        is = sym is ∙ some_is _ _ (sym a.value ∙ d.each a.place below);
      }))
      (λ (a : IsInRow (journal_from p) p.journal.now STRAY_CELL put). inr (record {
        place = a.place;
        entry = a.value ∙ ap (λ (x : List ℕ). Some x) is;
        at = sym here ∙ a.at ∙ sym (copy_place a.place);
      }))
      h

  -- what is put is one
  pub put_row : (j : ℕ) (put : Put) → ingest_phases n p j put → (cell : ℕ) (value : List ℕ) → put.at ≡ cell
      → put.value ≡ value → (one : Phase) × (order_of one ≡ j) × Row (plan_of n p id body) one cell value
  put_row zero put h cell value here is = (
    Reserving,
    refl,
    record_row after (records.Reserve p.start (reserved_by p).length) (reserve_at n) w.filled.reserves.reserve cell
        value (sym here ∙ ap (λ (x : Put). x.at) h) (sym is ∙ ap (λ (x : Put). x.value) h),
  )
  put_row (suc zero) put h cell value here is = (
    Storing,
    refl,
    ⊎_elim
        (λ (a : IsStampPut n p.stamp put). inr (record {
          seconds = a.seconds;
          given = a.given;
          row = record_row after (records.Stamp a.seconds) (spare_at n)
              (stands_given g after n p.stamp a.seconds w.filled.stamp a.given).1 cell value
              (sym here ∙ ap (λ (x : Put). x.at) a.is) (sym is ∙ ap (λ (x : Put). x.value) a.is);
        }))
        (λ (b : IsPooledPut p put). inl (pooled_row put b cell value here is))
        h,
  )
  put_row (suc (suc zero)) put h cell value here is = (
    Committing,
    refl,
    record_row after (records.Commit (length (stored_bytes id body)) (length p.journal.now)) (outcome_at n)
        w.filled.commit cell value
        (sym here ∙ ap (λ (x : Put). x.at) h) (sym is ∙ ap (λ (x : Put). x.value) h ∙ commit_is),
  )
  put_row (suc (suc (suc zero))) put h cell value here is =
      let o = w.filled.in_order h.k (slice_get_within p.journal.now h.k put.value h.value) in
      let same : o.entry.value ≡ value =
      some_is o.entry.value value (sym o.entry.entry ∙ h.value ∙ ap (λ (x : List ℕ). Some x) is) in
      let target : o.target ≡ cell = sym (address_in o.copied o.target o.entry.value o.entry.address o.entry.is)
      ∙ ap target_of (same ∙ sym is) ∙ sym h.at ∙ here in (
        Applying,
        refl,
        record {
          place = h.k;
          entry = h.value ∙ ap (λ (x : List ℕ). Some x) is;
          copied = o.copied;
          index = o.entry.index;
          address = subst (λ (t : ℕ). t < 2 ^ 32) target o.entry.address;
          is = subst (λ (t : ℕ). IsRecordCell o.copied t value) target
              (subst (IsRecordCell o.copied o.target) same o.entry.is);
        },
      )
  put_row (suc (suc (suc (suc zero)))) put h cell value here is = (
    Finishing,
    refl,
    record_row after (records.Done n) (done_at n) w.filled.done cell value
        (sym here ∙ ap (λ (x : Put). x.at) h) (sym is ∙ ap (λ (x : Put). x.value) h),
  )
  put_row (suc (suc (suc (suc (suc j))))) put h cell value here is = absurd h

  module _ (image : Image) (phase : ℕ) (most : phase ≤ 5) (keeps : Extends old image)
      (all : AreStanding (IsInFirst (ingest_phases n p) phase) image)
      (only : ChangesBy (IsInFirst (ingest_phases n p) (phase + 1)) old image) where
    -- the rows of a phase that is over stand
    pub row_put : (one : Phase) → order_of one < phase → (cell : ℕ) (value : List ℕ)
        → Row (plan_of n p id body) one cell value → image cell ≡ Some value
    row_put Reserving less cell value row =
        ap image row.at ∙ all (reserve_put n (reserved_by p)) (0, less, refl)
        ∙ ap (λ (x : List ℕ). Some x) (sym row.is.same)
    row_put Storing less cell value (inr row) =
        ap image row.row.at
        ∙ all (stamp_put n row.seconds)
        (1, less, inl (record { seconds = row.seconds; given = row.given; is = refl }))
        ∙ ap (λ (x : List ℕ). Some x) (sym row.row.is.same)
    row_put Storing less cell value (inl row) = ⊎_elim
        (λ (c : ContentRow (plan_of n p id body) cell value).
        ap image (c.at ∙ content_place c.place)
        ∙ all (record {
          at = document_from p + c.place;
          value = content_at (stored_bytes id body) c.place;
          blame = blames.Rule STRAY_CELL;
        }) (1, less, inr (inl (record { place = c.place; at = refl; value = d.each c.place c.below; blame = refl })))
        ∙ ap (λ (x : List ℕ). Some x) (sym c.is))
        (λ (c : CopyRow (plan_of n p id body) cell value).
        ap image (c.at ∙ copy_place c.place)
        ∙ all (record {
          at = journal_from p + c.place;
          value = value;
          blame = blames.Rule STRAY_CELL;
        }) (1, less, inr (inr (record { place = c.place; at = refl; value = c.entry; blame = refl }))))
        row
    row_put Committing less cell value row =
        ap image row.at ∙ all (commit_put n p.bytes (length p.journal.now)) (2, less, refl)
        ∙ ap (λ (x : List ℕ). Some x) (commit_is ∙ sym row.is.same)
    row_put Applying less cell value row =
        ap image (sym (address_in row.copied cell value row.address row.is))
        ∙ all (record { at = target_of value; value = value; blame = blames.Journal (journal_from p + row.place) })
        (3, less, record { k = row.place; value = row.entry; at = refl; blame = refl })
    row_put Finishing less cell value row =
        ap image row.at ∙ all (done_put n) (4, less, refl) ∙ ap (λ (x : List ℕ). Some x) (sym row.is.same)

    -- so the image was left in some phase of the plan
    pub left_in : (one : Phase) × IsLeftIn (plan_of n p id body) old image one
    left_in =
        let f = phase_of phase most in (
          f.0,
          record {
            keeps = keeps;
            before = λ earlier less cell value row. row_put earlier (omega (arith, less, f.1)) cell value row;
            only = λ cell value is. ⊎_elim inl
                (λ (q : IsPut (IsInFirst (ingest_phases n p) (phase + 1)) old cell value).
                let r = put_row q.planned.0 q.put q.planned.2 cell value q.here q.is in
                inr (r.0, f.2 r.0 (omega (arith, r.1, q.planned.1)), r.2))
                (only cell value is);
          },
        )
