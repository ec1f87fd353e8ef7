-- Ingesting, cut short anywhere.
use Rattle.std.proofs.Common.{◌≡◌, ◌<◌, ◌≤◌, ◌+◌, ◌⊎◌, ⊎_elim, inl, inr, ℕ, List, Some, None, refl, sym, ◌∙◌, subst, arith, length}
use Rattle.std.proofs.lemmas.Option.{none-some, slice_get_within}
use Rattle.cell_types.specs.Image.{Image}
use Rattle.cell_types.specs.Layout.{Layout, reserve_at, outcome_at, done_at, spare_at, pool_at, lists_at}
use Rattle.cell_types.specs.declared.record_cell.RecordCell.{RecordCell}
use Rattle.cell_types.specs.declared.record_cell.RecordCell.TheVariants.{Reserve, Commit, Abandon}
use Rattle.ingest_laws.specs.Ingesting.{Plan, Phase, Reserving, Storing, Committing, Applying, Finishing, stored_of, ContentRow, CopyRow, StoredRow, StampRow, AppliedRow, Row, AnyRow, IsIngest}
use Rattle.tamper_rules.specs.Journals.{journal_at, CopiesIndexCell, IsInOrder}
use Rattle.tamper_rules.specs.Rules
use Rattle.tamper_rules.specs.Rules.{ReserveRule, OutcomeRule, DoneRule, JournalRule, RedoneRule}
use Rattle.volume_meaning.specs.Slots.{cells_for, Reserves, Commits, Stores, IsDone, IsHorizon, EndsBelow}
use Rattle.volume_meaning.specs.Volumes.{IsWritten}
use Rattle.volume_meaning.proofs.Holding.{one_record_holds}
use Rattle.tamper_rules.proofs.GivenUp.{no_abandon}
use Rattle.tamper_rules.proofs.GoingOn.{one_copy}
use Rattle.tamper_rules.proofs.Images.{look}
use Rattle.volume_meaning.proofs.OneDocument.{reserves, commits}
use Rattle.tamper_rules.proofs.Settled.{taken_below}
use Rattle.tamper_rules.proofs.SettlingGoesOn.{behind_log}

-- the cell is one of the four of slot n that an ingest writes
pub data IsLogCell (n cell : ℕ) : Type 0 where
  is_reserve : cell ≡ reserve_at n → IsLogCell n cell
  is_outcome : cell ≡ outcome_at n → IsLogCell n cell
  is_done : cell ≡ done_at n → IsLogCell n cell
  is_spare : cell ≡ spare_at n → IsLogCell n cell

-- the two images
module _ {g : Layout} {old new : Image} {p : Plan} (i : IsIngest g old new p) where
  pub begins : ReserveRule g new p.slot
  begins = i.after.met Rules.ReserveCells (reserve_at p.slot)
      (record { found = i.reserve.cell; stands = i.reserve.stands }) p.slot i.free refl

  pub same_start : (p.start ≡ begins.start) × (p.reserved ≡ begins.length)
  same_start = reserves _ _ _ _ (one_record_holds new (reserve_at p.slot) (Reserve p.start p.reserved)
      (Reserve begins.start begins.length) i.reserve begins.reserves.reserve)

  pub slot_reserves : Reserves g new p.slot p.start p.reserved
  slot_reserves = let r = begins.reserves in let same = same_start in
      record {
        slot = i.free;
        reserve = i.reserve;
        from = omega (arith, r.from, same.0);
        to = omega (arith, r.to, same.0, same.1);
      }

  pub slot_commits : Commits g new p.slot p.start p.reserved (length (stored_of p)) (length p.journal)
  slot_commits =
      let r : OutcomeRule g new p.slot = i.after.met Rules.OutcomeCells (outcome_at p.slot)
      (record { found = i.commit.cell; stands = i.commit.stands }) p.slot i.free refl in
      record {
        reserves = slot_reserves;
        outcome = i.commit;
        fits = ⊎_elim
            (λ h. absurd (no_abandon (length (stored_of p)) (length p.journal)
            (one_record_holds new (outcome_at p.slot) (Commit (length (stored_of p)) (length p.journal))
            Abandon i.commit h)))
            (λ h.
            let same = commits _ _ _ _ (one_record_holds new (outcome_at p.slot)
            (Commit (length (stored_of p)) (length p.journal)) (Commit h.0 h.1) i.commit h.2) in
            let fits : cells_for h.0 + h.1 ≤ p.reserved = h.3 p.start p.reserved i.reserve in
            subst (λ (b : ℕ). cells_for b + length p.journal ≤ p.reserved) (sym same.0) (omega (arith, same.1, fits)))
            r.outcome;
        stamped = λ version. ⊎_elim
            (λ h. absurd (no_abandon (length (stored_of p)) (length p.journal)
            (one_record_holds new (outcome_at p.slot) (Commit (length (stored_of p)) (length p.journal))
            Abandon i.commit h)))
            (λ h. h.4 version)
            r.outcome;
      }

  pub slot_done : IsDone g new p.slot p.start p.reserved (length (stored_of p)) (length p.journal)
  slot_done = record { commits = slot_commits; done = i.done }

  slot_stores : Stores g new p.slot p.start p.reserved (length (stored_of p)) (length p.journal)
  slot_stores = record { commits = slot_commits; done = inr i.done }

  pub in_order : (place : ℕ) → place < length p.journal
      → IsInOrder g new p.slot p.start p.reserved (length (stored_of p)) (length p.journal) place
  in_order place below =
      let c : JournalRule g new (outcome_at p.slot) = i.after.met Rules.Journals (outcome_at p.slot) (record {
        found = i.commit.cell;
        stands = i.commit.stands;
      }) in
      let w : IsWritten new (journal_at p.start p.reserved (length p.journal) + place) =
      c.commit p.slot p.start p.reserved (length (stored_of p)) (length p.journal) place slot_stores below refl in
      let r : JournalRule g new (journal_at p.start p.reserved (length p.journal) + place) =
      i.after.met Rules.Journals (journal_at p.start p.reserved (length p.journal) + place) w in
      r.copy p.slot p.start p.reserved (length (stored_of p)) (length p.journal) place slot_stores below refl

  -- a cell that a journal cell names holds the same
  pub redone : (place target : ℕ) (copied : RecordCell) (value : List ℕ)
      → CopiesIndexCell new p.start p.reserved (length p.journal) place target copied
      → new (journal_at p.start p.reserved (length p.journal) + place) ≡ Some value → new target ≡ Some value
  redone place target copied value c is =
      let r : RedoneRule g new (journal_at p.start p.reserved (length p.journal) + place) =
      i.after.met Rules.Targets (journal_at p.start p.reserved (length p.journal) + place) (record {
        found = value;
        stands = is;
      }) in
      r.done p.slot p.start p.reserved (length (stored_of p))
      (length p.journal) place target copied slot_done c refl ∙ is

  -- what is applied is copied in the journal, and lies behind the log
  pub applied_copies : {cell : ℕ} {value : List ℕ} → (row : AppliedRow p cell value)
      → CopiesIndexCell new p.start p.reserved (length p.journal) row.place cell row.copied
  applied_copies {cell} {value} row = record {
    below = slice_get_within p.journal row.place value row.entry;
    entry = value;
    stands = i.rows.adds (journal_at p.start p.reserved (length p.journal) + row.place) value
        (Storing, inl (inr (record { place = row.place; entry = row.entry; at = refl })));
    index = row.index;
    address = row.address;
    is = row.is;
  }

  pub applied_far : {cell : ℕ} {value : List ℕ} → AppliedRow p cell value → lists_at g ≤ cell
  applied_far {cell} {value} row =
      let c = applied_copies row in
      let o = in_order row.place c.below in
      let same = one_copy new p.start p.reserved (length p.journal) row.place cell o.target row.copied
      o.copied c o.copies in
      omega (arith, behind_log o.index, same.1)

  -- what is stored lies in the slot's cells
  pub stored_from : {cell : ℕ} {value : List ℕ} → StoredRow p cell value → p.start ≤ cell
  stored_from {cell} {value} row = ⊎_elim
      (λ (c : ContentRow p cell value). omega (arith, c.at, slot_commits.fits))
      (λ (c : CopyRow p cell value). omega (arith, c.at, slot_commits.fits))
      row

  pub stored_to : {cell : ℕ} {value : List ℕ} → StoredRow p cell value → cell < p.start + p.reserved
  stored_to {cell} {value} row = ⊎_elim
      (λ (c : ContentRow p cell value). omega (arith, c.at, c.below, slot_commits.fits))
      (λ (c : CopyRow p cell value). let below : c.place < length p.journal = slice_get_within p.journal c.place value
      c.entry in omega (arith, c.at, slot_commits.fits))
      row

  -- the log changes in four cells
  pub log_row : (cell : ℕ) (value : List ℕ) → cell < lists_at g → (phase : Phase) → Row p phase cell value
      → IsLogCell p.slot cell
  log_row cell value low Reserving row = is_reserve row.at
  log_row cell value low Storing row = ⊎_elim
      (λ stored. absurd (let far = stored_from stored in omega (arith, far, slot_reserves.from)))
      (λ (s : StampRow p cell value). is_spare s.row.at)
      row
  log_row cell value low Committing row = is_outcome row.at
  log_row cell value low Applying row = absurd (let far = applied_far row in omega arith)
  log_row cell value low Finishing row = is_done row.at

  pub log_of : (cell : ℕ) (value : List ℕ) → cell < lists_at g → new cell ≡ Some value
      → (old cell ≡ Some value) ⊎ IsLogCell p.slot cell
  log_of cell value low is =
      ⊎_elim inl (λ (row : AnyRow p cell value). inr (log_row cell value low row.0 row.1)) (i.rows.only cell value is)

  -- slot n was unused
  pub outcome_blank : old (outcome_at p.slot) ≡ None
  outcome_blank = ⊎_elim (λ none. none)
      (λ h. let o : OutcomeRule g old p.slot = i.before.met Rules.OutcomeCells (outcome_at p.slot)
      (record { found = h.0; stands = h.1 }) p.slot i.free refl in
      absurd (none-some _ (sym (i.horizon.free i.free) ∙ o.reserve.stands)))
      (look old (outcome_at p.slot))

  pub done_blank : old (done_at p.slot) ≡ None
  done_blank = ⊎_elim (λ none. none)
      (λ h. let r : DoneRule old p.slot = i.before.met Rules.DoneCells (done_at p.slot)
      (record { found = h.0; stands = h.1 }) p.slot i.free refl in
      absurd (none-some _ (sym outcome_blank ∙ r.commit.stands)))
      (look old (done_at p.slot))

  -- the new image's horizon
  pub next_horizon : IsHorizon g new new (p.slot + 1)
  next_horizon = record {
    most = omega (arith, i.free);
    below = λ m is.
        let same : p.slot ≡ m = omega arith in
        subst (λ (k : ℕ). IsWritten new (reserve_at k)) same (record {
          found = i.reserve.cell;
          stands = i.reserve.stands;
        });
    free = λ less. ⊎_elim (λ none. none)
        (λ h. ⊎_elim
        (λ before.
        let w = taken_below g old i.before (p.slot + 1) less (record { found = h.0; stands = before }) p.slot
        (omega arith) in
        absurd (none-some _ (sym (i.horizon.free i.free) ∙ w.stands)))
        (λ of. absurd (no_log of))
        (log_of (reserve_at (p.slot + 1)) h.0 (omega arith) h.1))
        (look new (reserve_at (p.slot + 1)));
  }
    where
      no_log : IsLogCell p.slot (reserve_at (p.slot + 1)) → ⊥
      no_log (is_reserve at) = omega arith
      no_log (is_outcome at) = omega arith
      no_log (is_done at) = omega arith
      no_log (is_spare at) = omega arith

  -- where the old image's reservations end
  pub begins_there : EndsBelow g old p.slot p.start
  begins_there = ⊎_elim
      (λ (z : (p.slot ≡ 0) × (begins.start ≡ pool_at g)). inl (z.0, (same_start).0 ∙ z.1))
      (λ (w : (m : ℕ) × (from : ℕ) × (size : ℕ) × (p.slot ≡ m + 1) × Reserves g new m from size
      × (begins.start ≡ from + size)).
      let r = w.4 in
      let stood : old (reserve_at w.0) ≡ Some r.reserve.cell = ⊎_elim (λ was. was) (λ of. absurd (no_log w.0 w.3 of))
      (log_of (reserve_at w.0) r.reserve.cell (omega (arith, r.slot)) r.reserve.stands) in
      inr (
        w.0,
        w.1,
        w.2,
        w.3,
        record {
          slot = r.slot;
          reserve = record
              { cell = r.reserve.cell; stands = stood; is = r.reserve.is };
          from =
              r.from;
          to = r.to;
        },
        (same_start).0 ∙ w.5,
      ))
      begins.begins
    where
      no_log : (m : ℕ) → p.slot ≡ m + 1 → IsLogCell p.slot (reserve_at m) → ⊥
      no_log m next (is_reserve at) = omega arith
      no_log m next (is_outcome at) = omega arith
      no_log m next (is_done at) = omega arith
      no_log m next (is_spare at) = omega arith
