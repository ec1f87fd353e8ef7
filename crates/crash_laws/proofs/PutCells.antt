-- What settling puts, against what it makes of the image.
use Rattle.std.proofs.Common.{◌≡◌, ◌≤◌, ◌<◌, ◌+◌, ◌⊎◌, ℕ, List, Some, refl, sym, ap, ◌∙◌, inl, inr, ⊎_elim, subst, arith}
use Rattle.std.proofs.lemmas.Option.{none-some}
use Rattle.cell_types.specs.Image.{Image, Extends}
use Rattle.cell_types.specs.Layout.{Layout, reserve_at, outcome_at, done_at, lists_at}
use Rattle.cell_types.specs.declared.geometry.TheConstants.{MAX_SLOTS}
use Rattle.cell_types.specs.declared.record_cell.RecordCell.{RecordCell}
use Rattle.cell_types.specs.declared.record_cell.RecordCell.TheVariants as records
use Rattle.cell_types.proofs.OneRecord.{address_in}
use Rattle.commit_record.specs.declared.slot.SlotState.TheVariants.{Reserved, Committed}
use Rattle.recovery_engine.specs.declared.put.Blame.TheVariants.{Journal}
use Rattle.recovery_engine.specs.declared.put.Put.{Put}
use Rattle.recovery_engine.specs.Putting.{AreStanding, IsPut, IsInFirst, ChangesBy}
use Rattle.recovery_engine.specs.Ending.{abandon_put, done_put}
use Rattle.recovery_engine.specs.Journal.{IsEntryPut}
use Rattle.recovery_engine.specs.Settling.{settle_plan}
use Rattle.recovery_engine.specs.Entries.{target_of}
use Rattle.tamper_rules.specs.Journals.{journal_at, CopiesIndexCell}
use Rattle.tamper_rules.specs.Settling.{IsSettled, Settled, IsOneHorizon, IsWith, AbandonRow, JournalRow, DoneRow, After, nothing, abandoned, completed}
use Rattle.volume_meaning.specs.Slots.{IsReserved, IsCommitted, IsAbandonedSlot, IsDoneSlot, HasEnded, IsHorizon}
use Rattle.volume_meaning.specs.Volumes.{Holds, IsVolume}
use Rattle.volume_meaning.proofs.Holding.{some_is, one_record_holds}
use Rattle.tamper_rules.proofs.GivenUp.{no_abandon, one_layout}
use Rattle.tamper_rules.proofs.Images.{all_of_it}
use Rattle.volume_meaning.proofs.OneDocument.{reserves, commits}
use Rattle.tamper_rules.proofs.SettlingGoesOn.{goes_on, target_behind_log}

-- slot n is given up, and that cell is all that settling adds
pub record GivesUp (g : Layout) (image after : Image) (n : ℕ) : Type 0 where
  pub one : IsOneHorizon g image (n + 1)
  pub rows : IsWith (AbandonRow n) image after

-- the journal of slot n, and the cells that settling adds
pub record Completes (g : Layout) (image after : Image) (n start reserved journal : ℕ) : Type 0 where
  pub one : IsOneHorizon g image (n + 1)
  pub copies : (k : ℕ) → k < journal → (target : ℕ) × (copied : RecordCell)
      × CopiesIndexCell image start reserved journal k target copied × (lists_at g ≤ target)
  pub rows : IsWith (λ cell value. JournalRow image start reserved journal cell value
      ⊎ DoneRow n cell value) image after

module _ {cells : ℕ} {old : Image} (g : Layout) (v : IsVolume cells old g) (n : ℕ)
    (h : IsHorizon g old old (n + 1)) where
  small : n < g.slots → n < MAX_SLOTS
  small less = omega (arith, less, v.volume.is.well_formed.0.slots)

  horizon_ended : Settled cells old → HasEnded g old old n
  horizon_ended s =
      let settled : IsSettled g old = subst (λ (k : Layout). IsSettled k old)
      (one_layout s.layout g s.volume v) s.settled in
      settled.ended (n + 1) n h (omega arith)

  same_slot : (k : Layout) (m : ℕ) → IsVolume cells old k → IsOneHorizon k old (m + 1) → m ≡ n
  same_slot k m w one =
      let here : IsHorizon k old old (n + 1) = subst (λ (j : Layout). IsHorizon j old old (n + 1))
      (one_layout g k v w) h in
      let same : n + 1 ≡ m + 1 = one.one (n + 1) here in
      omega (arith, same)

  one_horizon : (k : Layout) (m : ℕ) → IsVolume cells old k → IsOneHorizon k old (m + 1) → IsOneHorizon g old (n + 1)
  one_horizon k m w one = subst (λ (j : Layout). IsOneHorizon j old (n + 1)) (one_layout k g w v)
      (subst (λ (i : ℕ). IsOneHorizon k old (i + 1)) (same_slot k m w one) one)

  -- a slot that is committed has one row of cells
  same_cells : (k : Layout) (m from more count entries : ℕ) → m ≡ n → IsCommitted k old old m from more count entries
      → (start reserved bytes journal : ℕ) → IsCommitted g old old n start reserved bytes journal
      → (from ≡ start) × (more ≡ reserved) × (entries ≡ journal)
  same_cells k m from more count entries slot d start reserved bytes journal c =
      let r = reserves from more start reserved (one_record_holds old (reserve_at n) (records.Reserve from more)
      (records.Reserve start reserved)
      (subst (λ (j : ℕ). Holds old (reserve_at j)
      (records.Reserve from more)) slot d.commits.reserves.reserve) c.commits.reserves.reserve) in
      let o = commits count entries bytes journal (one_record_holds old (outcome_at n) (records.Commit count entries)
      (records.Commit bytes journal)
      (subst (λ (j : ℕ). Holds old (outcome_at j)
      (records.Commit count entries)) slot d.commits.outcome) c.commits.outcome) in
      (r.0, r.1, o.1)

  -- where the slot is reserved, settling gives it up
  pub ends_reserved : (after : Image) (start reserved : ℕ) → IsReserved g old old n start reserved
      → After cells old after → GivesUp g old after n
  ends_reserved after start reserved r (nothing s same) = absurd (⊎_elim
      (λ (a : IsAbandonedSlot g old old n). none-some _ (sym r.outcome ∙ a.abandoned.abandons.outcome.stands))
      (λ (d : IsDoneSlot g old n). none-some _ (sym r.outcome ∙ d.done.commits.outcome.stands))
      (horizon_ended s))
  ends_reserved after start reserved r (abandoned k m from more w one q rows) = record {
    one = one_horizon k m w one;
    rows = subst (λ (j : ℕ). IsWith (AbandonRow j) old after) (same_slot k m w one) rows;
  }
  ends_reserved after start reserved r (completed k m from more bytes journal w one c ready rows) =
      absurd (none-some _ (sym r.outcome ∙ ap (λ (j : ℕ). old (outcome_at j)) (sym (same_slot k m w one))
      ∙ c.commits.outcome.stands))

  same_completed : (after : Image) (from more entries start reserved journal : ℕ)
      → (from ≡ start) × (more ≡ reserved) × (entries ≡ journal) → Completes g old after n from more entries
      → Completes g old after n start reserved journal
  same_completed after from more entries start reserved journal same x =
      subst (Completes g old after n start reserved) same.2
      (subst (λ (j : ℕ). Completes g old after n start j entries) same.1
      (subst (λ (j : ℕ). Completes g old after n j more entries) same.0 x))

  -- where the slot is committed, settling carries its journal out
  pub ends_committed : (after : Image) (start reserved bytes journal : ℕ)
      → IsCommitted g old old n start reserved bytes journal → After cells old after
      → Completes g old after n start reserved journal
  ends_committed after start reserved bytes journal c (nothing s same) = absurd (⊎_elim
      (λ (a : IsAbandonedSlot g old old n). no_abandon bytes journal
      (one_record_holds old (outcome_at n)
      (records.Commit bytes journal) records.Abandon c.commits.outcome a.abandoned.abandons.outcome))
      (λ (d : IsDoneSlot g old n). none-some _ (sym c.done ∙ d.done.done.stands))
      (horizon_ended s))
  ends_committed after start reserved bytes journal c (abandoned k m from more w one q rows) =
      absurd (none-some _ (sym q.outcome ∙ ap (λ (j : ℕ). old (outcome_at j)) (same_slot k m w one)
      ∙ c.commits.outcome.stands))
  ends_committed after start reserved bytes journal c (completed k m from more count entries w one d ready rows) =
      let slot : m ≡ n = same_slot k m w one in
      let same = same_cells k m from more count entries slot d start reserved bytes journal c in
      let first : Completes k old after m from more entries = record {
        one = one;
        copies = λ place below. let o = ready.in_order place below in
            (o.target, o.copied, o.copies, target_behind_log ready.in_order o.copies);
        rows = rows;
      } in
      let here : Completes g old after n from more entries =
      subst (λ (j : ℕ). Completes g old after j from more entries) slot
      (subst (λ (j : Layout). Completes j old after m from more entries) (one_layout k g w v) first) in
      same_completed after from more entries start reserved journal same here

  module _ (after : Image) (a : After cells old after) (s : Settled cells after) (image : Image)
      (e : Extends old image) (phase : ℕ) where
    -- the slot is reserved
    module _ (start reserved : ℕ) (r : IsReserved g old old n start reserved)
        (only : ChangesBy (IsInFirst (settle_plan old n (Reserved start reserved)) (phase + 1)) old image) where
      reserved_rows : IsWith (AbandonRow n) old after
      reserved_rows = (ends_reserved after start reserved r a).rows

      abandon_is : (put : Put) → IsInFirst (settle_plan old n (Reserved start reserved)) (phase + 1) put
          → put ≡ abandon_put n
      abandon_is put p = ⊎_elim
          (λ (x : (p.0 ≡ 1) × (put ≡ abandon_put n)). x.1)
          (λ (x : (p.0 ≡ 2) × ⊥). absurd x.1)
          p.2

      pub reserved_below : Extends image after
      reserved_below = record {
        keeps = λ cell value is. ⊎_elim
            (λ (was : old cell ≡ Some value). reserved_rows.keeps.keeps cell value was)
            (λ (q : IsPut (IsInFirst (settle_plan old n (Reserved start reserved)) (phase + 1)) old cell value).
            let same = abandon_is q.put q.planned in
            reserved_rows.adds cell value (record {
              at = sym q.here ∙ ap (λ (x : Put). x.at) same;
              is = record { fits = tt; well_formed = tt; same = sym q.is ∙ ap (λ (x : Put). x.value) same };
            }))
            (only cell value is);
      }

      pub reserved_goes_on : After cells image after
      reserved_goes_on = goes_on cells old after image a s e reserved_below
          (λ k m from more bytes journal w c d. absurd (⊎_elim
          (λ (was : old (done_at m) ≡ Some d.found). none-some _ (sym c.done ∙ was))
          (λ (q : IsPut (IsInFirst (settle_plan old n (Reserved start reserved)) (phase + 1)) old (done_at m) d.found).
          omega (arith, q.here, ap (λ (x : Put). x.at) (abandon_is q.put q.planned)))
          (only (done_at m) d.found d.stands)))

      pub reserved_whole : image (outcome_at n) ≡ Some (abandon_put n).value → image ≡ after
      reserved_whole stands = all_of_it reserved_rows e reserved_below
          (λ cell value row. ap image row.at ∙ stands ∙ ap (λ (x : List ℕ). Some x) (sym row.is.same))

    -- the slot is committed
    module _ (start reserved bytes journal : ℕ) (c : IsCommitted g old old n start reserved bytes journal)
        (only : ChangesBy (IsInFirst (settle_plan old n (Committed start reserved bytes journal))
        (phase + 1)) old image)
        (all : AreStanding (IsInFirst (settle_plan old n (Committed start reserved bytes journal)) phase) image) where
      abbrev plan : ℕ → Put → Type 0
      plan = settle_plan old n (Committed start reserved bytes journal)

      carried_out : Completes g old after n start reserved journal
      carried_out = ends_committed after start reserved bytes journal c a

      -- where a journal cell goes
      target_is : (k cell : ℕ) (value : List ℕ) (copied : RecordCell)
          → CopiesIndexCell old start reserved journal k cell copied
          → old (journal_at start reserved journal + k) ≡ Some value
          → target_of value ≡ cell
      target_is k cell value copied x stands =
          let same : x.entry ≡ value = some_is x.entry value (sym x.stands ∙ stands) in
          ap target_of (sym same) ∙ address_in copied cell x.entry x.address x.is

      entry_row : (cell : ℕ) (value : List ℕ) (put : Put) → put.at ≡ cell → put.value ≡ value → IsEntryPut old
          (journal_at start reserved journal) journal put → JournalRow old start reserved journal cell value ×
          (lists_at g ≤ cell)
      entry_row cell value put here is x =
          let o = carried_out.copies x.0 x.1 in
          let stands : old (journal_at start reserved journal + x.0) ≡ Some value = x.2.stands ∙ ap
          (λ (y : List ℕ). Some y) is in
          let target : o.0 ≡ cell = sym (target_is x.0 o.0 value o.1 o.2 stands) ∙ ap target_of (sym is) ∙ sym x.2.at
          ∙ here in (
            record {
              place = x.0;
              copied = o.1;
              copies = subst
                  (λ (t : ℕ). CopiesIndexCell old start reserved journal x.0 t o.1) target o.2;
              stands = stands;
            },
            omega (arith, o.3, target),
          )

      done_row : (cell : ℕ) (value : List ℕ) (put : Put) → put.at ≡ cell → put.value ≡ value → put ≡ done_put n
          → DoneRow n cell value
      done_row cell value put here is same = record {
        at = sym here ∙ ap (λ (x : Put). x.at) same;
        is = record {
          fits = (let z : n < MAX_SLOTS = small c.commits.reserves.slot in omega (arith, z));
          well_formed = small c.commits.reserves.slot;
          same = sym is ∙ ap (λ (x : Put). x.value) same;
        };
      }

      pub committed_below : Extends image after
      committed_below = record {
        keeps = λ cell value is. ⊎_elim
            (λ (was : old cell ≡ Some value). carried_out.rows.keeps.keeps cell value was)
            (λ (q : IsPut (IsInFirst plan (phase + 1)) old cell value). carried_out.rows.adds cell value (⊎_elim
            (λ (x : (q.planned.0 ≡ 1) × IsEntryPut old (journal_at start reserved journal) journal q.put). inl
            ((entry_row cell value q.put q.here q.is x.1).0))
            (λ (x : (q.planned.0 ≡ 2) × (q.put ≡ done_put n)). inr (done_row cell value q.put q.here q.is x.1))
            q.planned.2))
            (only cell value is);
      }

      -- a journal cell at its target
      row_stands : 2 ≤ phase → (cell : ℕ) (value : List ℕ) → JournalRow old start reserved journal cell value
          → image cell ≡ Some value
      row_stands two cell value row =
          let target = target_is row.place cell value row.copied row.copies row.stands in
          ap image (sym target) ∙ all (record {
            at = target_of value;
            value = value;
            blame = Journal
                (journal_at start reserved journal + row.place);
          }) (
            1,
            omega (arith, two),
            inl (
              refl,
              (
                row.place,
                row.copies.below,
                record { stands = row.stands; at = refl; blame = refl },
              ),
            ),
          )

      pub committed_goes_on : After cells image after
      committed_goes_on = goes_on cells old after image a s e committed_below
          (λ k m from more count entries w d x cell value row. ⊎_elim
          (λ (was : old (done_at m) ≡ Some x.found). absurd (none-some _ (sym d.done ∙ was)))
          (λ (q : IsPut (IsInFirst plan (phase + 1)) old (done_at m) x.found). ⊎_elim
          (λ (y : (q.planned.0 ≡ 1) × IsEntryPut old (journal_at start reserved journal) journal q.put).
          let far = (entry_row (done_at m) x.found q.put q.here q.is y.1).1 in
          let inside : m < g.slots = subst (λ (j : Layout). m < j.slots) (one_layout k g w v) d.commits.reserves.slot in
          absurd (omega (arith, far, inside)))
          (λ (y : (q.planned.0 ≡ 2) × (q.put ≡ done_put n)).
          let slot : m ≡ n = omega (arith, q.here, ap (λ (z : Put). z.at) y.1) in
          let same = same_cells k m from more count entries slot d start reserved bytes journal c in
          let r1 : JournalRow old start more entries cell value = subst
          (λ (j : ℕ). JournalRow old j more entries cell value) same.0 row in
          let r2 : JournalRow old start reserved entries cell value = subst
          (λ (j : ℕ). JournalRow old start j entries cell value) same.1 r1 in
          let r3 : JournalRow old start reserved journal cell value = subst
          (λ (j : ℕ). JournalRow old start reserved j cell value) same.2 r2 in
          row_stands (omega (arith, q.planned.1, y.0)) cell value r3)
          q.planned.2)
          (only (done_at m) x.found x.stands))

      pub committed_whole : 2 ≤ phase → image (done_at n) ≡ Some (done_put n).value → image ≡ after
      committed_whole two stands = all_of_it carried_out.rows e committed_below (λ cell value rows. ⊎_elim
          (λ (row : JournalRow old start reserved journal cell value). row_stands two cell value row)
          (λ (row : DoneRow n cell value). ap image row.at ∙ stands ∙ ap (λ (x : List ℕ). Some x) (sym row.is.same))
          rows)
