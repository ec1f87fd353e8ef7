-- Which cells settling puts: those that end the last slot, and none that is ahead of the log.
use Rattle.std.proofs.Common.{◌≡◌, ◌≤◌, ◌<◌, ◌+◌, ◌⊎◌, ℕ, List, Some, Ok, sym, ap, ◌∙◌, inl, inr, ⊎_elim, subst, arith}
use Rattle.cell_types.specs.Image.{Image}
use Rattle.cell_types.specs.Layout.{Layout, reserve_at, outcome_at, done_at, lists_at}
use Rattle.commit_record.specs.States.{IsState}
use Rattle.commit_record.specs.declared.slot.SlotState.{SlotState}
use Rattle.commit_record.specs.declared.slot.SlotState.TheVariants.{Unused, Reserved, Abandoned, Committed, Done}
use Rattle.recovery_engine.specs.declared.put.Put.{Put}
use Rattle.recovery_engine.specs.Putting.{IsInFirst, IsPut}
use Rattle.recovery_engine.specs.Ending.{HasJournal, abandon_put, done_put, end_phases}
use Rattle.recovery_engine.specs.Journal.{IsEntryPut}
use Rattle.recovery_engine.specs.Settling.{EndsByPhases, IsEnding, IsReady, LiesInBounds, settle_plan}
use Rattle.recovery_engine.specs.declared.settling.Ready.{Ready}
use Rattle.volume_meaning.specs.Documents.{document_at}
use Rattle.volume_meaning.specs.Slots.{EndsBelow, Reserves}
use Rattle.volume_meaning.specs.Volumes.{IsVolume}
use Rattle.volume_meaning.proofs.Extending.{reserves_on, volume_on}
use Rattle.volume_meaning.proofs.Holding.{one_record_holds}
use Rattle.tamper_rules.specs.Journals.{journal_at}
use Rattle.tamper_rules.proofs.GivenUp.{one_layout}
use Rattle.worm_device.specs.Counts.{IsStill}
use Rattle.worm_device.specs.State.{DeviceState}
use Rattle.recovery_engine.proofs.Rising.{entries_below, entries_from}

at_of : (a b : Put) → a ≡ b → a.at ≡ b.at
at_of a b e = ap (λ (x : Put). x.at) e

-- the cell is one of the index, before the end of the cells that slot n reserves
record IsIndexBelow (g : Layout) (image : Image) (n at : ℕ) : Type 0 where
  start : ℕ
  length : ℕ
  reserves : Reserves g image n start length
  from : lists_at g ≤ at
  to : at < start + length

-- the cell is slot n's outcome or done cell, or such a cell of the index
abbrev IsEndCell : Layout → Image → ℕ → ℕ → Type 0
IsEndCell g image n at = (at ≡ outcome_at n) ⊎ (at ≡ done_at n) ⊎ IsIndexBelow g image n at

module _ (g : Layout) (before image : Image) (n : ℕ) where
  -- slots that have ended get nothing
  none_put : (j : ℕ) (put : Put) → ((j ≡ 1) × ⊥) ⊎ ((j ≡ 2) × ⊥) → ⊥
  none_put j put h = ⊎_elim (λ (a : (j ≡ 1) × ⊥). a.1) (λ (b : (j ≡ 2) × ⊥). b.1) h

  -- the others get such cells
  end_cell : (state : SlotState) → IsState g before image n state → HasJournal g state image → (j : ℕ) (put : Put)
      → settle_plan image n state j put → IsEndCell g image n put.at
  end_cell Unused is journal j put h = absurd (none_put j put h)
  end_cell (Reserved s l) is journal j put h = ⊎_elim
      (λ (a : (j ≡ 1) × (put ≡ abandon_put n)). inl (at_of put _ a.1))
      (λ (b : (j ≡ 2) × ⊥). absurd b.1)
      h
  end_cell (Abandoned s l) is journal j put h = absurd (none_put j put h)
  end_cell (Committed s l b k) is journal j put h = ⊎_elim
      (λ (a : (j ≡ 1) × IsEntryPut image (journal_at s l k) k put).
      let e = a.1 in
      let high = entries_below (lists_at g) image (journal_at s l k) (document_at s l b k) k journal e.0 put.value e.1
      e.2.stands in
      let low = entries_from (lists_at g) image (journal_at s l k) (document_at s l b k) k journal e.0 put.value e.1
      e.2.stands in
      inr (inr (record {
        start = s;
        length = l;
        reserves = is.commits.reserves;
        from = omega (arith, low, e.2.at);
        to = omega (arith, high, e.2.at);
      })))
      (λ (c : (j ≡ 2) × (put ≡ done_put n)). inr (inl (at_of put _ c.1)))
      h
  end_cell (Done s l b k) is journal j put h = absurd (none_put j put h)

  some_phases : (state : SlotState) (j : ℕ) (put : Put) → settle_plan image n state j put → 1 ≤ end_phases state
  some_phases Unused j put h = absurd (none_put j put h)
  some_phases (Reserved s l) j put h = omega arith
  some_phases (Abandoned s l) j put h = absurd (none_put j put h)
  some_phases (Committed s l b k) j put h = omega arith
  some_phases (Done s l b k) j put h = absurd (none_put j put h)

-- a cell ahead of the log: of a slot from n on, or of the pool from the edge on
abbrev pub IsAhead : Layout → ℕ → ℕ → ℕ → Type 0
IsAhead g n edge cell = ((reserve_at n ≤ cell) × (cell < lists_at g)) ⊎ (edge ≤ cell)

module _ {s0 s1 : DeviceState} (r : Ready) (ready : IsReady s0 s1 r) (bounds : LiesInBounds s1 r)
    (less : r.horizon < r.volume.geometry.slots) (writes : EndsByPhases s0 s1 (Ok r))
    (still : IsStill s0.foreign_writes s1.foreign_writes) where
  ending : (put : Put) → IsInFirst (settle_plan writes.between writes.slot writes.state) 3 put
      → IsEnding s0.cells s0.image writes.between writes.slot writes.state
  ending put h = writes.ending
      (some_phases r.volume.geometry s0.image writes.between writes.slot writes.state h.0 put h.2)

  -- what stood after settling stood before it, where it is not put
  stood : (cell : ℕ) (v : List ℕ)
      → ((put : Put) → IsInFirst (settle_plan writes.between writes.slot writes.state) 3 put → put.at ≡ cell → ⊥)
      → s1.image cell ≡ Some v → s0.image cell ≡ Some v
  stood cell v never here = ⊎_elim
      (λ (was : s0.image cell ≡ Some v). was)
      (λ (q : IsPut (IsInFirst (settle_plan writes.between writes.slot writes.state) 3) s0.image cell v).
      absurd (never q.put q.planned q.here))
      (writes.only still cell v here)

  module _ (put : Put) (h : IsInFirst (settle_plan writes.between writes.slot writes.state) 3 put) where
    e : IsEnding s0.cells s0.image writes.between writes.slot writes.state
    e = ending put h

    layout_is : e.layout ≡ r.volume.geometry
    layout_is = one_layout e.layout r.volume.geometry (volume_on writes.stands e.volume) ready.volume

    -- each put ends the slot
    ends : IsEndCell r.volume.geometry writes.between writes.slot put.at
    ends = subst (λ (k : Layout). IsEndCell k writes.between writes.slot put.at) layout_is
        (end_cell e.layout s0.image writes.between writes.slot writes.state e.is e.journal h.0 put h.2)

    -- the slot is the one below the horizon
    slot_is : writes.slot + 1 ≡ r.horizon
    slot_is = sym (writes.below
        (some_phases r.volume.geometry s0.image writes.between writes.slot writes.state h.0 put h.2))

    slot_below : writes.slot < r.horizon
    slot_below = omega (arith, slot_is)

    -- so no reserve cell is put
    pub not_reserve : (m : ℕ) → m < r.volume.geometry.slots → put.at ≡ reserve_at m → ⊥
    not_reserve m some here = ⊎_elim
        (λ (a : put.at ≡ outcome_at writes.slot). omega (arith, a, here))
        (λ (rest : (put.at ≡ done_at writes.slot)
        ⊎ IsIndexBelow r.volume.geometry writes.between writes.slot put.at). ⊎_elim
        (λ (b : put.at ≡ done_at writes.slot). omega (arith, b, here))
        (λ (c : IsIndexBelow r.volume.geometry writes.between writes.slot put.at). omega (arith, c.from, here, some))
        rest)
        ends

    -- nor the volume cell
    pub not_volume : put.at ≡ 0 → ⊥
    not_volume here = ⊎_elim
        (λ (a : put.at ≡ outcome_at writes.slot). omega (arith, a, here))
        (λ (rest : (put.at ≡ done_at writes.slot)
        ⊎ IsIndexBelow r.volume.geometry writes.between writes.slot put.at). ⊎_elim
        (λ (b : put.at ≡ done_at writes.slot). omega (arith, b, here))
        (λ (c : IsIndexBelow r.volume.geometry writes.between writes.slot put.at). omega (arith, c.from, here))
        rest)
        ends

  module _ (put : Put) (h : IsInFirst (settle_plan writes.between writes.slot writes.state) 3 put) where
    -- the slot's cells end at the edge
    index_below : IsIndexBelow r.volume.geometry writes.between writes.slot put.at → put.at < r.edge
    index_below c = ⊎_elim
        (λ (a : (r.horizon ≡ 0) × (r.edge ≡ _)). absurd (omega (arith, a.0, slot_below put h)))
        (λ (b : (m : ℕ) × (start : ℕ) × (length : ℕ) × (r.horizon ≡ m + 1)
        × Reserves r.volume.geometry s1.image m start length × (r.edge ≡ start + length)).
        let same : b.0 ≡ writes.slot = omega (arith, b.3, slot_is put h) in
        let last = subst (λ (m : ℕ). Reserves r.volume.geometry s1.image m b.1 b.2) same b.4 in
        let mine = reserves_on writes.stands c.reserves in
        let one = one_record_holds s1.image (reserve_at writes.slot) _ _ last.reserve mine.reserve in
        let starts : b.1 ≡ c.start = cc in
        let lengths : b.2 ≡ c.length = cc in
        omega (arith, c.to, starts, lengths, b.5))
        ready.edge

    -- so no put lies ahead of the log
    not_ahead : IsAhead r.volume.geometry r.horizon r.edge put.at → ⊥
    not_ahead ahead = ⊎_elim
        (λ (a : put.at ≡ outcome_at writes.slot). low (omega (arith, a, slot_below put h))
        (omega (arith, a, slot_below put h, bounds.horizon, bounds.from)))
        (λ (rest : (put.at ≡ done_at writes.slot)
        ⊎ IsIndexBelow r.volume.geometry writes.between writes.slot put.at). ⊎_elim
        (λ (b : put.at ≡ done_at writes.slot). low (omega (arith, b, slot_below put h))
        (omega (arith, b, slot_below put h, bounds.horizon, bounds.from)))
        (λ (c : IsIndexBelow r.volume.geometry writes.between writes.slot put.at). ⊎_elim
        (λ (x : (reserve_at r.horizon ≤ put.at) × (put.at < lists_at r.volume.geometry)). omega (arith, x.1, c.from))
        (λ (y : r.edge ≤ put.at). omega (arith, y, index_below c))
        ahead)
        rest)
        (ends put h)
      where
        low : put.at < reserve_at r.horizon → put.at < r.edge → ⊥
        low before under = ⊎_elim
            (λ (x : (reserve_at r.horizon ≤ put.at) × (put.at < lists_at r.volume.geometry)).
            omega (arith, x.0, before))
            (λ (y : r.edge ≤ put.at). omega (arith, y, under))
            ahead

  -- what stands ahead of the log after settling stood there before
  pub stood_ahead : (cell : ℕ) (v : List ℕ) → IsAhead r.volume.geometry r.horizon r.edge cell
      → s1.image cell ≡ Some v → s0.image cell ≡ Some v
  stood_ahead cell v ahead here = stood cell v
      (λ put h at. not_ahead put h (subst (IsAhead r.volume.geometry r.horizon r.edge) (sym at) ahead))
      here

  -- and so did the volume cell
  pub volume_before : s1.cells ≡ s0.cells → IsVolume s0.cells s0.image r.volume.geometry
  volume_before cells = record {
    volume = record {
      cell = ready.volume.volume.cell;
      stands = stood 0 ready.volume.volume.cell (λ put h at. not_volume put h at) ready.volume.volume.stands;
      is = ready.volume.volume.is;
    };
    size = ready.volume.size ∙ cells;
  }

  -- and the reserve cells
  pub ends_before : EndsBelow r.volume.geometry s0.image r.horizon r.edge
  ends_before = ⊎_elim inl
      (λ (b : (m : ℕ) × (start : ℕ) × (length : ℕ) × (r.horizon ≡ m + 1)
      × Reserves r.volume.geometry s1.image m start length × (r.edge ≡ start + length)).
      inr (
        b.0,
        b.1,
        b.2,
        b.3,
        record {
          slot = b.4.slot;
          reserve = record {
            cell = b.4.reserve.cell;
            stands = stood (reserve_at b.0) b.4.reserve.cell (λ put h at. not_reserve put h b.0 b.4.slot at)
                b.4.reserve.stands;
            is = b.4.reserve.is;
          };
          from = b.4.from;
          to = b.4.to;
        },
        b.5,
      ))
      ready.edge
