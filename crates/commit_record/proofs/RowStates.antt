-- What a slot's cells make that were read in a row, between the two states of the view: as one look at the slot.
use Rattle.std.proofs.Common.{◌≡◌, ◌<◌, ◌≤◌, arith, ℕ, List, length, Option, None, Some, Ok, Err, refl, ap, subst, sym, ◌∙◌}
use Rattle.std.specs.Prelude.{IsTrue}
use Rattle.std.proofs.lemmas.Option.{none-some}
use Rattle.cell_types.specs.Layout.{Layout, TakesStamps, reserve_at, spare_at}
use Rattle.cell_types.specs.Records.{IsRecordCell}
use Rattle.cell_types.specs.declared.record_cell.RecordCell.{RecordCell}
use Rattle.cell_types.specs.declared.record_cell.RecordCell.TheVariants.{Stamp}
use Rattle.cell_types.specs.declared.refusal.Evidence.{Evidence}
use Rattle.cell_types.specs.declared.refusal.Fault.TheVariants.{Tampered}
use Rattle.volume_meaning.specs.Slots.{HasStamp}
use Rattle.volume_meaning.specs.Volumes.{Holds}
use Rattle.volume_meaning.proofs.Extending.{holds_on}
use Rattle.volume_meaning.proofs.Holding.{one_record_holds, some_is}
use Rattle.worm_device.specs.Looks.{IsSeen}
use Rattle.worm_device.specs.ReadRows.{AreFoundBetween, ViewReadsRow}
use Rattle.worm_device.specs.Views.{IsView, ViewState}
use Rattle.commit_record.specs.SlotCells.{IsSpareOfRow, ReadsSlots, SeenStamp, SlotOfRow, StampOfRow}
use Rattle.commit_record.specs.Stamps.{IsStampFound, IsStampIn}
use Rattle.commit_record.specs.States.{StateEnds}
use Rattle.worm_device.specs.declared.looks.Found.{Found}
use Rattle.worm_device.specs.declared.looks.Found.TheVariants.{Blank, Record, Stray}
use Rattle.commit_record.specs.declared.slot.SlotState.{SlotState}
use Rattle.commit_record.proofs.LooksAsOne.{state_seen, tampered_seen}
use Rattle.commit_record.proofs.RowSeen.{cell_seen, row_seen, stamp_seen}

stamps : (a b : ℕ) → Stamp a ≡ Stamp b → a ≡ b
stamps a b e = cc

-- rows that have a slot's first three cells, and its spare cell where documents are stamped
module _ (g : Layout) (n : ℕ) (row : List (Option (List ℕ))) {old new : ViewState} (reads : ReadsSlots n row old new)
    (three : 3 ≤ length row) (four : TakesStamps g → 4 ≤ length row) where
  -- what the row says of the spare cell was seen there
  spare_seen : (stamp : Option Found) → IsSpareOfRow g n row stamp → IsTrue old.base.tells
      → SeenStamp g n stamp old.image new.image
  spare_seen None plain tells = plain
  spare_seen (Some spare) is tells =
      stamp_seen g n (reserve_at n) row old new reads.found refl spare is.0 (four is.0) is.1 is.2 tells

  -- the state, as a look at the slot answers it
  pub short_row_state : (state : SlotState) → SlotOfRow g n row (Ok state) → StateEnds g n old new (Ok state)
  short_row_state state is =
      let of = is.ends in
      state_seen g n old new of.reserve of.outcome of.done is.stamp reads.viewed reads.faults
      (row_seen g n (reserve_at n) row old new reads.found refl of.reserve of.outcome of.done is.stamp
      three of.reserve_of of.outcome_of of.done_of of.reserve_is of.outcome_is of.done_is
      (spare_seen is.stamp is.spare))
      state of.ends

  -- and the cell that is out of place
  pub short_row_tampered : n < g.slots → (e : Evidence) → SlotOfRow g n row (Err e)
      → StateEnds g n old new (Err (Tampered e))
  short_row_tampered less e is =
      let of = is.ends in
      tampered_seen g n old new of.reserve of.outcome of.done is.stamp reads.viewed reads.faults
      (row_seen g n (reserve_at n) row old new reads.found refl of.reserve of.outcome of.done is.stamp
      three of.reserve_of of.outcome_of of.done_of of.reserve_is of.outcome_is of.done_is
      (spare_seen is.stamp is.spare))
      less reads.view e of.ends

-- a row that a view read from a slot's reserve cell on
pub row_reads : (n at : ℕ) (room row : List (Option (List ℕ))) {old new : ViewState} → at ≡ reserve_at n → IsView new
    → ViewReadsRow at room row old new (Ok tt) → ReadsSlots n row old new
row_reads n at room row {old} {new} here view read = record {
  viewed = read.viewed;
  view = view;
  faults = read.cause;
  found = subst (λ (k : ℕ). IsTrue old.base.tells → AreFoundBetween (length row) k row old.image new.image) here read.answer;
}

module _ (g : Layout) (n : ℕ) (row : List (Option (List ℕ))) {old new : ViewState} (reads : ReadsSlots n row old new)
    (four : 4 ≤ length row) where
  -- so it is with a row that has all four cells
  pub row_state : (state : SlotState) → SlotOfRow g n row (Ok state) → StateEnds g n old new (Ok state)
  row_state state is = short_row_state g n row reads (omega (arith, four)) (λ _. four) state is

  pub row_tampered : n < g.slots → (e : Evidence) → SlotOfRow g n row (Err e) → StateEnds g n old new (Err (Tampered e))
  row_tampered less e is = short_row_tampered g n row reads (omega (arith, four)) (λ _. four) less e is

  module _ (stamp : Option ℕ) (is : StampOfRow n row stamp) (tells : IsTrue old.base.tells) where
    seen : IsSeen old.image new.image (spare_at n) is.spare
    seen = cell_seen g n (reserve_at n) row old new reads.found refl 3 (spare_at n) is.spare (omega arith)
        (omega (arith, four)) is.of is.is tells

    -- a record that was seen there, where the slot has this stamp
    held_is : {seconds : ℕ} → HasStamp new.image n seconds → (cell : List ℕ) (held : RecordCell)
        → IsSeen old.image new.image (spare_at n) (Record cell held) → held ≡ Stamp seconds
    held_is {seconds} has cell held was = one_record_holds new.image (spare_at n) held (Stamp seconds)
        (record { cell = cell; stands = was.0; is = was.1 }) has

    -- a stamp that is told stands in the later image
    pub row_stamp : (seconds : ℕ) → stamp ≡ Some seconds → HasStamp new.image n seconds
    row_stamp seconds told = by_found is.spare seen is.told where
      by_found : (spare : Found) → IsSeen old.image new.image (spare_at n) spare → IsStampFound spare stamp
          → HasStamp new.image n seconds
      by_found Blank was none = absurd (none-some seconds (sym none ∙ told))
      by_found (Stray cell) was none = absurd (none-some seconds (sym none ∙ told))
      by_found (Record cell held) was of =
          subst (λ (h : RecordCell). Holds new.image (spare_at n) h) (subst (λ (s : Option ℕ). IsStampIn held s) told of)
          (record { cell = cell; stands = was.0; is = was.1 })

    -- and the one that stood in the earlier image is told
    pub row_stamp_was : (seconds : ℕ) → HasStamp old.image n seconds → stamp ≡ Some seconds
    row_stamp_was seconds has = by_found is.spare seen stamp is.told where
      there : Holds new.image (spare_at n) (Stamp seconds)
      there = holds_on reads.viewed.image has

      by_found : (spare : Found) → IsSeen old.image new.image (spare_at n) spare → (stamp : Option ℕ)
          → IsStampFound spare stamp → stamp ≡ Some seconds
      by_found Blank was stamp none = absurd (none-some has.cell (sym was ∙ has.stands))
      by_found (Stray cell) was stamp none =
          absurd (was.1 (Stamp seconds) (subst (λ (v : List ℕ). IsRecordCell (Stamp seconds) (spare_at n) v)
          (some_is there.cell cell (sym there.stands ∙ was.0)) there.is))
      by_found (Record cell held) was None other = absurd (other seconds (held_is there cell held was))
      by_found (Record cell held) was (Some told) of = ap Some (stamps told seconds (sym of ∙ held_is there cell held was))
