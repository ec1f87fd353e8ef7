-- Rule 7 at the spare cell of a second slot of the stamped volume, by the stamp that somebody else wrote there.
use Rattle.std.proofs.Common.{◌≡◌, ◌<◌, ◌≤◌, inl, inr, ℕ, List, refl, sym, subst, arith}
use Rattle.cell_types.specs.Image.{Image, Extends}
use Rattle.cell_types.specs.Records.{IsRecordCell}
use Rattle.cell_types.specs.declared.record_cell.RecordCell.TheVariants.{Stamp}
use Rattle.volume_meaning.specs.Slots.{HasStamp, IsDoneSlot}
use Rattle.volume_meaning.proofs.Extending.{done_on, holds_on, volume_on}
use Rattle.volume_meaning.proofs.Stamps.{one_stamp}
use Rattle.tamper_rules.specs.Rules
use Rattle.tamper_rules.specs.Rules.{BlankRule, IsBroken, IsDoneIndexCell, IsTrueStamp, StrayCells}
use Rattle.tamper_rules.specs.declared.numbers.TheConstants.{STRAY_CELL}
use Rattle.small_volume.specs.ForeignCells.{later_stamp_cell, next_reserve_cell, next_slot_cells}
use Rattle.small_volume.specs.Images.{with_cells}
use Rattle.small_volume.specs.StampedVolume.{stamped_image, stamped_layout}
use Rattle.small_volume.proofs.Stamped.{has_stamp, slot_0, volume}
use Rattle.small_volume.proofs.Values.{foreign_extends}

-- the stamped volume with a second slot that is reserved and has this stamp
abbrev with_next : List ℕ → Image
with_next stamp = with_cells stamped_image (next_slot_cells stamp)

-- what was written stands still
extends : (stamp : List ℕ) → Extends stamped_image (with_next stamp)
extends stamp = foreign_extends stamped_image (next_slot_cells stamp)

-- slot 0 is done still
done_0 : (stamp : List ℕ) → IsDoneSlot stamped_layout (with_next stamp) 0
done_0 stamp = record { start = 836; length = 3; bytes = 2; journal = 2; done = done_on (extends stamp) slot_0 }

-- and has its stamp
stamp_0 : (stamp : List ℕ) → HasStamp (with_next stamp) 0 1000
stamp_0 stamp = holds_on (extends stamp) has_stamp

-- the second slot has the stamp that was written
pub stamp_1 : (seconds : ℕ) (stamp : List ℕ) → IsRecordCell (Stamp seconds) 11 stamp
    → HasStamp (with_next stamp) 1 seconds
stamp_1 seconds stamp is = record { cell = stamp; stands = refl; is = is }

-- where that is not greater than the stamp of slot 0, the rule is broken
pub breaks : (seconds : ℕ) (stamp : List ℕ) → IsRecordCell (Stamp seconds) 11 stamp → seconds ≤ 1000
    → IsBroken 1200 (with_next stamp) STRAY_CELL 11
breaks seconds stamp is most = record {
  layout = stamped_layout;
  volume = volume_on (extends stamp) volume;
  rule = StrayCells;
  named = refl;
  place = inr (inl (1, omega arith, refl));
  written = record { found = stamp; stands = refl };
  not_met = λ met.
      let rule : IsTrueStamp stamped_layout (with_next stamp) 1 = met.spare 1 (omega arith) refl in
      let rises : 1000 < rule.seconds = rule.rises 0 1000 (omega arith) (done_0 stamp) (stamp_0 stamp) in
      let same = one_stamp (with_next stamp) 1 rule.seconds seconds rule.stamp (stamp_1 seconds stamp is) in
      omega (arith, rises, same, most);
}

-- the stamp 1001 is well-formed at cell 11
pub later_is : IsRecordCell (Stamp 1001) 11 later_stamp_cell
later_is = record { fits = omega arith; well_formed = tt; same = refl }

-- and is in order
true_stamp : IsTrueStamp stamped_layout (with_next later_stamp_cell) 1
true_stamp = record {
  version = refl;
  reserve = record { found = next_reserve_cell; stands = refl };
  seconds = 1001;
  stamp = stamp_1 1001 later_stamp_cell later_is;
  rises = λ m lower below done has.
      let first : m ≡ 0 = omega (arith, below) in
      let there = subst (λ (k : ℕ). HasStamp (with_next later_stamp_cell) k lower) first has in
      let same = one_stamp (with_next later_stamp_cell) 0 lower 1000 there (stamp_0 later_stamp_cell) in
      omega (arith, same);
}

-- a cell before the lists lies in no index
pub no_index : {image : Image} (cell : ℕ) → cell < 36 → IsDoneIndexCell stamped_layout image cell → ⊥
no_index cell before (Rules.IsDoneIndexCell.of_list l lies) = omega (arith, before, lies.from)
no_index cell before (Rules.IsDoneIndexCell.of_root lies) = omega (arith, before, lies.from)
no_index cell before (Rules.IsDoneIndexCell.of_slot m start reserved bytes journal d low high) =
    omega (arith, before, d.commits.reserves.from, low)

-- so the rule is kept there
pub keeps : BlankRule stamped_layout (with_next later_stamp_cell) 11
keeps = record {
  kept_blank = λ some. omega arith;
  spare = λ n inside at.
      let second : n ≡ 1 = omega (arith, at) in
      subst (IsTrueStamp stamped_layout (with_next later_stamp_cell)) (sym second) true_stamp;
  named = λ index. absurd (no_index 11 (omega arith) index);
  edge = λ at e pool. absurd (omega (arith, pool));
}
