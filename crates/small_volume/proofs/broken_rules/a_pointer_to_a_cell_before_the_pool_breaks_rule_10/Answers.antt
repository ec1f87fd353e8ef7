-- Slot 1 stands, and its journal names the pointer. The pointer's target is cell 0, which lies before the pool.
use Rattle.std.proofs.Common.{◌≡◌, ◌≤◌, ◌+◌, ℕ, List, [], Some, refl, sym, subst, arith, codes, slice_index, inl}
use Rattle.cell_types.specs.Image.{Image}
use Rattle.cell_types.specs.Records.{IsRecordCell}
use Rattle.cell_types.specs.declared.record_cell.RecordCell.TheVariants.{Reserve, Commit, Done, Jump}
use Rattle.volume_meaning.specs.Volumes.{Holds}
use Rattle.volume_meaning.specs.Slots.{Reserves, IsDone}
use Rattle.volume_meaning.specs.Documents.{Spells, IsIdentifier, content_at, stored_bytes}
use Rattle.volume_meaning.proofs.Extending.{volume_on}
use Rattle.volume_meaning.proofs.Holding.{one_record_holds}
use Rattle.tamper_rules.specs.Rules.{Pointers}
use Rattle.tamper_rules.proofs.GivenUp.{jumps}
use Rattle.small_volume.specs.Images.{with_cells}
use Rattle.small_volume.specs.SmallVolume.{small_image, small_layout}
use Rattle.small_volume.specs.ForeignCells.{second_slot_cells, reserve_cell_1, commit_cell_1, done_cell_1, jump_cell}
use Rattle.small_volume.proofs.Small.{volume}
use Rattle.small_volume.proofs.Broken.{broken, first_block}
use Rattle.small_volume.proofs.Values.{are_bytes, foreign_extends}
use Rattle.small_volume.proofs.broken_rules.a_pointer_to_a_cell_before_the_pool_breaks_rule_10.Goals as goal

-- the small volume with the whole second slot
abbrev image : Image
image = with_cells small_image second_slot_cells

-- its reserve cell is well-formed
reserve_is : IsRecordCell (Reserve 584 2) 8 reserve_cell_1
reserve_is = record { fits = (omega arith, omega arith); well_formed = omega arith; same = refl }

-- and its commit cell
commit_is : IsRecordCell (Commit 2 1) 9 commit_cell_1
commit_is = record {
  fits = (omega arith, omega arith);
  well_formed = (omega arith, omega arith, omega arith);
  same = refl;
}

-- and its done cell
done_is : IsRecordCell (Done 1) 10 done_cell_1
done_is = record { fits = omega arith; well_formed = omega arith; same = refl }

-- the pointer is a jump cell to cell 0
jump_is : IsRecordCell (Jump 0) 164 jump_cell
jump_is = record { fits = omega arith; well_formed = tt; same = refl }

-- and it stands
pointer : Holds image 164 (Jump 0)
pointer = record { cell = jump_cell; stands = refl; is = jump_is }

-- slot 1 reserves cells 584 and 585
reserves_1 : Reserves small_layout image 1 584 2
reserves_1 = record {
  slot = omega arith;
  reserve = record { cell = reserve_cell_1; stands = refl; is = reserve_is };
  from = omega arith;
  to = omega arith;
}

-- and it is done
slot_1 : IsDone small_layout image 1 584 2 2 1
slot_1 = record {
  commits = record {
    reserves = reserves_1;
    outcome = record { cell = commit_cell_1; stands = refl; is = commit_is };
    fits = omega arith;
    stamped = λ is. absurd (omega (arith, is));
  };
  done = record { cell = done_cell_1; stands = refl; is = done_is };
}

-- its cells spell its document
spells : Spells image 584 (stored_bytes (codes "b") [])
spells k below =
    let first : k ≡ 0 = omega arith in
    let stored : List ℕ = stored_bytes (codes "b") [] in
    subst (λ (k : ℕ). image (584 + k) ≡ Some (content_at stored k)) (sym first) refl

-- `b` is an identifier
is_b : IsIdentifier (codes "b")
is_b = record {
  some = omega arith;
  most = omega arith;
  each = λ i inside.
      let first : i ≡ 0 = omega arith in
      let InRange : ℕ → Type 0 = λ i. (0x21 ≤ slice_index (codes "b") i) × (slice_index (codes "b") i ≤ 0x7E) in
      subst InRange (sym first) (omega arith, omega arith);
}

pub returns-clause-stands : goal.returns-clause-stands
returns-clause-stands c = record {
  layout = small_layout;
  start = 584;
  reserved = 2;
  journal = 1;
  volume = volume_on (foreign_extends small_image second_slot_cells) volume;
  slot = omega arith;
  done = slot_1;
  spells = spells;
  is_identifier = is_b;
  is_body = record { bytes = are_bytes [] refl; most = omega arith };
}

pub returns-clause-holds : goal.returns-clause-holds
returns-clause-holds c = pointer

-- its target is 0, and would have to be at 580 or behind
pub returns-clause-broken : goal.returns-clause-broken
returns-clause-broken c = broken (foreign_extends small_image second_slot_cells) Pointers 164 jump_cell refl
    (inl (0, record { exists = omega arith; from = omega arith; below = omega arith }))
    (λ met.
    let rule = met 0 36 0 1 first_block (omega arith) (omega arith) (omega arith) refl in
    let none : 0 ≡ rule.target =
    jumps 0 rule.target (one_record_holds image 164 (Jump 0) (Jump rule.target) pointer rule.jump) in
    let from : 580 ≤ rule.target = rule.from in
    omega (arith, none, from))
