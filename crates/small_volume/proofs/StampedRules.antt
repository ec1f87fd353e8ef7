-- The rules at the cells of the stamped volume, by their numbers.
use Rattle.std.proofs.Common.{◌≡◌, ◌<◌, ◌⊎◌, inl, inr, ℕ, suc, zero, [], Some, refl, sym, subst, arith, codes}
use Rattle.cell_types.specs.Layout.{list_at, reserve_at}
use Rattle.cell_types.specs.declared.record_cell.RecordCell.TheVariants.{Bucket}
use Rattle.volume_meaning.specs.Volumes.{Holds, IsWritten}
use Rattle.volume_meaning.specs.Blocks.{PostingFields, Leads, posting_record}
use Rattle.volume_meaning.specs.Nodes.{IsNode}
use Rattle.volume_meaning.specs.Postings.{time_posting}
use Rattle.volume_meaning.proofs.Fronts.{one_posting}
use Rattle.tamper_rules.specs.Journals.{CopiesIndexCell, IsNamed, of_list, of_root}
use Rattle.tamper_rules.specs.Rules
use Rattle.tamper_rules.specs.Rules.{ReserveRule, OutcomeRule, DoneRule, HasDocument, JournalRule, RedoneRule, BlankRule, IsDoneIndexCell, IsTrueStamp, EntryRule, HoldsInOrder, PostingRule, IsTruePosting, PointerRule, BucketRule, IsTrueBucket, ChildRule, TrailRule, PathRule, TilingRule}
use Rattle.small_volume.specs.SmallVolume.{a_fingerprint, bucket_cell}
use Rattle.small_volume.specs.StampedVolume.{stamped_cells, stamped_image, stamped_layout, stamped_reserve_cell, time_cell}
use Rattle.small_volume.proofs.Found.{heads_only, one_of, root_only}
use Rattle.small_volume.proofs.OneSlot.{IsAlone, edge_alone, live_alone}
use Rattle.small_volume.proofs.OneSlotRules.{AreRedone, IsRedone, named_alone, no_blocks}
use Rattle.small_volume.proofs.Small.{bucket_is}
use Rattle.small_volume.proofs.Stamped.{has_stamp, stamp_0, slot_0, stands_0, time_is, time_holds}
use Rattle.small_volume.proofs.StampedIndex.{is_time, postings, trail_of}

-- the numbers of the ten written cells
pub numbers : (cell : ℕ) → IsWritten stamped_image cell
    → (cell ≡ 0) ⊎ (cell ≡ 4) ⊎ (cell ≡ 5) ⊎ (cell ≡ 6) ⊎ (cell ≡ 7) ⊎ (cell ≡ 560) ⊎ (cell ≡ 580)
    ⊎ (cell ≡ 836) ⊎ (cell ≡ 837) ⊎ (cell ≡ 838) ⊎ ⊥
numbers cell w = one_of stamped_cells cell w

-- slot 0 alone is taken
pub alone : IsAlone stamped_layout stamped_image 836 3 2 2
alone = record { some = omega arith; only = λ n inside w. omega (arith, numbers (reserve_at n) w); done = slot_0 }

-- what holds at each place of the journal
at_place : (P : ℕ → Type 0) → P 0 → P 1 → (place : ℕ) → place < 2 → P place
at_place P first second zero below = first
at_place P first second (suc zero) below = second
at_place P first second (suc (suc place)) below = absurd (omega (arith, below))

-- the journal's first place copies cell 560
copies_560 : CopiesIndexCell stamped_image 836 3 2 0 560 (Bucket 0 a_fingerprint)
copies_560 = record {
  below = omega arith;
  entry = bucket_cell;
  stands = refl;
  index = tt;
  address = omega arith;
  is = bucket_is;
}

-- its second place copies cell 580
copies_580 : CopiesIndexCell stamped_image 836 3 2 1 580 (posting_record (time_posting 0 1000))
copies_580 = record {
  below = omega arith;
  entry = time_cell;
  stands = refl;
  index = tt;
  address = omega arith;
  is = time_is;
}

-- so each place is in order, and its target holds the same
pub redone : AreRedone stamped_layout stamped_image 836 3 2 2
redone = at_place (λ place. IsRedone stamped_layout stamped_image 836 3 2 2 place)
    (record {
      order = record {
        target = 560;
        copied = Bucket 0 a_fingerprint;
        copies = copies_560;
        rises = inl refl;
        before_document = omega arith;
        index = of_root (record { exists = tt; from = omega arith; below = omega arith });
      };
      same = refl;
    })
    (record {
      order = record {
        target = 580;
        copied = posting_record (time_posting 0 1000);
        copies = copies_580;
        rises = inr (0, 560, Bucket 0 a_fingerprint, refl, copies_560, omega arith);
        before_document = omega arith;
        index = of_list 2 (record { exists = omega arith; from = omega arith; below = omega arith });
      };
      same = refl;
    })

-- each written index cell is named
named : (cell : ℕ) → IsWritten stamped_image cell → IsDoneIndexCell stamped_layout stamped_image cell
    → IsNamed stamped_layout stamped_image cell
named cell w (Rules.IsDoneIndexCell.of_list l lies) =
    let is : cell ≡ 580 = omega (arith, numbers cell w, lies.exists, lies.from, lies.below) in
    subst (IsNamed stamped_layout stamped_image) (sym is) (named_alone alone copies_580)
named cell w (Rules.IsDoneIndexCell.of_root lies) =
    let is : cell ≡ 560 = omega (arith, numbers cell w, lies.from, lies.below) in
    subst (IsNamed stamped_layout stamped_image) (sym is) (named_alone alone copies_560)
named cell w (Rules.IsDoneIndexCell.of_slot m start reserved bytes journal d low high) =
    absurd (no_blocks alone refl d cell low high)

-- the stamp of slot 0 is in order: no slot is lower
true_stamp : IsTrueStamp stamped_layout stamped_image 0
true_stamp = record {
  version = refl;
  reserve = record { found = stamped_reserve_cell; stands = refl };
  seconds = 1000;
  stamp = has_stamp;
  rises = λ m lower below done has. absurd (omega (arith, below));
}

-- rule 7
pub blank_rule : (cell : ℕ) → IsWritten stamped_image cell → BlankRule stamped_layout stamped_image cell
blank_rule cell w = record {
  kept_blank = λ some. omega (arith, numbers cell w);
  spare = λ n inside at.
      let first : n ≡ 0 = omega (arith, numbers cell w, inside, at) in
      subst (IsTrueStamp stamped_layout stamped_image) (sym first) true_stamp;
  named = named cell w;
  edge = λ at e pool. omega (arith, edge_alone alone e, numbers cell w);
}

-- a list has its first block and no other
heads_alone : {from to last block : ℕ} → Leads stamped_image from to last block → block ≡ last
heads_alone leads = heads_only stamped_cells refl leads

-- the first place of the time list holds a posting
first_place : HoldsInOrder stamped_image 580 0
first_place = record { p = time_posting 0 1000; holds = time_holds; rises = inl refl }

-- rule 8
pub entry_rule : (cell : ℕ) → IsWritten stamped_image cell → EntryRule stamped_layout stamped_image cell
entry_rule cell w = record {
  entry = λ l block place b below at.
      let number = numbers cell w in
      let head : list_at stamped_layout l ≡ block = heads_alone b.leads in
      let block_is : block ≡ 580 = omega (arith, number, head, b.list, at, below) in
      let place_is : place ≡ 0 = omega (arith, number, head, b.list, at, below) in
      subst (λ (k : ℕ). HoldsInOrder stamped_image k place) (sym block_is)
      (subst (HoldsInOrder stamped_image 580) (sym place_is) first_place);
  blank = λ l block place b from to at. omega (arith, numbers cell w, heads_alone b.leads, b.list, at, from, to);
}

-- the time posting is a true one
true_time : IsTruePosting stamped_layout stamped_image 2 (time_posting 0 1000)
true_time = record {
  slot = 0;
  live = live_alone alone;
  id = codes "a";
  body = [];
  stands = stands_0;
  postings = postings;
  stamp = Some 1000;
  is_stamp = stamp_0;
  is = is_time;
}

-- rule 9
pub posting_rule : (cell : ℕ) → IsWritten stamped_image cell
    → PostingRule stamped_layout stamped_image cell
posting_rule cell w = λ l block place p b below at h.
    let number = numbers cell w in
    let head : list_at stamped_layout l ≡ block = heads_alone b.leads in
    let list : l ≡ 2 = omega (arith, number, head, b.list, at, below) in
    let is : cell ≡ 580 = omega (arith, number, head, b.list, at, below) in
    let held = subst (λ (k : ℕ). Holds stamped_image k (posting_record p)) is h in
    let same : p ≡ time_posting 0 1000 = one_posting stamped_image 580 p (time_posting 0 1000) held time_holds in
    subst (λ (k : ℕ). IsTruePosting stamped_layout stamped_image k p) (sym list)
    (subst (λ (q : PostingFields). IsTruePosting stamped_layout stamped_image 2 q) (sym same) true_time)

-- rule 10: no place of a pointer is written
pub pointer_rule : (cell : ℕ) → IsWritten stamped_image cell → PointerRule stamped_layout stamped_image cell
pointer_rule cell w = λ l block level digit b ls d1 d2 at.
    let head : list_at stamped_layout l ≡ block = heads_alone b.leads in
    absurd (omega (arith, numbers cell w, head, b.list, at, ls, d1, d2))

-- the root is the one node
root_alone : {v node : ℕ} → IsNode stamped_layout stamped_image v node → (v ≡ 0) × (node ≡ 548)
root_alone o = root_only stamped_layout stamped_cells refl o

-- rule 12: no place of a child cell is written
pub child_rule : (cell : ℕ) → IsWritten stamped_image cell → ChildRule stamped_layout stamped_image cell
child_rule cell w = λ v node x o less at. absurd (omega (arith, numbers cell w, (root_alone o).1, at, less))

-- rule 13, of slot 0
pub trail_rule : TrailRule stamped_layout stamped_image 0 []
trail_rule = record { postings = postings; stamp = Some 1000; is_stamp = stamp_0; trails = trail_of }
