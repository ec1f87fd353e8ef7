-- The rules that need no digest, at the cells of the small volume.
use Rattle.std.proofs.Common.{◌≡◌, ◌<◌, inl, inr, ℕ, suc, zero, refl, sym, subst, arith}
use Rattle.std.proofs.lemmas.Bool.{cases_lt}
use Rattle.cell_types.specs.Layout.{list_at}
use Rattle.cell_types.specs.declared.record_cell.RecordCell.TheVariants.{Bucket}
use Rattle.volume_meaning.specs.Volumes.{IsWritten}
use Rattle.volume_meaning.specs.Blocks.{Leads, posting_record}
use Rattle.volume_meaning.specs.Nodes.{IsNode}
use Rattle.tamper_rules.specs.Journals.{CopiesIndexCell, IsNamed, of_list, of_root}
use Rattle.tamper_rules.specs.Rules
use Rattle.tamper_rules.specs.Rules.{ReserveRule, OutcomeRule, DoneRule, HasDocument, JournalRule, RedoneRule, BlankRule, IsDoneIndexCell, EntryRule, HoldsInOrder, PointerRule, ChildRule, TilingRule}
use Rattle.small_volume.specs.SmallVolume.{small_cells, small_image, small_layout, hello_cell, world_cell, bucket_cell, a_fingerprint}
use Rattle.small_volume.proofs.Found.{numbers, alone, heads_only, root_only}
use Rattle.small_volume.proofs.OneSlot.{edge_alone}
use Rattle.small_volume.proofs.OneSlotRules.{AreRedone, IsRedone, named_alone, no_blocks}
use Rattle.small_volume.proofs.Small.{hello_posting, hello_is, hello_holds, world_posting, world_is, world_holds, bucket_is}

-- what holds at each place of the journal
at_place : (P : ℕ → Type 0) → P 0 → P 1 → P 2 → (place : ℕ) → place < 3 → P place
at_place P first second third zero below = first
at_place P first second third (suc zero) below = second
at_place P first second third (suc (suc zero)) below = third
at_place P first second third (suc (suc (suc place))) below = absurd (omega arith)

-- the journal's first place copies cell 36
copies_36 : CopiesIndexCell small_image 580 4 3 0 36 (posting_record hello_posting)
copies_36 = record {
  below = omega arith;
  entry = hello_cell;
  stands = refl;
  index = tt;
  address = omega arith;
  is = hello_is;
}

-- its second place copies cell 37
copies_37 : CopiesIndexCell small_image 580 4 3 1 37 (posting_record world_posting)
copies_37 = record {
  below = omega arith;
  entry = world_cell;
  stands = refl;
  index = tt;
  address = omega arith;
  is = world_is;
}

-- its third place copies cell 560
copies_560 : CopiesIndexCell small_image 580 4 3 2 560 (Bucket 0 a_fingerprint)
copies_560 = record {
  below = omega arith;
  entry = bucket_cell;
  stands = refl;
  index = tt;
  address = omega arith;
  is = bucket_is;
}

-- so each place is in order, and its target holds the same
pub redone : AreRedone small_layout small_image 580 4 13 3
redone = at_place (λ place. IsRedone small_layout small_image 580 4 13 3 place)
    (record {
      order = record {
        target = 36;
        copied = posting_record hello_posting;
        copies = copies_36;
        rises = inl refl;
        before_document = omega arith;
        index = of_list 0 (record { exists = omega arith; from = omega arith; below = omega arith });
      };
      same = refl;
    })
    (record {
      order = record {
        target = 37;
        copied = posting_record world_posting;
        copies = copies_37;
        rises = inr (0, 36, posting_record hello_posting, refl, copies_36, omega arith);
        before_document = omega arith;
        index = of_list 0 (record { exists = omega arith; from = omega arith; below = omega arith });
      };
      same = refl;
    })
    (record {
      order = record {
        target = 560;
        copied = Bucket 0 a_fingerprint;
        copies = copies_560;
        rises = inr (1, 37, posting_record world_posting, refl, copies_37, omega arith);
        before_document = omega arith;
        index = of_root (record { exists = tt; from = omega arith; below = omega arith });
      };
      same = refl;
    })

-- each written index cell is named
named : (cell : ℕ) → IsWritten small_image cell → IsDoneIndexCell small_layout small_image cell
    → IsNamed small_layout small_image cell
named cell w (Rules.IsDoneIndexCell.of_list l lies) =
    let number = numbers cell w in
    elim (cases_lt cell 37) [
      | inl low ↦
          let is : cell ≡ 36 = omega (arith, number, lies.exists, lies.from, lies.below) in
          subst (IsNamed small_layout small_image) (sym is) (named_alone alone copies_36)
      | inr high ↦
          let is : cell ≡ 37 = omega (arith, number, lies.exists, lies.from, lies.below) in
          subst (IsNamed small_layout small_image) (sym is) (named_alone alone copies_37)
    ]
named cell w (Rules.IsDoneIndexCell.of_root lies) =
    let is : cell ≡ 560 = omega (arith, numbers cell w, lies.from, lies.below) in
    subst (IsNamed small_layout small_image) (sym is) (named_alone alone copies_560)
named cell w (Rules.IsDoneIndexCell.of_slot m start reserved bytes journal d low high) =
    absurd (no_blocks alone refl d cell low high)

-- rule 7
pub blank_rule : (cell : ℕ) → IsWritten small_image cell → BlankRule small_layout small_image cell
blank_rule cell w = record {
  kept_blank = λ some. omega (arith, numbers cell w);
  spare = λ n inside at. absurd (omega (arith, numbers cell w));
  named = named cell w;
  edge = λ at e pool. omega (arith, edge_alone alone e, numbers cell w);
}

-- a list has its first block and no other
pub heads_alone : {from to last block : ℕ} → Leads small_image from to last block → block ≡ last
heads_alone leads = heads_only small_cells refl leads

-- the first place of the first block holds a posting
first_place : HoldsInOrder small_image 36 0
first_place = record { p = hello_posting; holds = hello_holds; rises = inl refl }

-- and so does its second, with a greater key
second_place : HoldsInOrder small_image 36 1
second_place = record {
  p = world_posting;
  holds = world_holds;
  rises = inr (0, hello_posting, refl, hello_holds, omega arith);
}

-- rule 8
pub entry_rule : (cell : ℕ) → IsWritten small_image cell → EntryRule small_layout small_image cell
entry_rule cell w = record {
  entry = λ l block place b below at.
      let number = numbers cell w in
      let head : list_at small_layout l ≡ block = heads_alone b.leads in
      let first : block ≡ 36 = omega (arith, number, head, b.list, at, below) in
      subst (λ (k : ℕ). HoldsInOrder small_image k place) (sym first) (elim (cases_lt cell 37) [
        | inl low ↦
            let is : place ≡ 0 = omega (arith, number, first, at) in
            subst (HoldsInOrder small_image 36) (sym is) first_place
        | inr high ↦
            let is : place ≡ 1 = omega (arith, number, first, at, below) in
            subst (HoldsInOrder small_image 36) (sym is) second_place
      ]);
  blank = λ l block place b from to at. omega (arith, numbers cell w, heads_alone b.leads, b.list, at, from);
}

-- rule 10: no place of a pointer is written
pub pointer_rule : (cell : ℕ) → IsWritten small_image cell → PointerRule small_layout small_image cell
pointer_rule cell w = λ l block level digit b ls d1 d2 at.
    let head : list_at small_layout l ≡ block = heads_alone b.leads in
    absurd (omega (arith, numbers cell w, head, b.list, at))

-- the root is the one node
pub root_alone : {v node : ℕ} → IsNode small_layout small_image v node → (v ≡ 0) × (node ≡ 548)
root_alone o = root_only small_layout small_cells refl o

-- rule 12: no place of a child cell is written
pub child_rule : (cell : ℕ) → IsWritten small_image cell → ChildRule small_layout small_image cell
child_rule cell w = λ v node x o less at. absurd (omega (arith, numbers cell w, (root_alone o).1, at, less))
