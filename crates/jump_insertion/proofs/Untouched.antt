-- A list of which nothing is planned, and that it stays so.
use Rattle.std.proofs.Common.{◌≡◌, ◌≢◌, ◌<◌, ◌≤◌, ◌+◌, ⊎_elim, ℕ, Some, None, ap, sym, arith, ◌∙◌}
use Rattle.std.proofs.lemmas.Bool.{cases_eq}
use Rattle.std.proofs.lemmas.Option.{none-some}
use Rattle.cell_types.specs.declared.record_cell.RecordCell.{RecordCell}
use Rattle.volume_meaning.specs.Blocks.{PostingFields}
use Rattle.volume_meaning.specs.Nodes.{AreApart}
use Rattle.worm_device.specs.Views.{ViewState, IsView}
use Rattle.worm_device.specs.declared.owner.Owner.{Owner}
use Rattle.jump_insertion.specs.Inserting.{IsPlannedInList, PlansEntry, alone, with_pointer}
use Rattle.jump_insertion.specs.Readiness.{IsReadyList, IsUntouched}
use Rattle.jump_insertion.proofs.Showing.{some_same}

pub nothing_touched : (s : ViewState) (head : ℕ) → IsView s → ((cell : ℕ) → s.planned cell ≡ None) → IsUntouched s head
nothing_touched s head view free = record {
  none = λ cell owner is same. none-some owner (sym (view.unowned cell (free cell)) ∙ is);
  first = λ cell owner is from to. none-some owner (sym (view.unowned cell (free cell)) ∙ is);
}

pub untouched_ready : (s : ViewState) (head floor next key : ℕ) → IsUntouched s head → IsReadyList s head floor next key
untouched_ready s head floor next key untouched = record {
  first = record {
    inside = λ cell owner is from to. absurd (untouched.first cell owner is from to);
    apart = λ cell owner is same. absurd (untouched.none cell owner is same);
  };
  mine = λ cell owner is same. absurd (untouched.none cell owner is same);
  named = λ cell owner is same. absurd (untouched.none cell owner is same);
  reached = λ cell owner is same. absurd (untouched.none cell owner is same);
  inside = λ cell owner is same. absurd (untouched.none cell owner is same);
}

module _ (head floor : ℕ) (old new : ViewState) (other : ℕ) (differ : other ≢ head)
    (apart : AreApart other 256 head 256)
    (before : other + 256 ≤ floor) where
  -- a cell that was planned for another list is not this one's
  not_mine : {r : RecordCell} {at : ℕ} → IsPlannedInList head floor r at old new → (cell : ℕ) (owner : Owner) → cell ≡ at
      → new.owners cell ≡ Some owner → owner.head ≡ other → ⊥
  not_mine {r} {at} planned cell owner same is is_other =
      let owner_is : owner ≡ record { head = head; base = planned.block } =
      some_same owner (record { head = head; base = planned.block }) (sym is ∙ ap new.owners same ∙ planned.for_whom) in
      differ (sym is_other ∙ ap (λ (x : Owner). x.head) owner_is)

  -- nor does it lie in this one's first block
  not_in_first : {r : RecordCell} {at : ℕ} → IsPlannedInList head floor r at old new → (cell : ℕ) → cell ≡ at
      → other ≤ cell
      → cell < other + 256 → ⊥
  not_in_first planned cell same from to = ⊎_elim
      (λ (first : planned.block ≡ head). ⊎_elim
      (λ (a : other + 256 ≤ head). omega (arith, a, first, planned.from, same, to))
      (λ (b : head + 256 ≤ other). omega (arith, b, first, planned.to, same, from))
      apart)
      (λ (past : floor ≤ planned.block). omega (arith, past, planned.from, same, to, before))
      planned.where_blocks_lie

  pub stays_untouched : (next to : ℕ) (p : PostingFields) (at : ℕ) → PlansEntry head floor next to p at old new
      → IsUntouched old other → IsUntouched new other
  stays_untouched next to p at (alone posting others same_next) untouched = record {
    none = λ cell owner is same. ⊎_elim
        (λ here. not_mine posting cell owner here is same)
        (λ elsewhere. untouched.none cell owner (sym (others cell elsewhere).owners ∙ is) same)
        (cases_eq cell at);
    first = λ cell owner is from to. ⊎_elim
        (λ here. not_in_first posting cell here from to)
        (λ elsewhere. untouched.first cell owner (sym (others cell elsewhere).owners ∙ is) from to)
        (cases_eq cell at);
  }
  stays_untouched next to p at (with_pointer pointer target posting jump parted others taken) untouched = record {
    none = λ cell owner is same. ⊎_elim
        (λ here. not_mine posting cell owner here is same)
        (λ elsewhere. ⊎_elim
        (λ there. not_mine jump cell owner there is same)
        (λ nor_there. untouched.none cell owner (sym (others cell elsewhere nor_there).owners ∙ is) same)
        (cases_eq cell pointer))
        (cases_eq cell at);
    first = λ cell owner is from to. ⊎_elim
        (λ here. not_in_first posting cell here from to)
        (λ elsewhere. ⊎_elim
        (λ there. not_in_first jump cell there from to)
        (λ nor_there. untouched.first cell owner (sym (others cell elsewhere nor_there).owners ∙ is) from to)
        (cases_eq cell pointer))
        (cases_eq cell at);
  }
