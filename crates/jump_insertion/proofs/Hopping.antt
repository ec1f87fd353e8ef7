-- What is met on a hop along a list that is planned in part.
use Rattle.std.proofs.Common.{◌≡◌, ◌<◌, ◌≤◌, ◌+◌, ◌*◌, ◌^◌, ◌⊎◌, ⊎_elim, inl, inr, ℕ, List, Some, None, Err, ap, sym, subst, arith, ◌∙◌}
use Rattle.std.specs.Prelude.{IsTrue}
use Rattle.std.proofs.lemmas.Bool.{cases_lt}
use Rattle.std.proofs.lemmas.Option.{none-some}
use Rattle.cell_types.specs.declared.record_cell.RecordCell.TheVariants.{Jump}
use Rattle.cell_types.specs.declared.refusal.Evidence.{Evidence}
use Rattle.cell_types.specs.declared.refusal.Fault.{Fault}
use Rattle.cell_types.specs.declared.refusal.Fault.TheVariants.{Tampered, Failed}
use Rattle.volume_meaning.specs.Volumes.{Holds}
use Rattle.volume_meaning.proofs.Holding.{one_record_holds}
use Rattle.volume_meaning.specs.Blocks.{Leads, pointer_at}
use Rattle.tamper_rules.proofs.GivenUp.{leads_further}
use Rattle.worm_device.specs.Views.{ViewState, IsView}
use Rattle.worm_device.specs.declared.owner.Owner.{Owner}
use Rattle.jump_block.specs.declared.spans.Span.{Span}
use Rattle.jump_block.specs.Pointing.{HasFull, HasPointer, IsPointerEvidence, HasKeyIn}
use Rattle.jump_block.proofs.OneBlock.{jump_target}
use Rattle.jump_insertion.specs.Evidence.{IsBlockMet, IsBadHop, outside, meets, ShowsBelow, bad_pointer}
use Rattle.jump_insertion.specs.Hopping.{IsAt, TargetCheckEnds}
use Rattle.jump_insertion.specs.Readiness.{IsOwnBlock, IsBlockReached, is_new, stands_below, IsListCell, a_posting, a_pointer}
use Rattle.jump_insertion.proofs.Showing.{some_or_none}

-- where a planned pointer of the list leads
pub record LeadsOn (s : ViewState) (head floor next block level digit target : ℕ) : Type 0 where
  pub from : floor ≤ target
  pub to : target + 256 ≤ next
  pub own_block : IsOwnBlock s head target
  pub reached : IsBlockReached s head floor target
  pub cell : ℕ
  pub owner : Owner
  pub planned : s.owners cell ≡ Some owner
  pub is_head : owner.head ≡ head
  pub is_base : owner.base ≡ target
  pub l : ℕ
  pub full : HasFull s.image block l
  pub has : HasKeyIn s.image target (l + digit * 16 ^ level) (l + digit * 16 ^ level + 16 ^ level)

no_posting_there : (block level digit place : ℕ) → pointer_at block level digit ≡ block + place → place < 128
    → 1 ≤ digit → ⊥
no_posting_there block level digit place is below some = omega arith

old_leads : (s : ViewState) (head floor block cell : ℕ) → IsBlockReached s head floor block → block ≤ cell → cell < s.fresh
    → Leads s.lower floor s.fresh block head
old_leads s head floor block cell (is_new past) from less = absurd (omega arith)
old_leads s head floor block cell (stands_below to led) from less = led

-- a pointer that is named as evidence
pub check_fault : (s : ViewState) (head floor next key block target : ℕ) (span : Span) (fault : Fault)
    → IsPointerEvidence block span.level span.digit target fault
    → ((e : Evidence) → IsPointerEvidence block span.level span.digit target (Tampered e) → IsTrue s.base.tells
    → ShowsBelow s head floor key e)
    → TargetCheckEnds head floor next key block span target s (Err fault)
check_fault s head floor next key block target span Failed names shows = absurd names
check_fault s head floor next key block target span (Tampered e) names shows = shows e names

module _ (s : ViewState) (view : IsView s) (head floor next key block : ℕ) (at : IsAt s head floor next key block) where
  -- what is not planned stands below, and so does the block
  pub below_here : (cell : ℕ) (value : List ℕ) → block ≤ cell → s.planned cell ≡ None → s.image cell ≡ Some value
      → (cell < s.fresh) × Leads s.lower floor s.fresh block head
  below_here cell value from free stands = ⊎_elim
      (λ less. (less, old_leads s head floor block cell at.reached from less))
      (λ past. absurd (none-some value (sym (view.beyond cell free past) ∙ stands)))
      (cases_lt cell s.fresh)

  pub owned_is_planned : (cell : ℕ) (owner : Owner) → block ≤ cell → cell < block + 256 → s.owners cell ≡ Some owner
      → IsListCell s head floor next key cell block
  owned_is_planned cell owner from to is =
      let mine = at.own_block.inside cell owner is from to in
      subst (λ b. IsListCell s head floor next key cell b) mine.1 (at.ready.mine cell owner is mine.0)

  -- a cell of the block is planned for it, or not at all
  pub planned_or_not : (cell : ℕ) → block ≤ cell → cell < block + 256
      → IsListCell s head floor next key cell block ⊎ (s.planned cell ≡ None)
  planned_or_not cell from to = ⊎_elim
      (λ none. inr (view.unplanned cell none))
      (λ (some : (owner : Owner) × (s.owners cell ≡ Some owner)). inl (owned_is_planned cell some.0 from to some.1))
      (some_or_none (s.owners cell))

  module _ (level digit target : ℕ) (levels : level < 8) (some : 1 ≤ digit) (digits : digit ≤ 15)
      (led : HasPointer s.image block level digit target) where
    pub planned_jump : IsListCell s head floor next key (pointer_at block level digit) block
        → LeadsOn s head floor next block level digit target
    planned_jump (a_posting place p is below front less) =
        absurd (no_posting_there block level digit place is below some)
    planned_jump (a_pointer level' digit' target' l cell owner place is holds from to full has planned same_head
        same_base) =
        let same_level : level' ≡ level = omega (arith, place.levels, place.some, place.digits, is) in
        let same_digit : digit' ≡ digit = omega (arith, place.levels, place.some, place.digits, is) in
        let same_target : target' ≡ target = jump_target target' target
        (one_record_holds s.image (pointer_at block level digit) (Jump target') (Jump target) holds led) in
        let named = at.ready.named cell owner planned same_head in
        let reached = at.ready.reached cell owner planned same_head in
        let P : ℕ → Type 0 = λ n. HasKeyIn s.image target' (l + digit' * 16 ^ n) (l + digit' * 16 ^ n + 16 ^ n) in
        let Q : ℕ → Type 0 = λ n. HasKeyIn s.image target' (l + n * 16 ^ level) (l + n * 16 ^ level + 16 ^ level) in
        let R : ℕ → Type 0 = λ n. HasKeyIn s.image n (l + digit * 16 ^ level) (l + digit * 16 ^ level + 16 ^ level) in
        record {
          from = omega (arith, from, same_target);
          to = omega (arith, to, same_target);
          own_block = subst (λ b. IsOwnBlock s head b) (same_base ∙ same_target) named;
          reached = subst (λ b. IsBlockReached s head floor b) (same_base ∙ same_target) reached;
          cell = cell;
          owner = owner;
          planned = planned;
          is_head = same_head;
          is_base = same_base ∙ same_target;
          l = l;
          full = full;
          has = subst R same_target (subst Q same_digit (subst P same_level has));
        }

    -- a pointer that is not planned is evidence
    pub shows_hop : s.planned (pointer_at block level digit) ≡ None → (e : Evidence)
        → IsPointerEvidence block level digit target (Tampered e) → IsBadHop s head floor block level digit e.found
        → ShowsBelow s head floor key e
    shows_hop free e names bad =
        let here = below_here (pointer_at block level digit) led.cell (omega arith) free led.stands in
        bad_pointer block level digit here.1
        (record {
          free = ap s.planned names.1 ∙ free;
          before = omega (arith, names.1, here.0);
          stands = ap s.image names.1 ∙ led.stands ∙ ap (λ (c : List ℕ). Some c) (led.is.same ∙ sym names.2);
        })
        names.0 (record { levels = levels; some = some; digits = digits }) names.1 bad

    -- the target lies outside
    pub outside_hop : s.fresh ≤ next → (target < floor) ⊎ (next < target + 256) → (e : Evidence)
        → IsPointerEvidence block level digit target (Tampered e) → ShowsBelow s head floor key e
    outside_hop fresh out e names = ⊎_elim
        (λ planned.
        let on = planned_jump planned in
        absurd (⊎_elim (λ less. omega (arith, on.from)) (λ more. omega (arith, on.to)) out))
        (λ free. shows_hop free e names
        (outside target led (⊎_elim (λ less. inl less) (λ more. inr (omega (arith, fresh, more))) out)))
        (planned_or_not (pointer_at block level digit) (omega arith) (omega arith))

    pub new_hop : s.planned (pointer_at block level digit) ≡ None → s.fresh < target + 256 → (e : Evidence)
        → IsPointerEvidence block level digit target (Tampered e) → ShowsBelow s head floor key e
    new_hop free out e names = shows_hop free e names (outside target led (inr out))

    pub met_hop : s.planned (pointer_at block level digit) ≡ None → floor ≤ target → target + 256 ≤ s.fresh
        → IsBlockMet s head target → (e : Evidence) → IsPointerEvidence block level digit target (Tampered e)
        → ShowsBelow s head floor key e
    met_hop free from to met e names = shows_hop free e names (meets target led from to met)

    -- the target is a block of the list as it stands below
    pub reached_below : s.planned (pointer_at block level digit) ≡ None → floor ≤ target → target + 256 ≤ s.fresh
        → IsBlockReached s head floor target × (pointer_at block level digit < s.fresh)
        × Leads s.lower floor s.fresh block head
    reached_below free from to =
        let here = below_here (pointer_at block level digit) led.cell (omega arith) free led.stands in
        let there : Holds s.lower (pointer_at block level digit) (Jump target) = record {
          cell = led.cell;
          stands = sym (view.below (pointer_at block level digit) free here.0) ∙ led.stands;
          is = led.is;
        } in
        (stands_below to (leads_further here.1 level digit target levels some digits there from to), here.0, here.1)
