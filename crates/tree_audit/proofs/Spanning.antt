-- Full blocks, and keys of their fronts.
use Rattle.std.proofs.Common.{◌≡◌, ◌<◌, ◌≤◌, ◌+◌, ◌*◌, ◌^◌, ⊎_elim, zero, suc, ℕ, refl, sym, subst, ap, arith}
use Rattle.std.specs.Prelude.{◌↔◌, IsTrue, Bool}
use Rattle.cell_types.specs.Image.{Image}
use Rattle.cell_types.specs.Layout.{Layout}
use Rattle.volume_meaning.specs.Volumes.{Holds, IsWritten}
use Rattle.volume_meaning.specs.Blocks.{PostingFields, posting_record, InFront, at_the_start, behind}
use Rattle.volume_meaning.specs.Nodes.{IsBlockOf}
use Rattle.volume_meaning.proofs.Fronts.{front_holds, one_posting}
use Rattle.tamper_rules.specs.Rules.{Entries, HoldsInOrder, EndsFront}
use Rattle.log_audit.specs.Findings.{IsMetAll}
use Rattle.log_audit.proofs.Deciding.{held_written}
use Rattle.log_audit.proofs.Orders.{below_or_at}
use Rattle.tree_audit.specs.Leading.{HasKeyBetween, IsInSpan}

-- no posting in the first places has a key between these
abbrev pub NoneBelow : Image → ℕ → ℕ → ℕ → ℕ → Type 0
NoneBelow image block low high n = (place : ℕ) (p : PostingFields) → place < n → Holds image (block + place) (posting_record p)
    → low ≤ p.key → p.key < high → ⊥

module _ (image : Image) (block : ℕ) {low high : ℕ} where
  pub none_more : {n : ℕ} → NoneBelow image block low high n
      → ((p : PostingFields) → Holds image (block + n) (posting_record p) → low ≤ p.key → p.key < high → ⊥)
      → NoneBelow image block low high (n + 1)
  none_more {n} none here place p less holds above below = ⊎_elim
      (λ (earlier : place < n). none place p earlier holds above below)
      (λ (same : place ≡ n). here p (subst (λ (k : ℕ). Holds image (block + k) (posting_record p)) same holds) above below)
      (below_or_at place n less)

  pub none_there : {n : ℕ} → NoneBelow image block low high n → 128 ≤ n → HasKeyBetween image block low high → ⊥
  none_there none all has = none has.place has.p (omega (arith, has.inside, all)) has.holds has.above has.below

-- where rule 8 is kept, what stands in the entry places of a block is its front
module _ (g : Layout) (image : Image) (met : IsMetAll g image Entries) (l block : ℕ) (is : IsBlockOf g image l block) where
  pub in_front : (place : ℕ) (p : PostingFields) → place < 128 → Holds image (block + place) (posting_record p) → InFront image block place p
  in_front zero p inside holds = at_the_start zero p refl holds
  in_front (suc before) p inside holds =
      let fine : HoldsInOrder image block (suc before) =
      (met (block + suc before) (held_written holds)).entry l block (suc before) is inside refl in
      ⊎_elim
      (λ z. absurd (omega (arith, z)))
      (λ w.
      let at : w.0 ≡ before = omega (arith, w.2) in
      let same : fine.p ≡ p = one_posting image (block + suc before) fine.p p fine.holds holds in
      let there = subst (λ (k : ℕ). Holds image (block + k) (posting_record w.1)) at w.3 in
      behind (suc before) before p w.1 (omega arith) (in_front before w.1 (omega (arith, inside)) there)
      (omega (arith, w.4, ap (λ (q : PostingFields). q.key) same)) holds)
      fine.rises

  -- a front is written up to each of its places
  written_up : (place : ℕ) (p : PostingFields) → InFront image block place p → (k : ℕ) → k ≤ place → (q : PostingFields) × InFront image block k q
  written_up place p (at_the_start _ _ start holds) k le =
      let same : place ≡ k = omega (arith, le, start) in
      (p, subst (λ (n : ℕ). InFront image block n p) same (at_the_start place p start holds))
  written_up place p (behind _ before _ q next rest less holds) k le = ⊎_elim
      (λ (earlier : k < place). written_up before q rest k (omega (arith, earlier, next)))
      (λ (same : k ≡ place). (p, subst (λ (n : ℕ). InFront image block n p) (sym same) (behind place before p q next rest less holds)))
      (below_or_at k place (omega (arith, le)))

  -- a written entry place holds a posting
  posted : (place : ℕ) → place < 128 → IsWritten image (block + place) → (p : PostingFields) × Holds image (block + place) (posting_record p)
  posted place inside written =
      let fine : HoldsInOrder image block place = (met (block + place) written).entry l block place is inside refl in (fine.p, fine.holds)

  -- with no posting in the last entry place a block is not full
  pub not_full : ((p : PostingFields) → Holds image (block + 127) (posting_record p) → ⊥) → (level digit target : ℕ)
      → IsInSpan image block level digit target → ⊥
  not_full none level digit target span = let p = posted 127 (omega arith) (span.full 127 (omega arith)) in none p.0 p.1

  module _ (greatest : PostingFields) (last : Holds image (block + 127) (posting_record greatest)) where
    front : InFront image block 127 greatest
    front = in_front 127 greatest (omega arith) last

    -- the last posting is the front's greatest
    ends : EndsFront image block greatest
    ends = record { place = 127; in_places = omega arith; in_front = front; ends = λ less. absurd (omega (arith, less)) }

    -- and no other
    one_greatest : (other : PostingFields) → EndsFront image block other → other ≡ greatest
    one_greatest other e = ⊎_elim
        (λ (less : e.place < 127). let next = written_up 127 greatest front (e.place + 1) (omega (arith, less)) in
        absurd (e.ends (omega (arith, less)) next.0 next.1))
        (λ (same : e.place ≡ 127). one_posting image (block + 127) other greatest
        (subst (λ (k : ℕ). Holds image (block + k) (posting_record other)) same (front_holds e.in_front)) last)
        (below_or_at e.place 127 (omega (arith, e.in_places)))

    full : (place : ℕ) → place < 128 → IsWritten image (block + place)
    full place inside = let q = written_up 127 greatest front place (omega (arith, inside)) in held_written (front_holds q.1)

    -- a key of the target's front lies in the span
    pub spans_tell : {low high level digit target : ℕ} → IsBlockOf g image l target
        → ((place : ℕ) (p : PostingFields) → place < 128 → Holds image (target + place) (posting_record p) → InFront image target place p)
        → level < 8 → 1 ≤ digit → digit ≤ 15 → low ≡ greatest.key + digit * 16 ^ level → high ≡ low + 16 ^ level
        → (b : Bool) → (IsTrue b ↔ HasKeyBetween image target low high) → (IsTrue b ↔ IsInSpan image block level digit target)
    spans_tell {low} {high} {level} {digit} {target} of fronts levels some digits from to b tells = (
      λ yes. let has = tells.0 yes in record {
        full = full;
        greatest = greatest;
        ends = ends;
        place = has.place;
        some = has.p;
        in_places = has.inside;
        in_front = fronts has.place has.p has.inside has.holds;
        in_span = record {
          levels = levels;
          some = some;
          digits = digits;
          low = omega (arith, has.above, from);
          high = omega (arith, has.below, from, to);
        };
      },
      λ span. let one = one_greatest span.greatest span.ends in
          let key = ap (λ (q : PostingFields). q.key) one in
          tells.1 (record {
            place = span.place;
            inside = span.in_places;
            p = span.some;
            holds = front_holds span.in_front;
            above = omega (arith, span.in_span.low, key, from);
            below = omega (arith, span.in_span.high, key, from, to);
          }),
    )
