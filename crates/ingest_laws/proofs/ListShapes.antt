-- The shape of one list goes on.
use Rattle.std.proofs.Common.{◌≡◌, ◌<◌, ◌≤◌, ◌+◌, ◌*◌, ◌⊎◌, ⊎_elim, inl, inr, ℕ, None, refl, sym, ◌∙◌, subst, ap, arith}
use Rattle.std.proofs.lemmas.Option.{none-some}
use Rattle.cell_types.specs.Image.{Image, Extends}
use Rattle.cell_types.specs.declared.record_cell.RecordCell.{RecordCell}
use Rattle.cell_types.specs.declared.record_cell.RecordCell.TheVariants.{Jump}
use Rattle.volume_meaning.specs.Blocks.{PostingFields, posting_record, InFront, IsFull, InSpan, pointer_at, Leads, arrived, onwards}
use Rattle.ingest_laws.specs.ListShapes.{PointsWell, IsWellListed, AddsOneCell, IsNewBlock}
use Rattle.volume_meaning.specs.Nodes.{AreApart}
use Rattle.tamper_rules.specs.Rules.{HoldsInOrder}
use Rattle.volume_meaning.specs.Volumes.{Holds, IsWritten}
use Rattle.volume_meaning.proofs.Extending.{holds_on}
use Rattle.volume_meaning.proofs.Holding.{one_record_holds}
use Rattle.volume_meaning.proofs.Fronts.{front_on}
use Rattle.tamper_rules.proofs.GivenUp.{jumps, leads_further}
use Rattle.tamper_rules.proofs.GoingOn.{entry_rises_on, in_order_goes_on}
use Rattle.tamper_rules.proofs.Writing.{same_or_not}

pub points_on : {old new : Image} {from to block level digit : ℕ} → Extends old new
    → PointsWell old from to block level digit → PointsWell new from to block level digit
points_on e w = record {
  target = w.target;
  jump = holds_on e w.jump;
  greatest = w.greatest;
  is_full = front_on e w.is_full;
  inside_from = w.inside_from;
  inside_to = w.inside_to;
  place = w.place;
  some = w.some;
  in_places = w.in_places;
  in_front = front_on e w.in_front;
  in_span = w.in_span;
}

pub adds_extends : {old new : Image} {at : ℕ} → AddsOneCell at old new → Extends old new
adds_extends {old} {new} {at} a = record {
  keeps = λ cell value is. ⊎_elim
      (λ same. absurd (none-some _ (sym a.was ∙ ap old (sym same) ∙ is)))
      (λ other. a.others cell other ∙ is)
      (same_or_not cell at);
}

pub written_back : {old new : Image} {cell : ℕ} → new cell ≡ old cell → IsWritten new cell → IsWritten old cell
written_back same w = record { found = w.found; stands = sym same ∙ w.stands }

pub holds_back : {old new : Image} {cell : ℕ} {r : RecordCell} → new cell ≡ old cell → Holds new cell r
    → Holds old cell r
holds_back same h = record { cell = h.cell; stands = sym same ∙ h.stands; is = h.is }

-- the pointer cell lies in the block, behind the postings
pub pointer_in : {level digit : ℕ} → level < 8 → 1 ≤ digit → digit ≤ 15
    → (128 ≤ 127 + 15 * level + digit) × (127 + 15 * level + digit < 248)
pointer_in l s d = (omega arith, omega arith)

-- where the cells of the list's blocks are the same
module _ {old new : Image} {from to head : ℕ} (w : IsWellListed old from to head) (e : Extends old new)
    (same : (block place : ℕ) → Leads old from to block head → place < 256
    → new (block + place) ≡ old (block + place)) where
  apart_back : {last block : ℕ} → Leads new from to last block → Leads old from to block head
      → Leads old from to last head
  apart_back (arrived block is) there = subst (λ (b : ℕ). Leads old from to b head) is there
  apart_back (onwards block level digit target l s d jump f t rest) there =
      apart_back rest (leads_further there level digit target l s d
      (holds_back (same block (127 + 15 * level + digit) there (omega (arith, (pointer_in l s d).1))) jump) f t)

  pub listed_back : {b : ℕ} → Leads new from to b head → Leads old from to b head
  listed_back b = apart_back b (arrived head refl)

  pub well_apart : IsWellListed new from to head
  well_apart = record {
    before = w.before;
    entries = λ block place b below is. let there = listed_back b in
        in_order_goes_on e (w.entries block place there below (written_back (same block place there (omega arith)) is));
    blank = λ block place b low high.
        let there = listed_back b in
        same block place there high ∙ w.blank block place there low high;
    pointers = λ block level digit b l s d is. let there = listed_back b in
        points_on e (w.pointers block level digit there l s d
        (written_back (same block (127 + 15 * level + digit) there (omega (arith, (pointer_in l s d).1))) is));
    apart = λ a b x y. w.apart a b (listed_back x) (listed_back y);
  }

-- with more room
module _ {image : Image} {from to wider head : ℕ} (more : to ≤ wider) (w : IsWellListed image from to head) where
  narrow : {last block : ℕ} → Leads image from wider last block → Leads image from to block head
      → Leads image from to last head
  narrow (arrived block is) there = subst (λ (b : ℕ). Leads image from to b head) is there
  narrow (onwards block level digit target l s d jump f t rest) there =
      let p = w.pointers block level digit there l s d (record { found = jump.cell; stands = jump.stands }) in
      let same : target ≡ p.target = jumps target p.target
      (one_record_holds image (pointer_at block level digit) (Jump target) (Jump p.target) jump p.jump) in
      narrow rest (leads_further there level digit target l s d jump f (omega (arith, same, p.inside_to)))

  pub back : {b : ℕ} → Leads image from wider b head → Leads image from to b head
  back b = narrow b (arrived head refl)

  pub well_wider : IsWellListed image from wider head
  well_wider = record {
    before = w.before;
    entries = λ block place b below is. w.entries block place (back b) below is;
    blank = λ block place b low high. w.blank block place (back b) low high;
    pointers = λ block level digit b l s d is. let p = w.pointers block level digit (back b) l s d is in record {
      target = p.target;
      jump = p.jump;
      greatest = p.greatest;
      is_full = p.is_full;
      inside_from = p.inside_from;
      inside_to = omega (arith, p.inside_to);
      place = p.place;
      some = p.some;
      in_places = p.in_places;
      in_front = p.in_front;
      in_span = p.in_span;
    };
    apart = λ a b x y. w.apart a b (back x) (back y);
  }

-- two cells of blocks are the same only where the blocks and the places are
pub same_cell : {image : Image} {from to head a b i j : ℕ} → IsWellListed image from to head
    → Leads image from to a head → Leads image from to b head
    → i < 256 → j < 256 → a + i ≡ b + j → (a ≡ b) × (i ≡ j)
same_cell {image} {from} {to} {head} {a} {b} {i} {j} w x y li lj is = ⊎_elim
    (λ same. (same, omega arith))
    (λ apart. absurd (⊎_elim (λ low. omega arith) (λ high. omega arith) apart))
    (w.apart a b x y)

-- with one posting more
module _ {old new : Image} {from to head block place : ℕ} {p : PostingFields} (w : IsWellListed old from to head)
    (b : Leads old from to block head) (below : place < 128)
    (a : AddsOneCell (block + place) old new) (holds : Holds new (block + place) (posting_record p))
    (rises : (place ≡ 0) ⊎ ((before : ℕ) × (q : PostingFields) × (place ≡ before + 1)
    × Holds old (block + before) (posting_record q) × (q.key < p.key))) where
  far_cell : {other i : ℕ} → Leads old from to other head → 128 ≤ i → i < 256 → new (other + i) ≡ old (other + i)
  far_cell {other} {i} there low high =
      a.others (other + i) (λ same. let h = same_cell w there b high (omega arith) same in omega (arith, h.1))

  entry_back : {last cur : ℕ} → Leads new from to last cur → Leads old from to cur head → Leads old from to last head
  entry_back (arrived cur is) there = subst (λ (k : ℕ). Leads old from to k head) is there
  entry_back (onwards cur level digit target l s d jump f t rest) there =
      entry_back rest (leads_further there level digit target l s d
      (holds_back (far_cell there (omega (arith, (pointer_in l s d).0)) (omega (arith, (pointer_in l s d).1))) jump) f
      t)

  pub entry_listed : {k : ℕ} → Leads new from to k head → Leads old from to k head
  entry_listed k = entry_back k (arrived head refl)

  new_entry : HoldsInOrder new block place
  new_entry = record {
    p = p;
    holds = holds;
    rises = entry_rises_on block (adds_extends a) rises;
  }

  pub well_with_entry : IsWellListed new from to head
  well_with_entry = record {
    before = w.before;
    entries = λ other i k less is. let there = entry_listed k in ⊎_elim
        (λ same. let h = same_cell w there b (omega arith) (omega arith) same in
        subst (λ (x : ℕ). HoldsInOrder new x i) (sym h.0) (subst (λ (x : ℕ). HoldsInOrder new block x)
        (sym h.1) new_entry))
        (λ differ. in_order_goes_on (adds_extends a) (w.entries other i there less
        (written_back (a.others (other + i) differ) is)))
        (same_or_not (other + i) (block + place));
    blank = λ other i k low high.
        let there = entry_listed k in
        far_cell there (omega arith) high ∙ w.blank other i there low high;
    pointers = λ other level digit k l s d is. let there = entry_listed k in
        points_on (adds_extends a) (w.pointers other level digit there l s d
        (written_back (far_cell there (omega (arith, (pointer_in l s d).0)) (omega (arith, (pointer_in l s d).1))) is));
    apart = λ x y i j. w.apart x y (entry_listed i) (entry_listed j);
  }

-- with one pointer more
module _ {old new : Image} {from to head block level digit target place : ℕ} {greatest some : PostingFields}
    (w : IsWellListed old from to head) (b : Leads old from to block head)
    (levels : level < 8) (low : 1 ≤ digit) (high : digit ≤ 15)
    (a : AddsOneCell (pointer_at block level digit) old new)
    (jump : Holds new (pointer_at block level digit) (Jump target))
    (full : IsFull old block greatest) (inside_from : from ≤ target) (inside_to : target + 256 ≤ to)
    (below : place < 128) (front : InFront old target place some)
    (span : InSpan greatest.key level digit some.key) where
  pointer_place : 127 + 15 * level + digit < 256
  pointer_place = let h = pointer_in levels low high in omega (arith, h.1)

  -- a cell of another block, or at another place, is as it was
  as_was : {other i : ℕ} → Leads old from to other head → i < 256
      → (other + i ≡ pointer_at block level digit → ⊥) → new (other + i) ≡ old (other + i)
  as_was {other} {i} there less differ = a.others (other + i) differ

  low_place : {other i : ℕ} → Leads old from to other head → i < 128 → new (other + i) ≡ old (other + i)
  low_place {other} {i} there less = a.others (other + i)
      (λ same. let h = same_cell w there b (omega arith) pointer_place same in let k = pointer_in levels low high in
      omega (arith, h.1, k.0))

  last_place : {other i : ℕ} → Leads old from to other head → 248 ≤ i → i < 256 → new (other + i) ≡ old (other + i)
  last_place {other} {i} there least less = a.others (other + i)
      (λ same. let h = same_cell w there b less pointer_place same in let k = pointer_in levels low high in omega
      (arith, h.1, k.1))

  -- where the target is one of the list's blocks
  module _ (listed : Leads old from to target head) where
    jump_back : {last cur : ℕ} → Leads new from to last cur → Leads old from to cur head → Leads old from to last head
    jump_back (arrived cur is) there = subst (λ (k : ℕ). Leads old from to k head) is there
    jump_back (onwards cur i j next l s d hop f t rest) there = ⊎_elim
        (λ same.
        let is : next ≡ target = jumps next target (one_record_holds new (pointer_at block level digit) (Jump next)
        (Jump target) (subst (λ (c : ℕ). Holds new c (Jump next)) same hop) jump) in
        jump_back rest (subst (λ (k : ℕ). Leads old from to k head) (sym is) listed))
        (λ differ. jump_back rest (leads_further there i j next l s d
        (holds_back (a.others (pointer_at cur i j) differ) hop) f t))
        (same_or_not (pointer_at cur i j) (pointer_at block level digit))

    jump_listed : {k : ℕ} → Leads new from to k head → Leads old from to k head
    jump_listed k = jump_back k (arrived head refl)

  -- where it is a new block
  module _ (fresh : IsNewBlock old from to head target) where
    fresh_cell : {i : ℕ} → i < 256 → new (target + i) ≡ old (target + i)
    fresh_cell {i} less = a.others (target + i)
        (λ same. let k = pointer_place in ⊎_elim (λ x. omega arith) (λ y. omega arith) (fresh.apart block b))

    no_hop : {i j next : ℕ} → i < 8 → 1 ≤ j → j ≤ 15 → Holds new (pointer_at target i j) (Jump next) → ⊥
    no_hop {i} {j} l s d hop =
        let k = pointer_in l s d in
        none-some _ (sym (fresh_cell {i = 127 + 15 * i + j} (omega (arith, k.1))
        ∙ fresh.blank (127 + 15 * i + j) (omega (arith, k.0)) (omega (arith, k.1))) ∙ hop.stands)

    at_fresh : {last cur : ℕ} → Leads new from to last cur → cur ≡ target → last ≡ target
    at_fresh (arrived cur is) same = sym is ∙ same
    at_fresh (onwards cur i j next l s d hop f t rest) same =
        absurd (no_hop l s d (subst (λ (k : ℕ). Holds new (pointer_at k i j) (Jump next)) same hop))

    fresh_back : {last cur : ℕ} → Leads new from to last cur → Leads old from to cur head
        → Leads old from to last head ⊎ (last ≡ target)
    fresh_back (arrived cur is) there = inl (subst (λ (k : ℕ). Leads old from to k head) is there)
    fresh_back (onwards cur i j next l s d hop f t rest) there = ⊎_elim
        (λ same.
        let is : next ≡ target = jumps next target (one_record_holds new (pointer_at block level digit) (Jump next)
        (Jump target) (subst (λ (c : ℕ). Holds new c (Jump next)) same hop) jump) in
        inr (at_fresh rest is))
        (λ differ. fresh_back rest (leads_further there i j next l s d
        (holds_back (a.others (pointer_at cur i j) differ) hop) f t))
        (same_or_not (pointer_at cur i j) (pointer_at block level digit))

    fresh_listed : {k : ℕ} → Leads new from to k head → Leads old from to k head ⊎ (k ≡ target)
    fresh_listed k = fresh_back k (arrived head refl)

  -- each block is an old one, or the target
  Listed : ℕ → Type 0
  Listed k = Leads old from to k head ⊎ (k ≡ target)

  module _ (is_block : Leads old from to target head ⊎ IsNewBlock old from to head target) where
    pub all_listed : {k : ℕ} → Leads new from to k head
        → Leads old from to k head ⊎ ((k ≡ target) × IsNewBlock old from to head target)
    all_listed {k} l = ⊎_elim
        (λ listed. inl (jump_listed listed l))
        (λ fresh. ⊎_elim inl (λ is. inr (is, fresh)) (fresh_listed fresh l))
        is_block

    well_pointer : PointsWell new from to block level digit
    well_pointer = let e = adds_extends a in record {
      target = target;
      jump = jump;
      greatest = greatest;
      is_full = front_on e full;
      inside_from = inside_from;
      inside_to = inside_to;
      place = place;
      some = some;
      in_places = below;
      in_front = front_on e front;
      in_span = span;
    }

    -- a level and a digit are told by the place of their pointer
    one_digit : {i j : ℕ} → i < 8 → 1 ≤ j → j ≤ 15 → 127 + 15 * i + j ≡ 127 + 15 * level + digit
        → (i ≡ level) × (j ≡ digit)
    one_digit {i} {j} l s d same = (grind arith, grind arith)

    entries_on : (k i : ℕ) → Leads new from to k head → i < 128 → IsWritten new (k + i) → HoldsInOrder new k i
    entries_on k i l less is = ⊎_elim
        (λ there. in_order_goes_on (adds_extends a) (w.entries k i there less (written_back (low_place there less) is)))
        (λ h. in_order_goes_on (adds_extends a) (subst (λ (x : ℕ). HoldsInOrder old x i) (sym h.0)
        ((h.1).entries i less (subst (λ (x : ℕ). IsWritten old (x + i)) h.0 (written_back
        (subst (λ (x : ℕ). new (x + i) ≡ old (x + i)) (sym h.0) (fresh_cell h.1 (omega arith))) is)))))
        (all_listed l)

    blank_on : (k i : ℕ) → Leads new from to k head → 248 ≤ i → i < 256 → new (k + i) ≡ None
    blank_on k i l least less = ⊎_elim
        (λ there. last_place there least less ∙ w.blank k i there least less)
        (λ h. subst (λ (x : ℕ). new (x + i) ≡ None) (sym h.0) (fresh_cell h.1 less ∙ (h.1).blank i (omega arith) less))
        (all_listed l)

    pointers_on : (k i j : ℕ) → Leads new from to k head → i < 8 → 1 ≤ j → j ≤ 15
        → IsWritten new (pointer_at k i j) → PointsWell new from to k i j
    pointers_on k i j l less s d is = ⊎_elim
        (λ there. ⊎_elim
        (λ same.
        let p = pointer_in less s d in
        let h = same_cell w there b (omega (arith, p.1)) pointer_place same in
        let o = one_digit less s d h.1 in
        subst (λ (x : ℕ). PointsWell new from to x i j) (sym h.0)
        (subst (λ (x : ℕ). PointsWell new from to block x j) (sym o.0)
        (subst (λ (x : ℕ). PointsWell new from to block level x) (sym o.1) well_pointer)))
        (λ differ. points_on (adds_extends a) (w.pointers k i j there less s d
        (written_back (a.others (pointer_at k i j) differ) is)))
        (same_or_not (pointer_at k i j) (pointer_at block level digit)))
        (λ h.
        let p = pointer_in less s d in
        let none : new (target + (127 + 15 * i + j)) ≡ None = fresh_cell h.1 (omega (arith, p.1))
        ∙ (h.1).blank (127 + 15 * i + j) (omega (arith, p.0)) (omega (arith, p.1)) in
        absurd (none-some _ (sym (subst (λ (x : ℕ). new (x + (127 + 15 * i + j)) ≡ None) (sym h.0) none) ∙ is.stands)))
        (all_listed l)

    swapped : {x y : ℕ} → AreApart x 256 y 256 → AreApart y 256 x 256
    swapped h = ⊎_elim inr inl h

    apart_on : (x y : ℕ) → Leads new from to x head → Leads new from to y head → (x ≡ y) ⊎ AreApart x 256 y 256
    apart_on x y l m = ⊎_elim
        (λ here. ⊎_elim
        (λ there. w.apart x y here there)
        (λ h. inr (subst (λ (k : ℕ). AreApart x 256 k 256) (sym h.0) (swapped ((h.1).apart x here))))
        (all_listed m))
        (λ h. ⊎_elim
        (λ there. inr (subst (λ (k : ℕ). AreApart k 256 y 256) (sym h.0) ((h.1).apart y there)))
        (λ k. inl (h.0 ∙ sym k.0))
        (all_listed m))
        (all_listed l)

    pub well_with_jump : IsWellListed new from to head
    well_with_jump = record {
      before = w.before;
      entries = entries_on;
      blank = blank_on;
      pointers = pointers_on;
      apart = apart_on;
    }
