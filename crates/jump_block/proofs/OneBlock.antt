-- What the front, the spans and the pointers of one block say, and where the blocks of a list lie.
use Rattle.std.proofs.Common.{◌≡◌, ◌<◌, ◌≤◌, ◌+◌, ◌*◌, ◌^◌, ◌⊎◌, ⊎_elim, inl, inr, ℕ, List, None, ap, sym, subst, arith, ◌∙◌}
use Rattle.std.proofs.Math.Nat.{pow-le-pow_right, mul-le-mul_right}
use Rattle.std.proofs.lemmas.Bool.{cases_lt}
use Rattle.std.proofs.lemmas.Option.{none-some}
use Rattle.cell_types.specs.Image.{Image}
use Rattle.cell_types.specs.Layout.{Layout, FirstBlock, LiesIn, list_at, pool_at, all_lists}
use Rattle.cell_types.specs.Records.{IsRecordCell}
use Rattle.cell_types.specs.declared.record_cell.RecordCell.TheVariants.{Jump}
use Rattle.volume_meaning.specs.Volumes.{Holds}
use Rattle.volume_meaning.proofs.Holding.{some_is}
use Rattle.volume_meaning.specs.Blocks.{PostingFields, posting_record, InFront, InSpan, Leads, arrived, onwards}
use Rattle.volume_meaning.proofs.Fronts.{front_holds, one_posting, rises_or_same}
use Rattle.tamper_rules.specs.Rules.{HoldsInOrder, IsOfPool}
use Rattle.jump_block.specs.Fronts.{IsBadEntry, no_posting, does_not_rise}
use Rattle.jump_block.specs.Pointing.{HasFull}
use Rattle.jump_block.specs.Spans.{IsSpan}
use Rattle.jump_block.specs.declared.spans.Span.{Span}
use Rattle.jump_block.proofs.Knowing.{front_below}

-- a jump cell has one target
pub jump_target : (a b : ℕ) → Jump a ≡ Jump b → a ≡ b
jump_target a b e = cc

-- no place of the front from a blank cell on
pub none_from_blank : (image : Image) (block count place : ℕ) (p : PostingFields) → image (block + count) ≡ None
    → InFront image block place p → place < count
none_from_blank image block count place p blank front =
    ⊎_elim
    (λ less. less)
    (λ le. let h = front_below front count le in
    absurd (none-some _ (sym blank ∙ (front_holds h.1).stands)))
    (cases_lt place count)

-- no key of a full block is greater than its greatest
pub full_greatest : (image : Image) (block l place : ℕ) (p : PostingFields) → HasFull image block l → place < 128
    → InFront image block place p → p.key ≤ l
full_greatest image block l place p full less front =
    let le : p.key ≤ full.p.key = rises_or_same front full.in_front (omega arith) in
    omega (arith, le, full.same)

-- the span that the code holds is the one of the definition
pub in_span : {l k : ℕ} {s : Span} → IsSpan l s → s.low ≤ k → k < s.high → InSpan l s.level s.digit k
in_span is low high = record {
  levels = is.levels;
  some = is.some;
  digits = is.digits;
  low = omega
      (arith, is.low);
  high = omega (arith, is.low, is.high);
}

pub of_span : {l k : ℕ} {s : Span} → IsSpan l s → InSpan l s.level s.digit k → (s.low ≤ k) × (k < s.high)
of_span is within = (omega (arith, is.low, within.low), omega (arith, is.low, is.high, within.high))

-- the level falls
pub level_falls : (l x low bound level : ℕ) (s : Span) → IsSpan l s → s.low ≤ x → x < bound
    → bound ≤ low + 16 ^ level → low ≤ l → s.level < level
level_falls l x low bound level s is from below narrow ge =
    ⊎_elim
    (λ less. less)
    (λ le.
    let up : 16 ^ level ≤ 16 ^ s.level = pow-le-pow_right (omega arith) le in
    let first : 1 * 16 ^ s.level ≤ s.digit * 16 ^ s.level = mul-le-mul_right (16 ^ s.level) is.some in
    absurd (omega (arith, up, first, is.low)))
    (cases_lt s.level level)

-- blocks within narrower bounds are blocks within wider ones
pub leads_wider : {image : Image} {from to last : ℕ} (from' to' : ℕ) {block : ℕ} → from' ≤ from → to ≤ to'
    → Leads image from to last block → Leads image from' to' last block
leads_wider from' to' p q (arrived block is) = arrived block is
leads_wider from' to' p q (onwards block level digit target levels some digits jump inside_from inside_to rest) =
    onwards block level digit target levels some digits jump (omega (arith, p, inside_from))
    (omega (arith, q, inside_to)) (leads_wider from' to' p q rest)

-- a block of a list is the first one, or lies within the bounds
leads_within : {image : Image} {from to last block : ℕ} → Leads image from to last block
    → (last ≡ block) ⊎ ((from ≤ last) × (last + 256 ≤ to))
leads_within (arrived block is) = inl (sym is)
leads_within (onwards block level digit target levels some digits jump inside_from inside_to rest) =
    ⊎_elim (λ same. inr (omega arith, omega arith)) (λ within. inr within) (leads_within rest)

-- so its cells are cells of a first block or of the pool
pub in_place : (g : Layout) (image : Image) (l from to head at off cell : ℕ) → l < all_lists g → head ≡ list_at g l
    → from ≡ pool_at g → to ≤ g.cells
    → Leads image from to at head → off < 256 → cell ≡ at + off
    → ((k : ℕ) × LiesIn g (FirstBlock k) cell) ⊎ IsOfPool g cell
in_place g image l from to head at off cell list first pool edge leads inside is =
    ⊎_elim
    (λ same. inl (l, record { exists = list; from = omega arith; below = omega arith }))
    (λ within. inr (omega (arith, within.0), omega (arith, within.1)))
    (leads_within leads)

-- what is no posting, or does not rise, is not in order
pub not_in_order : (image : Image) (block place : ℕ) (found : List ℕ) → IsBadEntry image block place found
    → HoldsInOrder image block place → ⊥
not_in_order image block place found (no_posting bad) order =
    let same : order.holds.cell ≡ found = some_is order.holds.cell found (sym order.holds.stands ∙ bad.stands) in
    bad.none order.p (subst (λ (c : List ℕ). IsRecordCell (posting_record order.p) (block + place) c) same
    order.holds.is)
not_in_order image block place found (does_not_rise before key p is has stands holds le) order =
    let one : order.p.key ≡ p.key = ap (λ (q : PostingFields). q.key)
    (one_posting image (block + place) order.p p order.holds holds) in
    ⊎_elim
    (λ first. omega arith)
    (λ (r : (b : ℕ) × (q : PostingFields) × (place ≡ b + 1) × Holds image (block + b) (posting_record q)
    × (q.key < order.p.key)).
    let at : r.0 ≡ before = omega (arith, r.2) in
    let held : Holds image (block + before) (posting_record r.1) = subst
    (λ (n : ℕ). Holds image (block + n) (posting_record r.1)) at r.3 in
    let same : r.1.key ≡ has.p.key = ap (λ (q : PostingFields). q.key)
    (one_posting image (block + before) r.1 has.p held (front_holds has.in_front)) in
    omega (arith, r.4, has.same))
    order.rises
