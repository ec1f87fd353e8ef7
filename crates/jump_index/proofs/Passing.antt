-- What a block whose front was read passes.
use Rattle.std.proofs.Common.{◌≡◌, ◌<◌, ◌≤◌, ◌+◌, ◌-◌, ⊎_elim, ℕ, None, ap, sym, subst, arith, ◌∙◌}
use Rattle.std.proofs.lemmas.Bool.{cases_lt}
use Rattle.std.proofs.lemmas.Option.{none-some}
use Rattle.cell_types.specs.Image.{Image}
use Rattle.cell_types.specs.declared.record_cell.RecordCell.TheVariants.{Jump}
use Rattle.volume_meaning.specs.Volumes.{Holds}
use Rattle.volume_meaning.specs.Blocks.{PostingFields, InFront, InSpan, Trail, here, on, pointer_at}
use Rattle.volume_meaning.proofs.Fronts.{front_holds, one_place, rises, rises_or_same}
use Rattle.volume_meaning.proofs.Spans.{apart, span_above}
use Rattle.jump_block.specs.Fronts.{AreBelow}
use Rattle.jump_block.specs.Spans.{IsSpan}
use Rattle.jump_block.specs.declared.spans.Span.{Span}
use Rattle.jump_block.proofs.OneBlock.{full_greatest, in_span, none_from_blank}
use Rattle.jump_block.specs.Pointing.{HasFull, HasPointer}

module _ (image : Image) (block count x : ℕ) (below : AreBelow image block count x) where
  -- the places before hold keys below x
  pub known_less : (place : ℕ) (p : PostingFields) → place < count → InFront image block place p → p.key < x
  known_less place p less front =
      let h = below.last (count - 1) (omega arith) in
      let le : p.key ≤ h.0.key = rises_or_same front h.1 (omega arith) in
      omega (arith, le, h.2)

  -- of the keys at or past x this place has the least
  pub next_is_least : (e : PostingFields) → InFront image block count e → x ≤ e.key
      → (place : ℕ) (p : PostingFields) → InFront image block place p → x ≤ p.key
      → (e.key ≤ p.key) × (p.key ≡ x → (place ≡ count) × (p ≡ e))
  next_is_least e next past place p front asked =
      ⊎_elim
      (λ less. absurd (omega (arith, known_less place p less front)))
      (λ le. (
        rises_or_same next front le,
        λ exact. ⊎_elim
            (λ less. let up : e.key < p.key = rises front count e next less in absurd (omega arith))
            (λ ge. let same : place ≡ count = omega arith in
            (same, one_place (subst (λ (n : ℕ). InFront image block n p) same front) next))
            (cases_lt count place),
      ))
      (cases_lt place count)

  -- so has it of the postings with a trail from the block
  pub next_passes_none : (from to at : ℕ) (e p : PostingFields) → InFront image block count e → count < 128
      → x ≤ e.key → Trail image from to at p block → x ≤ p.key
      → (e.key ≤ p.key) × (p.key ≡ x → (at ≡ block + count) × (p ≡ e))
  next_passes_none from to at e p next in_places past (here _ place is below_end front) asked =
      let h = next_is_least e next past place p front asked in
      (h.0, λ exact. (omega (arith, (h.1 exact).0), (h.1 exact).1))
  next_passes_none from to at e p next in_places past (on _ target hop rest) asked =
      let le : e.key ≤ hop.greatest.key = rises_or_same next hop.full (omega arith) in
      let less : hop.greatest.key < p.key = span_above hop.span in
      (omega arith, λ exact. absurd (omega arith))

  -- from a block that ends with a blank place no posting at or past x has a trail
  pub open_passes_none : (from to at : ℕ) (p : PostingFields) → image (block + count) ≡ None → count < 128
      → Trail image from to at p block → x ≤ p.key → ⊥
  open_passes_none from to at p blank in_places (here _ place is below_end front) asked =
      omega (arith, known_less place p (none_from_blank image block count place p blank front) front)
  open_passes_none from to at p blank in_places (on _ target hop rest) asked =
      omega (arith, none_from_blank image block count 127 hop.greatest blank hop.full)

-- what a trail through a full block gives
pub record GoesThrough (image : Image) (from to at : ℕ) (p : PostingFields) (block level digit : ℕ) : Type 0 where
  pub target : ℕ
  pub jump : HasPointer image block level digit target
  pub rest : Trail image from to at p target

-- a posting behind a full block with a key of a span has its trail through the span's pointer
pub goes_through : (image : Image) (from to at l block : ℕ) (p : PostingFields) (s : Span) → HasFull image block l
    → IsSpan l s → s.low ≤ p.key → p.key < s.high
    → Trail image from to at p block → GoesThrough image from to at p block s.level s.digit
goes_through image from to at l block p s full is low high (here _ place at_is below front) =
    let le : p.key ≤ l = full_greatest image block l place p full below front in
    let above : l < p.key = span_above (in_span {k = p.key} is low high) in
    absurd (omega arith)
goes_through image from to at l block p s full is low high (on _ target hop rest) =
    let same : hop.greatest.key ≡ l = ap (λ (q : PostingFields). q.key) (one_place hop.full full.in_front) ∙
    full.same in
    let places : (hop.level ≡ s.level) × (hop.digit ≡ s.digit) =
    apart l p.key hop.level hop.digit s.level s.digit (subst (λ (n : ℕ). InSpan n hop.level hop.digit p.key) same
    hop.span) (in_span {k = p.key} is low high) in
    record {
      target = target;
      jump = let cell : pointer_at block hop.level hop.digit ≡ pointer_at block s.level s.digit = omega
          (arith, places.0, places.1) in
          subst (λ (c : ℕ). Holds image c (Jump target)) cell hop.jump;
      rest = rest;
    }
