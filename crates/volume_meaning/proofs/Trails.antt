-- Trails.
use Rattle.std.proofs.Common.{◌≡◌, ◌+◌, ◌<◌, ◌≤◌, ⊎_elim, ℕ, ap, sym, subst, arith}
use Rattle.std.proofs.lemmas.Bool.{cases_lt}
use Rattle.cell_types.specs.Image.{Image, Extends}
use Rattle.cell_types.specs.declared.record_cell.RecordCell.TheVariants.{Jump}
use Rattle.volume_meaning.specs.Volumes.{Holds}
use Rattle.volume_meaning.specs.Blocks.{PostingFields, InFront, InSpan, Hop, Trail, here, on, pointer_at}
use Rattle.volume_meaning.proofs.Extending.{holds_on}
use Rattle.volume_meaning.proofs.Holding.{one_record_holds}
use Rattle.volume_meaning.proofs.Fronts.{front_on, rises, one_place, rises_or_same}
use Rattle.volume_meaning.proofs.Spans.{apart, span_above}

pub hop_on : {old new : Image} {from to block k target : ℕ} → Extends old new → Hop old from to block k target
    → Hop new from to block k target
hop_on e h = record {
  greatest = h.greatest;
  full = front_on e h.full;
  level = h.level;
  digit = h.digit;
  span = h.span;
  jump = holds_on e h.jump;
  inside_from = h.inside_from;
  inside_to = h.inside_to;
  place = h.place;
  some = h.some;
  in_front = front_on e h.in_front;
  in_places = h.in_places;
  in_span = h.in_span;
}

pub trail_on : {old new : Image} {from to at : ℕ} {p : PostingFields} {block : ℕ} → Extends old new
    → Trail old from to at p block → Trail new from to at p block
trail_on e (here block place is below front) = here block place is below (front_on e front)
trail_on e (on block target hop rest) = on block target (hop_on e hop) (trail_on e rest)

jump_target : (a b : ℕ) → Jump a ≡ Jump b → a ≡ b
jump_target a b e = cc

-- a block leads on for a key to one block
pub one_target : {image : Image} {from to block k t u : ℕ} → Hop image from to block k t
    → Hop image from to block k u → t ≡ u
one_target {image} {from} {to} {block} {k} {t} {u} h g =
    let same : h.greatest.key ≡ g.greatest.key = ap (λ (p : PostingFields). p.key) (one_place h.full g.full) in
    let spans : (h.level ≡ g.level) × (h.digit ≡ g.digit) =
    apart g.greatest.key k h.level h.digit g.level g.digit
    (subst (λ (l : ℕ). InSpan l h.level h.digit k) same h.span) g.span in
    let at : pointer_at block h.level h.digit ≡ pointer_at block g.level g.digit = omega (arith, spans.0, spans.1) in
    jump_target t u (one_record_holds image (pointer_at block g.level g.digit) (Jump t) (Jump u)
    (subst (λ (c : ℕ). Holds image c (Jump t)) at h.jump) g.jump)

-- a posting of a front is no greater than the block's greatest key, so the block does not lead on for its key
pub not_both : {image : Image} {from to block place target : ℕ} {p : PostingFields} (k : ℕ) → place < 128
    → InFront image block place p → p.key ≡ k → Hop image from to block k target → ⊥
not_both {image} {from} {to} {block} {place} {target} {p} k below f same h =
    let le : p.key ≤ h.greatest.key = rises_or_same f h.full (omega arith) in
    let less : h.greatest.key < k = span_above h.span in
    omega arith

-- from a block one posting of a key has a trail
pub one_trail : {image : Image} {from to at : ℕ} {p : PostingFields} {block : ℕ}
    → Trail image from to at p block → (at' : ℕ) (q : PostingFields) → Trail image from to at' q block
    → p.key ≡ q.key → (p ≡ q) × (at ≡ at')
one_trail {image = image} {p = p} (here block place is below front) at' q (here _ place' is' below' front') same =
    ⊎_elim
    (λ less. let no : p.key < q.key = rises front' place p front less in absurd (omega arith))
    (λ le. ⊎_elim
    (λ less. let no : q.key < p.key = rises front place' q front' less in absurd (omega arith))
    (λ ge. let one : place ≡ place' = omega arith in
    (one_place front (subst (λ (n : ℕ). InFront image block n q) (sym one) front'), omega arith))
    (cases_lt place' place))
    (cases_lt place place')
one_trail {p = p} (here block place is below front) at' q (on _ target hop rest) same =
    absurd (not_both q.key below front same hop)
one_trail {p = p} (on block target hop rest) at' q (here _ place is below front) same =
    absurd (not_both p.key below front (sym same) hop)
one_trail {image} {from} {to} {p = p} (on block target hop rest) at' q (on _ target' hop' rest') same =
    let one : target ≡ target' =
    one_target hop (subst (λ (k : ℕ). Hop image from to block k target') (sym same) hop') in
    one_trail rest at' q (subst (λ (t : ℕ). Trail image from to at' q t) (sym one) rest') same

-- a block leads on within each range in which the next block lies
pub hop_within : {image : Image} {from to block k target : ℕ} (from' to' : ℕ) → from' ≤ target → target + 256 ≤ to'
    → Hop image from to block k target → Hop image from' to' block k target
hop_within from' to' low high h = record {
  greatest = h.greatest;
  full = h.full;
  level = h.level;
  digit = h.digit;
  span = h.span;
  jump = h.jump;
  inside_from = low;
  inside_to = high;
  place = h.place;
  some = h.some;
  in_front = h.in_front;
  in_places = h.in_places;
  in_span = h.in_span;
}

-- what lies in a range lies in a wider one
pub hop_wider : {image : Image} {from to block k target : ℕ} (from' to' : ℕ) → from' ≤ from → to ≤ to'
    → Hop image from to block k target → Hop image from' to' block k target
hop_wider from' to' p q h = hop_within from' to' (omega (arith, p, h.inside_from)) (omega (arith, q, h.inside_to)) h

pub trail_wider : {image : Image} {from to at : ℕ} {p : PostingFields} (from' to' : ℕ) {block : ℕ}
    → from' ≤ from → to ≤ to' → Trail image from to at p block → Trail image from' to' at p block
trail_wider from' to' f t (here block place is below front) = here block place is below front
trail_wider from' to' f t (on block target hop rest) =
    on block target (hop_wider from' to' f t hop) (trail_wider from' to' f t rest)
