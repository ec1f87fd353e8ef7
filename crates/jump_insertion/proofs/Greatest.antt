-- A list in which each posting has a trail has a greatest one: the walk along the last pointers comes to it.
use Rattle.std.proofs.Common.{◌≡◌, ◌<◌, ◌≤◌, ◌+◌, ◌-◌, ◌*◌, ◌^◌, ◌⊎◌, ⊎_elim, inl, inr, ℕ, suc, zero, List, Some, None, refl, ap, sym, subst, arith, ◌∙◌}
use Rattle.std.proofs.lemmas.Bool.{cases_lt}
use Rattle.std.proofs.lemmas.Option.{none-some}
use Rattle.cell_types.specs.Image.{Image}
use Rattle.cell_types.specs.declared.record_cell.RecordCell.TheVariants.{Jump}
use Rattle.volume_meaning.specs.Volumes.{Holds}
use Rattle.volume_meaning.proofs.Holding.{one_record_holds}
use Rattle.volume_meaning.specs.Blocks.{PostingFields, posting_record, InFront, behind, InSpan, Hop, Trail, here, on, Leads, pointer_at}
use Rattle.volume_meaning.proofs.Fronts.{front_holds, one_place, one_posting, rises_or_same}
use Rattle.volume_meaning.proofs.Spans.{apart, cover, span_above}
use Rattle.tamper_rules.specs.Rules.{HoldsInOrder}
use Rattle.tamper_rules.proofs.GivenUp.{jumps, leads_further}
use Rattle.tamper_rules.proofs.Images.{look}
use Rattle.ingest_laws.specs.ListShapes.{IsWellListed, PointsWell}
use Rattle.jump_block.proofs.Knowing.{front_below}

-- a block's front ends with this posting
pub record IsEnd (image : Image) (block place : ℕ) (q : PostingFields) : Type 0 where
  pub in_places : place < 128
  pub in_front : InFront image block place q
  pub last : (place ≡ 127) ⊎ ((place < 127) × (image (block + (place + 1)) ≡ None))

-- a place behind one of a front that is in order is of the front
next_place : {image : Image} {block place : ℕ} {q : PostingFields} → InFront image block place q
    → (h : HoldsInOrder image block (place + 1)) → InFront image block (place + 1) h.p × (q.key < h.p.key)
next_place {image} {block} {place} {q} front h = ⊎_elim
    (λ first. absurd (omega arith))
    (λ (x : (before : ℕ) × (r : PostingFields) × (place + 1 ≡ before + 1)
    × Holds image (block + before) (posting_record r) × (r.key < h.p.key)).
    let at : x.0 ≡ place = omega (arith, x.2) in
    let held : Holds image (block + place) (posting_record x.1) =
    subst (λ (n : ℕ). Holds image (block + n) (posting_record x.1)) at x.3 in
    let same : x.1.key ≡ q.key = ap (λ (r : PostingFields). r.key)
    (one_posting image (block + place) x.1 q held (front_holds front)) in
    let up : q.key < h.p.key = omega (arith, x.4, same) in
    (behind (place + 1) place h.p q refl front up h.holds, up))
    h.rises

-- a front has no place where nothing stands
none_past : {image : Image} {block place i : ℕ} {q : PostingFields} → InFront image block i q → place ≤ i
    → image (block + place) ≡ None → ⊥
none_past {image} {block} {place} {i} front le blank =
    let h = front_below front place le in
    let held = front_holds h.1 in
    none-some held.cell (sym blank ∙ held.stands)

-- no key of the front is greater than the one that it ends with
pub end_is_most : {image : Image} {block place i : ℕ} {q r : PostingFields} → IsEnd image block place q → i < 128
    → InFront image block i r → r.key ≤ q.key
end_is_most {image} {block} {place} {i} {q} {r} e less front = ⊎_elim
    (λ (past : place < i). ⊎_elim
    (λ (full : place ≡ 127). absurd (omega arith))
    (λ (short : (place < 127) × (image (block + (place + 1)) ≡ None)).
    absurd (none_past front (omega arith) short.1))
    e.last)
    (λ le. rises_or_same front e.in_front le)
    (cases_lt place i)

-- a posting with a trail from a block stands in its front, or behind a pointer for its key
pub data Goes (image : Image) (from to at : ℕ) (p : PostingFields) (block : ℕ) : Type 0 where
  stays : (place : ℕ) → at ≡ block + place → place < 128 → InFront image block place p → Goes image from to at p block
  leaves : (target : ℕ) → Hop image from to block p.key target → Trail image from to at p target
      → Goes image from to at p block

pub goes : {image : Image} {from to at : ℕ} {p : PostingFields} {block : ℕ} → Trail image from to at p block
    → Goes image from to at p block
goes (here block place is below front) = stays place is below front
goes (on block target hop rest) = leaves target hop rest

-- where a trail ends
pub record IsListed (image : Image) (from to head at : ℕ) (p : PostingFields) : Type 0 where
  pub block : ℕ
  pub place : ℕ
  pub is : at ≡ block + place
  pub in_places : place < 128
  pub in_front : InFront image block place p
  pub leads : Leads image from to block head

-- a trail ends in a block of the list
pub trail_listed : {image : Image} {from to at head : ℕ} {p : PostingFields} {block : ℕ}
    → Trail image from to at p block → Leads image from to block head → IsListed image from to head at p
trail_listed (here block place is below front) leads =
    record { block = block; place = place; is = is; in_places = below; in_front = front; leads = leads }
trail_listed (on block target hop rest) leads =
    trail_listed rest (leads_further leads hop.level hop.digit target hop.span.levels hop.span.some hop.span.digits
    hop.jump hop.inside_from hop.inside_to)

-- a posting of the list, none of which has a greater key
pub record HasGreatest (image : Image) (floor next head : ℕ) : Type 0 where
  pub block : ℕ
  pub place : ℕ
  pub q : PostingFields
  pub leads : Leads image floor next block head
  pub in_places : place < 128
  pub in_front : InFront image block place q
  pub most : (at : ℕ) (r : PostingFields) → Trail image floor next at r head → r.key ≤ q.key

module _ {image : Image} {floor next head : ℕ} (w : IsWellListed image floor next head) where
  -- a front, from a place of it on, has an end
  pub front_end : (n block place : ℕ) (q : PostingFields) → Leads image floor next block head → place + n ≡ 127
      → InFront image block place q → (i : ℕ) × (r : PostingFields) × IsEnd image block i r × (q.key ≤ r.key)
  front_end zero block place q leads is front =
      (place, q, record { in_places = omega arith; in_front = front; last = inl (omega arith) }, omega arith)
  front_end (suc n) block place q leads is front = ⊎_elim
      (λ (blank : image (block + (place + 1)) ≡ None).
      (place, q, record { in_places = omega arith; in_front = front; last = inr (omega arith, blank) }, omega arith))
      (λ (x : (v : List ℕ) × (image (block + (place + 1)) ≡ Some v)).
      let h = w.entries block (place + 1) leads (omega arith) (record { found = x.0; stands = x.1 }) in
      let next_one = next_place front h in
      let rest = front_end n block (place + 1) h.p leads (omega arith) next_one.0 in
      (rest.0, rest.1, rest.2, omega (arith, rest.3, next_one.1)))
      (look image (block + (place + 1)))

  -- each posting of the list has no key past top, or has a trail from the block and no key past k
  abbrev AreBehind : ℕ → ℕ → ℕ → Type 0
  AreBehind block k top = (at : ℕ) (r : PostingFields) → Trail image floor next at r head
      → (r.key ≤ top) ⊎ (Trail image floor next at r block × (r.key ≤ k))

  -- what stands at the end of a front may be the greatest
  found : (block place : ℕ) (q : PostingFields) → Leads image floor next block head → IsEnd image block place q
      → ((at : ℕ) (r : PostingFields) → Trail image floor next at r head → r.key ≤ q.key)
      → HasGreatest image floor next head
  found block place q leads e most = record {
    block = block;
    place = place;
    q = q;
    leads = leads;
    in_places = e.in_places;
    in_front = e.in_front;
    most = most;
  }

  -- behind a block whose front ends before its last place nothing more comes
  open_most : {block place at : ℕ} {q r : PostingFields} → IsEnd image block place q → place < 127
      → image (block + (place + 1)) ≡ None → Goes image floor next at r block → r.key ≤ q.key
  open_most e less blank (stays i is below front) = end_is_most e below front
  open_most e less blank (leaves target hop rest) = absurd (none_past hop.full (omega arith) blank)

  -- nor where the pointer of the key's span is blank
  blank_most : {block at : ℕ} {q r : PostingFields} (level digit : ℕ) → IsEnd image block 127 q
      → InSpan q.key level digit r.key → image (pointer_at block level digit) ≡ None
      → Goes image floor next at r block → r.key ≤ q.key
  blank_most level digit e span blank (stays i is below front) = end_is_most e below front
  blank_most {block} {at} {q} {r} level digit e span blank (leaves target hop rest) =
      let same : hop.greatest.key ≡ q.key = ap (λ (f : PostingFields). f.key) (one_place hop.full e.in_front) in
      let both = apart q.key r.key hop.level hop.digit level digit
      (subst (λ (l : ℕ). InSpan l hop.level hop.digit r.key) same hop.span) span in
      let cell : pointer_at block hop.level hop.digit ≡ pointer_at block level digit =
      omega (arith, both.0, both.1) in
      absurd (none-some hop.jump.cell (sym blank ∙ ap image (sym cell) ∙ hop.jump.stands))

  -- where it is a jump cell, a key of the span goes on to the target
  goes_on : {block at : ℕ} {q r : PostingFields} (level digit target : ℕ) → IsEnd image block 127 q
      → InSpan q.key level digit r.key → Holds image (pointer_at block level digit) (Jump target)
      → Goes image floor next at r block → (r.key ≤ q.key) ⊎ Trail image floor next at r target
  goes_on level digit target e span jump (stays i is below front) = inl (end_is_most e below front)
  goes_on {block} {at} {q} {r} level digit target e span jump (leaves there hop rest) =
      let same : hop.greatest.key ≡ q.key = ap (λ (f : PostingFields). f.key) (one_place hop.full e.in_front) in
      let both = apart q.key r.key hop.level hop.digit level digit
      (subst (λ (l : ℕ). InSpan l hop.level hop.digit r.key) same hop.span) span in
      let cell : pointer_at block hop.level hop.digit ≡ pointer_at block level digit =
      omega (arith, both.0, both.1) in
      let one : there ≡ target = jumps there target (one_record_holds image (pointer_at block level digit) (Jump there)
      (Jump target) (subst (λ (c : ℕ). Holds image c (Jump there)) cell hop.jump) jump) in
      inr (subst (λ (b : ℕ). Trail image floor next at r b) one rest)

  -- one step less: no posting has the key k
  fewer : {block k : ℕ} {q : PostingFields} → IsEnd image block 127 q → (level digit : ℕ)
      → InSpan q.key level digit k → image (pointer_at block level digit) ≡ None → AreBehind block k q.key
      → AreBehind block (k - 1) q.key
  fewer {block} {k} {q} e level digit span blank behind_it at r trail = ⊎_elim
      inl
      (λ (x : Trail image floor next at r block × (r.key ≤ k)). ⊎_elim
      (λ (less : r.key < k). inr (x.0, omega (arith, less)))
      (λ (ge : k ≤ r.key).
      let same : k ≡ r.key = omega (arith, ge, x.1) in
      inl (blank_most level digit e (subst (λ (n : ℕ). InSpan q.key level digit n) same span) blank (goes x.0)))
      (cases_lt r.key k))
      (behind_it at r trail)

  -- one block on
  further : {block k top : ℕ} {q : PostingFields} → IsEnd image block 127 q → (level digit : ℕ)
      → InSpan q.key level digit k → (p : PointsWell image floor next block level digit) → p.some.key ≤ top
      → AreBehind block k q.key → AreBehind p.target k top
  further {block} {k} {top} {q} e level digit span p past behind_it at r trail =
      let same : p.greatest.key ≡ q.key = ap (λ (f : PostingFields). f.key) (one_place p.is_full e.in_front) in
      let within : InSpan q.key level digit p.some.key =
      subst (λ (l : ℕ). InSpan l level digit p.some.key) same p.in_span in
      let up = span_above within in
      ⊎_elim
      (λ (le : r.key ≤ q.key). inl (omega (arith, le, up, past)))
      (λ (x : Trail image floor next at r block × (r.key ≤ k)). ⊎_elim
      (λ (less : r.key < q.key + digit * 16 ^ level). inl (omega (arith, less, within.low, past)))
      (λ (ge : q.key + digit * 16 ^ level ≤ r.key).
      let in_it : InSpan q.key level digit r.key = record {
        levels = span.levels;
        some = span.some;
        digits = span.digits;
        low = ge;
        high = omega (arith, x.1, span.high);
      } in
      ⊎_elim
      (λ (le : r.key ≤ q.key). inl (omega (arith, le, up, past)))
      (λ (there : Trail image floor next at r p.target). inr (there, x.1))
      (goes_on level digit p.target e in_it p.jump (goes x.0)))
      (cases_lt r.key (q.key + digit * 16 ^ level)))
      (behind_it at r trail)

  -- From a block on, where keys up to k may come: the pointer of k's span is blank, and no posting has the key k; or it
  -- leads to a block with greater keys.
  pub greatest_from : (n block place k : ℕ) (q : PostingFields) → k < 2 ^ 32 → Leads image floor next block head
      → IsEnd image block place q → k ≤ q.key + n → AreBehind block k q.key → HasGreatest image floor next head
  greatest_from zero block place k q below leads e le behind_it = found block place q leads e
      (λ at r trail. ⊎_elim (λ h. h) (λ x. omega (arith, x.1, le)) (behind_it at r trail))
  greatest_from (suc n) block place k q below leads e le behind_it = ⊎_elim
      (λ (less : q.key < k). ⊎_elim
      (λ (full : place ≡ 127).
      let e_full : IsEnd image block 127 q = subst (λ (i : ℕ). IsEnd image block i q) full e in
      let s = cover q.key k less below in
      let span : InSpan q.key s.0 s.1 k = s.2 in
      ⊎_elim
      (λ (blank : image (pointer_at block s.0 s.1) ≡ None).
      greatest_from n block 127 (k - 1) q (omega arith) leads e_full (omega arith)
      (fewer e_full s.0 s.1 span blank behind_it))
      (λ (x : (v : List ℕ) × (image (pointer_at block s.0 s.1) ≡ Some v)).
      let p = w.pointers block s.0 s.1 leads span.levels span.some span.digits
      (record { found = x.0; stands = x.1 }) in
      let led = leads_further leads s.0 s.1 p.target span.levels span.some span.digits p.jump p.inside_from
      p.inside_to in
      let same : p.greatest.key ≡ q.key =
      ap (λ (f : PostingFields). f.key) (one_place p.is_full e_full.in_front) in
      let up : q.key < p.some.key =
      span_above (subst (λ (l : ℕ). InSpan l s.0 s.1 p.some.key) same p.in_span) in
      let last = front_end (127 - p.place) p.target p.place p.some led (omega (arith, p.in_places)) p.in_front in
      greatest_from n p.target last.0 k last.1 below led last.2 (omega (arith, up, last.3))
      (further {top = last.1.key} e_full s.0 s.1 span p last.3 behind_it))
      (look image (pointer_at block s.0 s.1)))
      (λ (short : (place < 127) × (image (block + (place + 1)) ≡ None)). found block place q leads e
      (λ at r trail. ⊎_elim
      (λ h. h)
      (λ (x : Trail image floor next at r block × (r.key ≤ k)). open_most e short.0 short.1 (goes x.0))
      (behind_it at r trail)))
      e.last)
      (λ (ge : k ≤ q.key). found block place q leads e
      (λ at r trail. ⊎_elim (λ h. h) (λ x. omega (arith, x.1, ge)) (behind_it at r trail)))
      (cases_lt q.key k)
