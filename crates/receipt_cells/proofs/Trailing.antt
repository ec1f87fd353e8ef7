-- The cells that a trail rests on, over plain values.
use Rattle.std.proofs.Common.{◌≡◌, ◌<◌, ◌≤◌, ◌+◌, ◌-◌, ◌⊎◌, ⊎_elim, inl, inr, ℕ, List, Some, refl, ap, subst, arith, ◌∙◌}
use Rattle.std.proofs.lemmas.Bool.{cases_lt}
use Rattle.cell_types.specs.Image.{Image, Extends}
use Rattle.cell_types.specs.declared.record_cell.RecordCell.TheVariants.{Jump}
use Rattle.volume_meaning.specs.Blocks.{PostingFields, InFront, InSpan, Hop, Trail, at_the_start, behind, here, on, pointer_at}
use Rattle.volume_meaning.specs.Volumes.{Holds, IsWritten}
use Rattle.volume_meaning.proofs.Extending.{holds_on}
use Rattle.volume_meaning.proofs.Fronts.{front_holds, front_on, one_place, rises}
use Rattle.volume_meaning.proofs.Holding.{one_record_holds}
use Rattle.volume_meaning.proofs.Spans.{apart, span_above}
use Rattle.volume_meaning.proofs.Trails.{not_both, one_target, trail_on}
use Rattle.jump_block.specs.Pointing.{HasFull, HasKeyIn, HasPointer}
use Rattle.jump_block.specs.Spans.{IsSpan}
use Rattle.jump_block.specs.declared.spans.Span.{Span}
use Rattle.jump_block.proofs.Knowing.{front_below}
use Rattle.jump_block.proofs.OneBlock.{full_greatest, in_span, jump_target, of_span}
use Rattle.receipt_cells.specs.Needed.{ListsJust, TrailRests, in_front, in_full, jump_cell, from_target}
use Rattle.receipt_cells.specs.Trails.{HopCells, TrailCells}
use Rattle.receipt_cells.specs.Written.{IsInRow, ListsWritten}
use Rattle.receipt_cells.proofs.Listing.{just_as, just_of, just_then}

-- a posting has one place of a front
one_front : {image : Image} {block i j : ℕ} {p : PostingFields} → InFront image block i p → InFront image block j p → i ≡ j
one_front {image} {block} {i} {j} {p} f h = ⊎_elim
    (λ (less : i < j). let no : p.key < p.key = rises h i p f less in absurd (omega arith))
    (λ (le : j ≤ i). ⊎_elim
    (λ (less : j < i). let no : p.key < p.key = rises f j p h less in absurd (omega arith))
    (λ (ge : i ≤ j). omega arith)
    (cases_lt j i))
    (cases_lt i j)

-- the pointer that is taken is one
one_pointer : {image : Image} {from to block k t u : ℕ} (h : Hop image from to block k t) (g : Hop image from to block k u)
    → (h.level ≡ g.level) × (h.digit ≡ g.digit)
one_pointer {k = k} h g =
    let same : h.greatest.key ≡ g.greatest.key = ap (λ (p : PostingFields). p.key) (one_place h.full g.full) in
    apart g.greatest.key k h.level h.digit g.level g.digit (subst (λ (l : ℕ). InSpan l h.level h.digit k) same h.span)
    g.span

-- each place up to one of the front is written
pub front_written : {image : Image} {block place : ℕ} {p : PostingFields} (c : ℕ) → InFront image block place p
    → IsInRow block (block + place + 1) c → IsWritten image c
front_written {image} {block} {place} c front row =
    let k : ℕ = c - block in
    let held = front_holds (front_below front k (omega (arith, row.1))).1 in
    let same : block + k ≡ c = omega (arith, row.0) in
    subst (λ (q : ℕ). IsWritten image q) same (record { found = held.cell; stands = held.stands })

-- a block leads on later too, by the same pointer
hop_later : {old new : Image} {from to block k target : ℕ} → Extends old new → Hop old from to block k target
    → Hop new from to block k target
hop_later e h = record {
  greatest = h.greatest;
  full = front_on e h.full;
  level = h.level;
  digit = h.digit;
  span = h.span;
  jump = holds_on e h.jump;
  inside_from = h.inside_from;
  inside_to = h.inside_to;
  place = h.place;
  some = h.some;
  in_front = front_on e h.in_front;
  in_places = h.in_places;
  in_span = h.in_span;
}

-- what a trail rests on it rests on later
pub rests_on : {old new : Image} {from to c : ℕ} {p : PostingFields} {block : ℕ} → Extends old new
    → TrailRests old from to p c block → TrailRests new from to p c block
unfolding hop_later
rests_on e (in_front block place k below front le is) = in_front block place k below (front_on e front) le is
rests_on e (in_full block target k hop below is) = in_full block target k (hop_later e hop) below is
rests_on e (jump_cell block target hop is) = jump_cell block target (hop_later e hop) is
rests_on e (from_target block target hop rest) = from_target block target (hop_later e hop) (rests_on e rest)

-- and where there was a trail before, it rested on no cell less
pub rests_back : {old new : Image} {from to at c : ℕ} {p : PostingFields} {block : ℕ} → Extends old new
    → Trail old from to at p block → TrailRests new from to p c block → TrailRests old from to p c block
unfolding hop_later
rests_back {p = p} e (here block place is below front) (in_front _ place' k below' front' le eq) =
    let same : place' ≡ place = one_front front' (front_on e front) in
    in_front block place k below front (omega (arith, same, le)) eq
rests_back {p = p} e (here block place is below front) (in_full _ target k hop below' eq) =
    absurd (not_both p.key below (front_on e front) refl hop)
rests_back {p = p} e (here block place is below front) (jump_cell _ target hop eq) =
    absurd (not_both p.key below (front_on e front) refl hop)
rests_back {p = p} e (here block place is below front) (from_target _ target hop rest) =
    absurd (not_both p.key below (front_on e front) refl hop)
rests_back {p = p} e (on block target hop rest) (in_front _ place k below front le eq) =
    absurd (not_both p.key below front refl (hop_later e hop))
rests_back e (on block target hop rest) (in_full _ target' k hop' below eq) = in_full block target k hop below eq
rests_back e (on block target hop rest) (jump_cell _ target' hop' eq) =
    let one = one_pointer (hop_later e hop) hop' in
    jump_cell block target hop (omega (arith, eq, one.0, one.1))
rests_back {new = new} {from} {to} {c = c} {p = p} e (on block target hop rest) (from_target _ target' hop' rest') =
    let one : target' ≡ target = one_target hop' (hop_later e hop) in
    from_target block target hop
    (rests_back e rest (subst (λ (t : ℕ). TrailRests new from to p c t) one rest'))

-- of the block that has the posting, these are the places up to it
pub rests_here : {image : Image} {from to c block place : ℕ} {p : PostingFields} → place < 128
    → InFront image block place p → TrailRests image from to p c block → IsInRow block (block + place + 1) c
rests_here below front (in_front _ place' k below' front' le eq) =
    let same = one_front front' front in (omega (arith, eq), omega (arith, eq, le, same))
rests_here {p = p} below front (in_full _ target k hop below' eq) = absurd (not_both p.key below front refl hop)
rests_here {p = p} below front (jump_cell _ target hop eq) = absurd (not_both p.key below front refl hop)
rests_here {p = p} below front (from_target _ target hop rest) = absurd (not_both p.key below front refl hop)

pub here_rests : {image : Image} {from to block place : ℕ} {p : PostingFields} (c : ℕ) → place < 128
    → InFront image block place p → IsInRow block (block + place + 1) c → TrailRests image from to p c block
here_rests {block = block} {place} c below front row =
    in_front block place (c - block) below front (omega (arith, row.1)) (omega (arith, row.0))

-- a trail through a full block goes on behind the pointer of its key's span
pub record IsLedOn (image : Image) (pool cells at : ℕ) (p : PostingFields) (block : ℕ) (s : Span) (target : ℕ) : Type 0 where
  pub hop : Hop image pool cells block p.key target
  pub level : hop.level ≡ s.level
  pub digit : hop.digit ≡ s.digit
  pub rest : Trail image pool cells at p target
  pub has : HasKeyIn image target s.low s.high

pub led_on : (image : Image) (pool cells at l block : ℕ) (p : PostingFields) (s : Span) (target : ℕ)
    → HasFull image block l → IsSpan l s → s.low ≤ p.key → p.key < s.high → HasPointer image block s.level s.digit target
    → Trail image pool cells at p block → IsLedOn image pool cells at p block s target
led_on image pool cells at l block p s target full is low high jump (here _ place at_is below front) =
    let le : p.key ≤ l = full_greatest image block l place p full below front in
    let above : l < p.key = span_above (in_span {k = p.key} is low high) in
    absurd (omega arith)
led_on image pool cells at l block p s target full is low high jump (on _ t hop rest) =
    let same : hop.greatest.key ≡ l = ap (λ (q : PostingFields). q.key) (one_place hop.full full.in_front) ∙
    full.same in
    let places : (hop.level ≡ s.level) × (hop.digit ≡ s.digit) =
    apart l p.key hop.level hop.digit s.level s.digit (subst (λ (n : ℕ). InSpan n hop.level hop.digit p.key) same
    hop.span) (in_span {k = p.key} is low high) in
    let cell : pointer_at block hop.level hop.digit ≡ pointer_at block s.level s.digit = omega
    (arith, places.0, places.1) in
    let some : InSpan l s.level s.digit hop.some.key =
    subst (λ (d : ℕ). InSpan l s.level d hop.some.key) places.1
    (subst (λ (v : ℕ). InSpan l v hop.digit hop.some.key) places.0
    (subst (λ (n : ℕ). InSpan n hop.level hop.digit hop.some.key) same hop.in_span)) in
    let lies = of_span is some in
    let one : t ≡ target = jump_target t target (one_record_holds image (pointer_at block s.level s.digit) (Jump t)
    (Jump target) (subst (λ (c : ℕ). Holds image c (Jump t)) cell hop.jump) jump) in
    subst (λ (x : ℕ). IsLedOn image pool cells at p block s x) one (record {
      hop = hop;
      level = places.0;
      digit = places.1;
      rest = rest;
      has = record {
        place = hop.place;
        p = hop.some;
        in_places = hop.in_places;
        in_front = hop.in_front;
        from = lies.0;
        below = lies.1;
      };
    })

module _ {image : Image} {pool cells at : ℕ} {p : PostingFields} {block : ℕ} {s : Span} {target : ℕ}
    (led : IsLedOn image pool cells at p block s target) where
  -- of a block that leads on, these are its full front, the pointer, and what the trail from the target rests on
  pub rests_behind : (c : ℕ) → TrailRests image pool cells p c block
      → TrailRests image pool cells p c target ⊎ HopCells block s.level s.digit c
  rests_behind c (in_front _ place k below front le eq) = absurd (not_both p.key below front refl led.hop)
  rests_behind c (in_full _ t k hop below eq) = inr (inl (omega (arith, eq), omega (arith, eq, below)))
  rests_behind c (jump_cell _ t hop eq) =
      let one = one_pointer hop led.hop in
      inr (inr (omega (arith, eq, one.0, one.1, led.level, led.digit)))
  rests_behind c (from_target _ t hop rest) =
      inl (subst (λ (x : ℕ). TrailRests image pool cells p c x) (one_target hop led.hop) rest)

  pub behind_rests : (c : ℕ) → TrailRests image pool cells p c target ⊎ HopCells block s.level s.digit c
      → TrailRests image pool cells p c block
  behind_rests c these = ⊎_elim
      (λ (rest : TrailRests image pool cells p c target). from_target block target led.hop rest)
      (λ (h : HopCells block s.level s.digit c). ⊎_elim
      (λ (row : IsInRow block (block + 128) c).
      in_full block target (c - block) led.hop (omega (arith, row.0, row.1)) (omega (arith, row.0)))
      (λ (is : c ≡ pointer_at block s.level s.digit).
      jump_cell block target led.hop (omega (arith, is, led.level, led.digit)))
      h)
      these

  -- each of them in the block is written
  pub hop_written : (c : ℕ) → HopCells block s.level s.digit c → IsWritten image c
  hop_written c these = ⊎_elim
      (λ (row : IsInRow block (block + 128) c). front_written c led.hop.full (row.0, omega (arith, row.1)))
      (λ (is : c ≡ pointer_at block s.level s.digit).
      let same : pointer_at block led.hop.level led.hop.digit ≡ c = omega (arith, is, led.level, led.digit) in
      subst (λ (q : ℕ). IsWritten image q) same
      (record { found = led.hop.jump.cell; stands = led.hop.jump.stands }))
      these

-- it is led on later too
pub led_later : {old new : Image} {pool cells at : ℕ} {p : PostingFields} {block : ℕ} {s : Span} {target : ℕ}
    → Extends old new → IsLedOn old pool cells at p block s target → IsLedOn new pool cells at p block s target
unfolding hop_later
led_later e led = record {
  hop = hop_later e led.hop;
  level = led.level;
  digit = led.digit;
  rest = trail_on e led.rest;
  has = record {
    place = led.has.place;
    p = led.has.p;
    in_places = led.has.in_places;
    in_front = front_on e led.has.in_front;
    from = led.has.from;
    below = led.has.below;
  };
}

-- of the block that has the posting, the places up to it were listed
pub here_just : {mid new : Image} {pool cells block : ℕ} {p : PostingFields} {listed later : List (ℕ × List ℕ)}
    → Extends mid new → (place : ℕ) → place < 128 → InFront mid block place p
    → ListsWritten (IsInRow block (block + place + 1)) mid new listed later
    → ListsJust (TrailCells pool cells new block p) new listed later
here_just e place below front lists = just_of
    (λ c row. here_rests c below (front_on e front) row)
    (λ c rests. let row = rests_here below (front_on e front) rests in (row, front_written c front row))
    lists

-- of a block that leads on, what the trail from the target rests on was listed, and then the block's own cells
pub behind_just : {next asked new : Image} {pool cells at : ℕ} {p : PostingFields} {block : ℕ} {s : Span} {target : ℕ}
    {listed between later : List (ℕ × List ℕ)} → Extends next asked → Extends asked new
    → IsLedOn next pool cells at p block s target → ListsJust (TrailCells pool cells asked target p) asked listed between
    → ListsWritten (HopCells block s.level s.digit) asked new between later
    → ListsJust (TrailCells pool cells new block p) new listed later
behind_just {next} {asked} {new} {pool} {cells} {p = p} {block} {s} {target} e f led rest hop =
    let there = led_later e led in
    let last = led_later f there in
    just_as
    (λ c these. behind_rests last c (⊎_elim
    (λ (h : TrailCells pool cells asked target p c). inl (rests_on f h))
    (λ (h : HopCells block s.level s.digit c). inr h)
    these))
    (λ c rests. ⊎_elim
    (λ (h : TrailCells pool cells new target p c). inl (rests_back f there.rest h))
    (λ (h : HopCells block s.level s.digit c). inr h)
    (rests_behind last c rests))
    (just_then f rest (just_of (λ c h. h) (λ c h. (h, hop_written there c h)) hop))

-- a front up to a place stands wherever its cells do
pub front_by_cells : {image sub : Image} {block place : ℕ} {p : PostingFields} → InFront image block place p
    → ((k : ℕ) (value : List ℕ) → k ≤ place → image (block + k) ≡ Some value → sub (block + k) ≡ Some value)
    → InFront sub block place p
front_by_cells (at_the_start place p is holds) same =
    at_the_start place p is (record {
      cell = holds.cell;
      stands = same place holds.cell (omega arith) holds.stands;
      is = holds.is;
    })
front_by_cells (behind place before p q is rest less holds) same =
    behind place before p q is (front_by_cells rest (λ k value le stands. same k value (omega (arith, le, is)) stands)) less
    (record {
      cell = holds.cell;
      stands = same place holds.cell (omega arith) holds.stands;
      is = holds.is;
    })

-- a block leads on wherever the cells of a trail through it stand
hop_by_cells : {image sub : Image} {from to at block target : ℕ} {p : PostingFields}
    → (hop : Hop image from to block p.key target) → Trail image from to at p target
    → ((c : ℕ) (value : List ℕ) → TrailRests image from to p c block → image c ≡ Some value → sub c ≡ Some value)
    → Hop sub from to block p.key target
hop_by_cells {image} {sub} {from} {to} {block = block} {target} {p} hop rest same = record {
  greatest = hop.greatest;
  full = front_by_cells hop.full
      (λ k value le stands. same (block + k) value (in_full block target k hop (omega arith) refl) stands);
  level = hop.level;
  digit = hop.digit;
  span = hop.span;
  jump = record {
    cell = hop.jump.cell;
    stands = same (pointer_at block hop.level hop.digit) hop.jump.cell (jump_cell block target hop refl) hop.jump.stands;
    is = hop.jump.is;
  };
  inside_from = hop.inside_from;
  inside_to = hop.inside_to;
  place = (some_key rest).0;
  some = (some_key rest).1;
  in_front = (some_key rest).2;
  in_places = (some_key rest).3;
  in_span = (some_key rest).4;
}
  where
    some_key : {at : ℕ} → Trail image from to at p target
        → (place : ℕ) × (q : PostingFields) × InFront sub target place q × (place < 128)
        × InSpan hop.greatest.key hop.level hop.digit q.key
    some_key (here _ place is below front) = (
      place,
      p,
      front_by_cells front (λ k value le stands. same (target + k) value
          (from_target block target hop (in_front target place k below front le refl)) stands),
      below,
      hop.span,
    )
    some_key (on _ next beyond rest) = (
      hop.place,
      hop.some,
      front_by_cells hop.in_front (λ k value le stands. same (target + k) value
          (from_target block target hop (in_full target next k beyond (omega (arith, le, hop.in_places)) refl)) stands),
      hop.in_places,
      hop.in_span,
    )

-- a trail stands wherever the cells that it rests on do
pub trail_by_cells : {image sub : Image} {from to at : ℕ} {p : PostingFields} {block : ℕ} → Trail image from to at p block
    → ((c : ℕ) (value : List ℕ) → TrailRests image from to p c block → image c ≡ Some value → sub c ≡ Some value)
    → Trail sub from to at p block
trail_by_cells (here block place is below front) same =
    here block place is below (front_by_cells front
    (λ k value le stands. same (block + k) value (in_front block place k below front le refl) stands))
trail_by_cells (on block target hop rest) same =
    on block target (hop_by_cells hop rest same)
    (trail_by_cells rest (λ c value rests. same c value (from_target block target hop rests)))
