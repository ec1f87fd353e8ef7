-- One step of a trail.
use Rattle.std.proofs.Common.{◌≡◌, ◌<◌, ◌≤◌, ◌+◌, ⊎_elim, ℕ, zero, suc, refl, subst, ap, arith}
use Rattle.std.proofs.lemmas.Bool.{cases_order}
use Rattle.cell_types.specs.Image.{Image}
use Rattle.cell_types.specs.Layout.{Layout, pool_at}
use Rattle.cell_types.specs.declared.record_cell.RecordCell.TheVariants.{Jump}
use Rattle.volume_meaning.specs.Blocks.{PostingFields, posting_record, InFront, at_the_start, behind, IsFull, InSpan, Hop, Trail, here, on, pointer_at}
use Rattle.volume_meaning.specs.Nodes.{IsBlockOf}
use Rattle.volume_meaning.proofs.Fronts.{front_holds, one_posting, one_place, rises}
use Rattle.volume_meaning.proofs.Spans.{apart, span_above}
use Rattle.volume_meaning.specs.Volumes.{Holds, IsWritten}
use Rattle.volume_meaning.proofs.Holding.{one_record_holds}
use Rattle.tamper_rules.specs.Rules.{Entries, Pointers, LeadsWell, EndsFront}
use Rattle.jump_block.specs.Spans.{IsSpan}
use Rattle.jump_block.specs.declared.spans.Span.{Span}
use Rattle.jump_block.proofs.Knowing.{front_below}
use Rattle.jump_block.proofs.OneBlock.{in_span, of_span}
use Rattle.log_audit.specs.Findings.{IsMetAll}
use Rattle.log_audit.proofs.Deciding.{held_written}
use Rattle.list_audit.specs.Blocks.{PointsTo}
use Rattle.list_audit.proofs.Closing.{leads_on, one_target}
use Rattle.list_audit.specs.Trails.{HasTrail, IsAllFront, IsPlaceOfKey, LeadsOnTo, PlaceAnswers, StepAnswers}
use Rattle.list_audit.specs.declared.steps.Step.{Step}
use Rattle.list_audit.specs.declared.steps.Step.TheVariants.{Found, Missing, On}
use Rattle.list_audit.proofs.Placing.{in_the_front}

-- where rule 8 is kept, the entries of a block are its front
pub all_front : {g : Layout} {image : Image} {l block : ℕ} → IsMetAll g image Entries → IsBlockOf g image l block → IsAllFront image block
all_front {g} {image} {l} {block} met is = at
  where
    at : (k : ℕ) → k < 128 → IsWritten image (block + k) → (p : PostingFields) × InFront image block k p
    at zero few written =
        let h = (met (block + 0) written).entry l block 0 is few refl in
        (h.p, at_the_start 0 h.p refl h.holds)
    at (suc j) few written =
        let h = (met (block + suc j) written).entry l block (suc j) is few refl in
        ⊎_elim
        (λ (none : suc j ≡ 0). absurd (omega (arith, none)))
        (λ w.
        let same : w.0 ≡ j = omega (arith, w.2) in
        let holds : Holds image (block + j) (posting_record w.1) = subst (λ (n : ℕ). Holds image (block + n) (posting_record w.1)) same w.3 in
        let f = at j (omega (arith, few)) (held_written holds) in
        let one : f.0 ≡ w.1 = one_posting image (block + j) f.0 w.1 (front_holds f.1) holds in
        (h.p, behind (suc j) j h.p f.0 (omega arith) f.1 (omega (arith, w.4, ap (λ (r : PostingFields). r.key) one)) h.holds))
        h.rises

-- the posting stands at its place
pub stands_here : (g : Layout) (image : Image) (block place : ℕ) (p : PostingFields) → IsAllFront image block → place < 128
    → Holds image (block + place) (posting_record p) → HasTrail g image p block
stands_here g image block place p front few holds = (block + place, here block place refl few (in_the_front front few holds))

-- it does not, so that it has no trail
pub not_here : (g : Layout) (image : Image) (block place : ℕ) (p : PostingFields) → IsPlaceOfKey image block p.key place → place < 128
    → (Holds image (block + place) (posting_record p) → ⊥) → HasTrail g image p block → ⊥
not_here g image block place p at few none has = by block at none has.1
  where
    by : (b : ℕ) → IsPlaceOfKey image b p.key place → (Holds image (b + place) (posting_record p) → ⊥)
        → Trail image (pool_at g) g.cells has.0 p b → ⊥
    by b at none (here c k is inside front) = ⊎_elim
        (λ (same : k ≡ place). none (subst (λ (n : ℕ). Holds image (c + n) (posting_record p)) same (front_holds front)))
        (λ differ. ⊎_elim
        (λ (less : k < place). let w = at.lower k less in
        let one : w.0 ≡ p = one_place w.1 front in omega (arith, w.2, ap (λ (r : PostingFields). r.key) one))
        (λ (more : place < k). let f = front_below front place (omega (arith, more)) in
        let up = rises front place f.0 f.1 more in
        let least = at.upper place f.0 (omega arith) few f.1 in omega (arith, up, least))
        differ)
        (cases_order k place)
    by b at none (on c target hop rest) =
        let least = at.upper 127 hop.greatest (omega (arith, few)) (omega arith) hop.full in
        let above = span_above hop.span in
        omega (arith, least, above)

-- where the front of a block ends, it is full of it
greatest_is : (image : Image) (block : ℕ) (e q : PostingFields) → EndsFront image block e → IsFull image block q → e ≡ q
greatest_is image block e q ends full = ⊎_elim
    (λ (same : ends.place ≡ 127). one_place (subst (λ (n : ℕ). InFront image block n e) same ends.in_front) full)
    (λ differ. ⊎_elim
    (λ (less : ends.place < 127). let f = front_below full (ends.place + 1) (omega (arith, less)) in
    absurd (ends.ends (omega (arith, less)) f.0 f.1))
    (λ (more : 127 < ends.place). absurd (omega (arith, more, ends.in_places)))
    differ)
    (cases_order ends.place 127)

-- a block of lower keys alone, with its greatest
module _ (g : Layout) (image : Image) (l block : ℕ) (p q : PostingFields) (is : IsBlockOf g image l block)
    (at : IsPlaceOfKey image block p.key 128) (holds : Holds image (block + 127) (posting_record q)) where
  pub full_of : IsFull image block q × (q.key < p.key)
  full_of =
      let w = at.lower 127 (omega arith) in
      let same : w.0 ≡ q = one_posting image (block + 127) w.0 q (front_holds w.1) holds in
      (subst (InFront image block 127) same w.1, subst (λ (r : PostingFields). r.key < p.key) same w.2)

  module _ (s : Span) (span : IsSpan q.key s) (low : s.low ≤ p.key) (high : p.key < s.high) (cell : ℕ)
      (pointer : cell ≡ pointer_at block s.level s.digit) where
    not_in : (b : ℕ) → b ≡ block → (k : ℕ) → k < 128 → InFront image b k p → ⊥
    not_in b same k few front =
        let w = at.lower k few in
        let one : w.0 ≡ p = one_place w.1 (subst (λ (n : ℕ). InFront image n k p) same front) in
        omega (arith, w.2, ap (λ (r : PostingFields). r.key) one)

    -- a hop goes by the pointer of the key's span
    hops_there : (b : ℕ) → b ≡ block → (t : ℕ) → Hop image (pool_at g) g.cells b p.key t → PointsTo g image cell t
    hops_there b same t hop =
        let one : hop.greatest ≡ q = one_place (subst (λ (n : ℕ). InFront image n 127 hop.greatest) same hop.full) full_of.0 in
        let both = apart q.key p.key hop.level hop.digit s.level s.digit
        (subst (λ (r : PostingFields). InSpan r.key hop.level hop.digit p.key) one hop.span) (in_span span low high) in
        let where_to : pointer_at b hop.level hop.digit ≡ cell = omega (arith, same, both.0, both.1, pointer) in
        record { held = subst (λ (n : ℕ). Holds image n (Jump t)) where_to hop.jump; from = hop.inside_from; to = hop.inside_to }

    -- no pointer is there
    pub no_way : ((target : ℕ) → PointsTo g image cell target → ⊥) → HasTrail g image p block → ⊥
    no_way none has = by block refl has.1
      where
        by : (b : ℕ) → b ≡ block → Trail image (pool_at g) g.cells has.0 p b → ⊥
        by b same (here c k there few front) = not_in b same k few front
        by b same (on c t hop rest) = none t (hops_there b same t hop)

    module _ (target : ℕ) (points : PointsTo g image cell target) (met : IsMetAll g image Pointers) where
      well : LeadsWell g image l block s.level s.digit
      well = met cell (held_written points.held) l block s.level s.digit is span.levels span.some span.digits pointer

      leads_there : PointsTo g image (pointer_at block s.level s.digit) target
      leads_there = subst (λ (n : ℕ). PointsTo g image n target) pointer points

      same_target : well.target ≡ target
      same_target = one_jump (one_record_holds image (pointer_at block s.level s.digit) (Jump well.target) (Jump target) well.jump leads_there.held)
        where
          one_jump : Jump well.target ≡ Jump target → well.target ≡ target
          one_jump e = cc

      some_in_span : InSpan q.key s.level s.digit well.some.key
      some_in_span = subst (λ (r : PostingFields). InSpan r.key s.level s.digit well.some.key)
          (greatest_is image block well.greatest q well.ends full_of.0) well.in_span

      hop : Hop image (pool_at g) g.cells block p.key target
      hop = record {
        greatest = q;
        full = full_of.0;
        level = s.level;
        digit = s.digit;
        span = in_span span low high;
        jump = leads_there.held;
        inside_from = points.from;
        inside_to = points.to;
        place = well.place;
        some = well.some;
        in_front = subst (λ (n : ℕ). InFront image n well.place well.some) same_target well.in_front;
        in_places = well.in_places;
        in_span = some_in_span;
      }

      -- the pointer leads on
      pub leads_on_to : LeadsOnTo g image l p block target
      leads_on_to = record {
        greatest = q;
        full = full_of.0;
        span = s;
        is = span;
        low = low;
        high = high;
        lands = leads_on is (omega (arith, span.some)) (omega (arith, span.levels, span.digits)) leads_there;
        place = well.place;
        some = well.some;
        in_places = well.in_places;
        in_front = subst (λ (n : ℕ). InFront image n well.place well.some) same_target well.in_front;
        from = (of_span span some_in_span).0;
        down = λ has. by block refl has.0 has.1;
        up = λ has. (has.0, on block target hop has.1);
      }
        where
          by : (b : ℕ) → b ≡ block → (home : ℕ) → Trail image (pool_at g) g.cells home p b → HasTrail g image p target
          by b same home (here c k there few front) = absurd (not_in b same k few front)
          by b same home (on c t hop rest) =
              (home, subst (Trail image (pool_at g) g.cells home p) (one_target (hops_there b same t hop) points) rest)

-- what stands at the place of the posting's key says whether it has a trail
pub by_place : (g : Layout) (image : Image) (l block place : ℕ) (p : PostingFields) (answer : Step) → IsAllFront image block
    → IsPlaceOfKey image block p.key place → place < 128 → PlaceAnswers image block place p answer → StepAnswers g image l p block answer
by_place g image l block place p Found front at few ends = stands_here g image block place p front few ends
by_place g image l block place p Missing front at few ends = not_here g image block place p at few ends
by_place g image l block place p (On target) front at few ends = absurd ends
