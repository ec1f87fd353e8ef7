-- What an insertion keeps: each posting of the list is an old one or the new one, and has a trail.
use Rattle.std.proofs.Common.{◌≡◌, ◌<◌, ◌≤◌, ◌+◌, ◌-◌, ◌*◌, ◌⊎◌, ⊎_elim, inl, inr, ℕ, None, refl, ap, sym, subst, arith, ◌∙◌}
use Rattle.std.proofs.lemmas.Bool.{cases_eq}
use Rattle.std.proofs.lemmas.Option.{none-some}
use Rattle.cell_types.specs.Image.{Image, Extends}
use Rattle.cell_types.specs.declared.record_cell.RecordCell.{RecordCell}
use Rattle.cell_types.specs.declared.record_cell.RecordCell.TheVariants.{Jump}
use Rattle.volume_meaning.specs.Volumes.{Holds}
use Rattle.volume_meaning.proofs.Extending.{holds_on}
use Rattle.volume_meaning.proofs.Holding.{one_record_holds}
use Rattle.volume_meaning.specs.Blocks.{PostingFields, posting_record, InFront, at_the_start, behind, InSpan, Hop, Trail, here, on, Leads, arrived, onwards, pointer_at}
use Rattle.volume_meaning.specs.Nodes.{AreApart}
use Rattle.volume_meaning.proofs.Fronts.{front_on, one_place, one_posting}
use Rattle.volume_meaning.proofs.Trails.{hop_on, hop_wider, trail_on, trail_wider}
use Rattle.tamper_rules.proofs.GivenUp.{jumps, leads_further}
use Rattle.tamper_rules.proofs.Writing.{same_or_not}
use Rattle.ingest_laws.specs.ListShapes.{IsWellListed, AddsOneCell}
use Rattle.ingest_laws.proofs.ListShapes.{adds_extends, holds_back}
use Rattle.worm_device.proofs.Images.{extends_then}
use Rattle.jump_insertion.specs.Costs.{ListHasTrails, HaveKeysBelow}
use Rattle.jump_insertion.specs.Growing.{WalksBlocks, ends, hops, RisesInFront, PutsTwo, Grows, in_block, in_tail, in_new_block}
use Rattle.jump_insertion.proofs.Costs.{walk_leads}

-- what holds of a first block, and of each that a block with it leads to, holds of the list's blocks
leads_by : {image : Image} {from to last block : ℕ} (P : ℕ → Type 0)
    → ((b level digit target : ℕ) → P b → level < 8 → 1 ≤ digit → digit ≤ 15
    → Holds image (pointer_at b level digit) (Jump target) → from ≤ target → target + 256 ≤ to → P target)
    → Leads image from to last block → P block → P last
leads_by P step (arrived block is) there = subst P is there
leads_by P step (onwards block level digit target l s d jump f t rest) there =
    leads_by P step rest (step block level digit target there l s d jump f t)

-- a list that goes on from another
leads_then : {image : Image} {from to last mid head : ℕ} → Leads image from to last mid
    → Leads image from to mid head → Leads image from to last head
leads_then {image} {from} {to} {last} {mid} {head} (arrived _ same) there =
    subst (λ (b : ℕ). Leads image from to b head) same there
leads_then (onwards mid level digit target l s d jump f t rest) there =
    leads_then rest (leads_further there level digit target l s d jump f t)

-- a block of the list ends before the pool's next cell
pub leads_below : {image : Image} {from to last head : ℕ} → Leads image from to last head → head + 256 ≤ to
    → last + 256 ≤ to
leads_below (arrived head same) below = omega (arith, same, below)
leads_below (onwards head level digit target l s d jump f t rest) below = leads_below rest t

-- a posting is no jump cell
no_posting_jumps : (p : PostingFields) (target : ℕ) → posting_record p ≡ Jump target → ⊥
no_posting_jumps p target same = cc

-- a cell holds a posting or a jump cell
not_both : {image : Image} {at target : ℕ} {p : PostingFields} → Holds image at (posting_record p)
    → Holds image at (Jump target) → ⊥
not_both {image} {at} {target} {p} h k =
    no_posting_jumps p target (one_record_holds image at (posting_record p) (Jump target) h k)

-- the same cell by another sum
moved : {image : Image} {at to : ℕ} {r : RecordCell} → at ≡ to → Holds image at r → Holds image to r
moved {image} {r = r} same h = subst (λ (c : ℕ). Holds image c r) same h

-- a posting behind smaller keys is of its block's front
new_in_front : {old new : Image} {block place : ℕ} {p : PostingFields} → AddsOneCell (block + place) old new
    → Holds new (block + place) (posting_record p) → RisesInFront old block place p.key → InFront new block place p
new_in_front {old} {new} {block} {place} {p} adds holds rises = ⊎_elim
    (λ first. at_the_start place p first holds)
    (λ later.
    let is : place ≡ (place - 1) + 1 = omega (arith, later) in
    let h = rises (place - 1) is in
    behind place (place - 1) p h.0 is (front_on (adds_extends adds) h.1) h.2 holds)
    (cases_eq place 0)

-- a cell of a block is none that lies apart from it
far_from : {block i cell : ℕ} → i < 256 → AreApart block 256 cell 1 → cell ≡ block + i → ⊥
far_from less apart same =
    ⊎_elim (λ low. omega (arith, less, low, same)) (λ high. omega (arith, less, high, same)) apart

-- a pointer lies in its block
pointer_within : {l level digit key : ℕ} → InSpan l level digit key → 127 + 15 * level + digit < 256
pointer_within span = omega (arith, span.levels, span.digits)

-- The list grew by a posting: what was written stays, and what lies outside the list's blocks and before the new ones is
-- as it was; each block was one before or is new; each posting is the new one or stood in the list; and the new one has
-- a trail.
pub record IsGrown (old new : Image) (floor next to head : ℕ) (p : PostingFields) : Type 0 where
  pub extends : Extends old new
  pub more : next ≤ to
  pub outside : (cell : ℕ) → cell < next
      → ((block : ℕ) → Leads old floor next block head → AreApart block 256 cell 1) → new cell ≡ old cell
  pub blocks : (block : ℕ) → Leads new floor to block head → Leads old floor next block head ⊎ (next ≤ block)
  pub each : (block place : ℕ) (q : PostingFields) → Leads new floor to block head → place < 128
      → Holds new (block + place) (posting_record q)
      → (q ≡ p) ⊎ (Leads old floor next block head × Holds old (block + place) (posting_record q))
  pub at : ℕ
  pub trail : Trail new floor to at p head

-- a trail from where the walk for the posting's key ends is one from where it begins
walk_trails : {old new : Image} {floor next to head at last : ℕ} {p : PostingFields} {block : ℕ}
    → IsWellListed old floor next head → Extends old new → next ≤ to → WalksBlocks old floor next p.key last block
    → Leads old floor next block head → Trail new floor to at p last → Trail new floor to at p block
walk_trails {old} {new} {floor} {next} {to} {head} {at} {last} {p = p} w e more (ends block same) leads trail =
    subst (λ (b : ℕ). Trail new floor to at p b) (sym same) trail
walk_trails {old} {new} {floor} {next} {to} {head} {at} {last} {p = p} w e more
    (hops block target step rest) leads trail =
    let led = leads_further leads step.level step.digit target step.span.levels step.span.some step.span.digits
    step.jump step.inside_from step.inside_to in
    let s = w.pointers block step.level step.digit leads step.span.levels step.span.some step.span.digits
    (record { found = step.jump.cell; stands = step.jump.stands }) in
    let same : s.target ≡ target = jumps s.target target
    (one_record_holds old (pointer_at block step.level step.digit) (Jump s.target) (Jump target) s.jump
    step.jump) in
    let keys : s.greatest.key ≡ step.greatest.key =
    ap (λ (f : PostingFields). f.key) (one_place s.is_full step.full) in
    let hop : Hop old floor next block p.key target = record {
      greatest = step.greatest;
      full = step.full;
      level = step.level;
      digit = step.digit;
      span = step.span;
      jump = step.jump;
      inside_from = step.inside_from;
      inside_to = step.inside_to;
      place = s.place;
      some = s.some;
      in_front = subst (λ (b : ℕ). InFront old b s.place s.some) same s.in_front;
      in_places = s.in_places;
      in_span = subst (λ (l : ℕ). InSpan l step.level step.digit s.some.key) keys s.in_span;
    } in
    on block target (hop_on e (hop_wider floor to (omega arith) more hop)) (walk_trails w e more rest led trail)

module _ {old new : Image} {floor next head : ℕ} {p : PostingFields} (w : IsWellListed old floor next head) where
  -- into a block with a blank entry
  in_a_block : (last place : ℕ) → WalksBlocks old floor next p.key last head → place < 128 → AddsOneCell (last + place) old new
      → Holds new (last + place) (posting_record p) → RisesInFront old last place p.key
      → IsGrown old new floor next next head p
  in_a_block last place walk below adds holds rises = record {
    extends = adds_extends adds;
    more = omega arith;
    outside = λ cell before apart.
        adds.others cell (far_from (omega arith) (apart last (walk_leads walk (arrived head refl))));
    blocks = λ b leads. inl (was_block leads);
    each = λ b i q leads less held. ⊎_elim
        (λ same. inl (one_posting new (last + place) q p (moved same held) holds))
        (λ differ. inr (was_block leads, holds_back (adds.others (b + i) differ) held))
        (same_or_not (b + i) (last + place));
    at = last + place;
    trail = walk_trails w (adds_extends adds) (omega arith) walk (arrived head refl)
        (here last place refl below (new_in_front adds holds rises));
  }
    where
      was_block : {b : ℕ} → Leads new floor next b head → Leads old floor next b head
      was_block {b} leads = leads_by (λ (c : ℕ). Leads old floor next c head)
          (λ c level digit target there l s d jump f t. leads_further there level digit target l s d
          (holds_back (adds.others (pointer_at c level digit) (λ same. not_both holds (moved same jump))) jump) f t)
          leads (arrived head refl)

  -- what two added cells leave
  pub others_two : {home target place : ℕ} → (puts : PutsTwo old new home target place p) → (cell : ℕ)
      → (cell ≡ target + place → ⊥) → (cell ≡ pointer_at home puts.level puts.digit → ⊥) → new cell ≡ old cell
  others_two puts cell a b = puts.adds_jump.others cell b ∙ puts.adds.others cell a

  extends_two : {home target place : ℕ} → PutsTwo old new home target place p → Extends old new
  extends_two puts = extends_then (adds_extends puts.adds) (adds_extends puts.adds_jump)

  posting_two : {home target place : ℕ} → PutsTwo old new home target place p
      → Holds new (target + place) (posting_record p)
  posting_two puts = holds_on (adds_extends puts.adds_jump) puts.posting

  -- a posting is the new one, or stood there
  posting_before : {home target place : ℕ} → (puts : PutsTwo old new home target place p) → (cell : ℕ)
      (q : PostingFields) → Holds new cell (posting_record q) → (q ≡ p) ⊎ Holds old cell (posting_record q)
  posting_before {home} {target} {place} puts cell q held = ⊎_elim
      (λ same. inl (one_posting new (target + place) q p (moved same held) (posting_two puts)))
      (λ differ. inr (holds_back (others_two puts cell differ (λ same. not_both (moved same held) puts.jump)) held))
      (same_or_not cell (target + place))

  -- a jump cell is the new one, or stood there
  jump_before : {home target place : ℕ} → (puts : PutsTwo old new home target place p) → (cell to : ℕ)
      → Holds new cell (Jump to)
      → ((cell ≡ pointer_at home puts.level puts.digit) × (to ≡ target)) ⊎ Holds old cell (Jump to)
  jump_before {home} {target} {place} puts cell to held = ⊎_elim
      (λ same. inl (
        same,
        jumps to target (one_record_holds new (pointer_at home puts.level puts.digit) (Jump to)
            (Jump target) (moved same held) puts.jump),
      ))
      (λ differ. inr (holds_back (others_two puts cell (λ same. not_both (posting_two puts) (moved same held)) differ)
      held))
      (same_or_not cell (pointer_at home puts.level puts.digit))

  -- and the new block or tail has a trail for the posting
  trail_two : {home target place to : ℕ} → (puts : PutsTwo old new home target place p)
      → WalksBlocks old floor next p.key home head → next ≤ to → floor ≤ target → target + 256 ≤ to
      → Trail new floor to (target + place) p head
  trail_two {home} {target} {place} {to} puts walk more from inside =
      let front : InFront new target place p =
      front_on (adds_extends puts.adds_jump) (new_in_front puts.adds puts.posting puts.rises) in
      walk_trails w (extends_two puts) more walk (arrived head refl)
      (on home target
      (record {
        greatest = puts.greatest;
        full = front_on (extends_two puts) puts.full;
        level = puts.level;
        digit = puts.digit;
        span = puts.span;
        jump = puts.jump;
        inside_from = from;
        inside_to = inside;
        place = place;
        some = p;
        in_front = front;
        in_places = puts.in_places;
        in_span = puts.span;
      })
      (here target place refl puts.in_places front))

  -- into the list's tail, with a pointer to it
  in_the_tail : (home target place : ℕ) → WalksBlocks old floor next p.key home head → PutsTwo old new home target place p
      → Leads old floor next target home → floor ≤ target → target + 256 ≤ next
      → IsGrown old new floor next next head p
  in_the_tail home target place walk puts led from inside =
      let there : Leads old floor next target head = leads_then led (walk_leads walk (arrived head refl)) in record {
        extends = extends_two puts;
        more = omega arith;
        outside = λ cell before apart. others_two puts cell
            (far_from (omega (arith, puts.in_places)) (apart target there))
            (far_from (pointer_within puts.span) (apart home (walk_leads walk (arrived head refl))));
        blocks = λ b leads. inl (was_block there leads);
        each = λ b i q leads less held. ⊎_elim inl (λ was. inr (was_block there leads, was))
            (posting_before puts (b + i) q held);
        at = target + place;
        trail = trail_two puts walk (omega arith) from inside;
      }
    where
      was_block : {b : ℕ} → Leads old floor next target head → Leads new floor next b head → Leads old floor next b head
      was_block {b} there leads = leads_by (λ (c : ℕ). Leads old floor next c head)
          (λ c level digit to here l s d jump f t. ⊎_elim
          (λ (x : (pointer_at c level digit ≡ pointer_at home puts.level puts.digit) × (to ≡ target)).
          subst (λ (n : ℕ). Leads old floor next n head) (sym x.1) there)
          (λ kept. leads_further here level digit to l s d kept f t)
          (jump_before puts (pointer_at c level digit) to jump))
          leads (arrived head refl)

  -- into a new block, with a pointer to it
  in_a_new_block : (home : ℕ) → floor ≤ next → WalksBlocks old floor next p.key home head → PutsTwo old new home next 0 p
      → ((cell : ℕ) → next ≤ cell → old cell ≡ None) → IsGrown old new floor next (next + 256) head p
  in_a_new_block home roomy walk puts blank = record {
    extends = extends_two puts;
    more = omega arith;
    outside = λ cell before apart. others_two puts cell
        (λ same. omega (arith, same, before))
        (far_from (pointer_within puts.span) (apart home (walk_leads walk (arrived head refl))));
    blocks = λ b leads. ⊎_elim inl (λ (is : b ≡ next). inr (omega (arith, is))) (was_or_new leads);
    each = λ b i q leads less held. ⊎_elim inl
        (λ was. ⊎_elim
        (λ (there : Leads old floor next b head). inr (there, was))
        (λ (is : b ≡ next). absurd (none-some was.cell (sym (blank (b + i) (omega (arith, is))) ∙ was.stands)))
        (was_or_new leads))
        (posting_before puts (b + i) q held);
    at = next + 0;
    trail = trail_two puts walk (omega arith) roomy (omega arith);
  }
    where
      step : (c level digit to : ℕ) → Leads old floor next c head ⊎ (c ≡ next) → level < 8 → 1 ≤ digit → digit ≤ 15
          → Holds new (pointer_at c level digit) (Jump to) → floor ≤ to → to + 256 ≤ next + 256
          → Leads old floor next to head ⊎ (to ≡ next)
      step c level digit to at l s d jump f t = ⊎_elim
          (λ (x : (pointer_at c level digit ≡ pointer_at home puts.level puts.digit) × (to ≡ next)). inr x.1)
          (λ kept. ⊎_elim
          (λ (there : Leads old floor next c head).
          let p = w.pointers c level digit there l s d (record { found = kept.cell; stands = kept.stands }) in
          let same : p.target ≡ to = jumps p.target to
          (one_record_holds old (pointer_at c level digit) (Jump p.target) (Jump to) p.jump kept) in
          inl (leads_further there level digit to l s d kept f (omega (arith, same, p.inside_to))))
          (λ (is : c ≡ next).
          absurd (none-some kept.cell (sym (blank (pointer_at c level digit) (omega (arith, is))) ∙ kept.stands)))
          at)
          (jump_before puts (pointer_at c level digit) to jump)

      was_or_new : {b : ℕ} → Leads new floor (next + 256) b head → Leads old floor next b head ⊎ (b ≡ next)
      was_or_new leads =
          leads_by (λ (c : ℕ). Leads old floor next c head ⊎ (c ≡ next)) step leads (inl (arrived head refl))

-- whichever way the list grew
pub grown : {old new : Image} {floor next to head cost : ℕ} {p : PostingFields} → IsWellListed old floor next head
    → floor ≤ next → Grows old new floor next to head p cost → IsGrown old new floor next to head p
grown {old} {new} {floor} {next} {to} {head} {p = p} w roomy
    (in_block last place walk below adds holds rises same cost_is) =
    subst (λ (n : ℕ). IsGrown old new floor next n head p) (sym same)
    (in_a_block w last place walk below adds holds rises)
grown {old} {new} {floor} {next} {to} {head} {p = p} w roomy
    (in_tail home target place walk puts led from inside last same cost_is) =
    subst (λ (n : ℕ). IsGrown old new floor next n head p) (sym same)
    (in_the_tail w home target place walk puts led from inside)
grown {old} {new} {floor} {next} {to} {head} {p = p} w roomy
    (in_new_block home walk puts blank last same cost_is) =
    subst (λ (n : ℕ). IsGrown old new floor next n head p) (sym same) (in_a_new_block w home roomy walk puts blank)

module _ {old new : Image} {floor next to head : ℕ} {p : PostingFields} (g : IsGrown old new floor next to head p) where
  pub trails_go_on : ListHasTrails old floor next head → ListHasTrails new floor to head
  trails_go_on trails block place q leads below holds = ⊎_elim
      (λ same. (g.at, subst (λ (r : PostingFields). Trail new floor to g.at r head) (sym same) g.trail))
      (λ (x : Leads old floor next block head × Holds old (block + place) (posting_record q)).
      let t = trails block place q x.0 below x.1 in
      (t.0, trail_on g.extends (trail_wider floor to (omega arith) g.more t.1)))
      (g.each block place q leads below holds)

  pub keys_go_on : HaveKeysBelow old floor next head p.key → (key : ℕ) → p.key < key
      → HaveKeysBelow new floor to head key
  keys_go_on keys key less block place q leads below holds = ⊎_elim
      (λ (same : q ≡ p). let keys_same : q.key ≡ p.key = ap (λ (r : PostingFields). r.key) same in
      omega (arith, keys_same, less))
      (λ (x : Leads old floor next block head × Holds old (block + place) (posting_record q)).
      omega (arith, keys block place q x.0 below x.1, less))
      (g.each block place q leads below holds)
