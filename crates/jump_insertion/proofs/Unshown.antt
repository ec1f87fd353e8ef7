-- A list that is well shaped as it stands below shows no evidence.
use Rattle.std.proofs.Common.{◌≡◌, ◌≢◌, ◌<◌, ◌≤◌, ◌+◌, ⊎_elim, ℕ, List, Some, None, ap, sym, subst, arith, ◌∙◌}
use Rattle.std.proofs.lemmas.Option.{none-some}
use Rattle.cell_types.specs.Records.{IsRecordCell}
use Rattle.cell_types.specs.declared.record_cell.RecordCell.{RecordCell}
use Rattle.cell_types.specs.declared.record_cell.RecordCell.TheVariants.{Jump}
use Rattle.cell_types.specs.declared.refusal.Evidence.{Evidence}
use Rattle.volume_meaning.specs.Volumes.{Holds}
use Rattle.volume_meaning.proofs.Holding.{one_record_holds}
use Rattle.volume_meaning.specs.Blocks.{PostingFields, posting_record, InFront, at_the_start, behind, InSpan, Leads, pointer_at}
use Rattle.volume_meaning.proofs.Fronts.{front_holds, one_posting, one_place}
use Rattle.tamper_rules.specs.Rules.{HoldsInOrder}
use Rattle.tamper_rules.proofs.GivenUp.{leads_further}
use Rattle.ingest_laws.specs.ListShapes.{PointsWell}
use Rattle.worm_device.specs.Views.{ViewState, IsView}
use Rattle.jump_block.specs.Fronts.{IsBadEntry, no_posting, does_not_rise}
use Rattle.jump_block.specs.Pointing.{HasPointer}
use Rattle.jump_block.proofs.OneBlock.{jump_target}
use Rattle.jump_insertion.specs.Evidence.{StandsBelow, IsBlockMet, IsBadHop, no_jump, outside, no_key, meets, meets_block, ShowsBelow, bad_entry, bad_pointer, late}
use Rattle.jump_insertion.specs.Growing.{ListBelow}
use Rattle.jump_insertion.specs.Readiness.{IsBlockReached, is_new, stands_below}
use Rattle.jump_insertion.proofs.Growing.{leads_below}
use Rattle.jump_insertion.proofs.Showing.{some_or_none, some_same}

module _ (s : ViewState) (view : IsView s) (head floor key : ℕ) (w : ListBelow s floor head key) where
  not_planned : (c : ℕ) (v : List ℕ) → c < s.fresh → s.lower c ≡ Some v → s.planned c ≡ None
  not_planned c v old is = ⊎_elim
      (λ none. none)
      (λ (some : (u : List ℕ) × (s.planned c ≡ Some u)). absurd (none-some v (sym (w.untouched c some.0 some.1 old) ∙ is)))
      (some_or_none (s.planned c))

  holds_up : {c : ℕ} {r : RecordCell} → c < s.fresh → Holds s.lower c r → Holds s.image c r
  holds_up {c} {r} old h = record {
    cell = h.cell;
    stands =
        view.below c (not_planned c h.cell old h.stands) old ∙ h.stands;
    is = h.is;
  }

  front_up : {block place : ℕ} {p : PostingFields} → block + place < s.fresh → InFront s.lower block place p
      → InFront s.image block place p
  front_up old (at_the_start place p is holds) = at_the_start place p is (holds_up old holds)
  front_up old (behind place before p q is rest less holds) =
      behind place before p q is (front_up (omega (arith, old, is)) rest) less (holds_up old holds)

  inside : {block : ℕ} → Leads s.lower floor s.fresh block head → block + 256 ≤ s.fresh
  inside led = leads_below led (omega (arith, w.listed.before, w.roomy))

  below : (e : Evidence) → StandsBelow s e → s.lower e.cell ≡ Some e.found
  below e stands = sym (view.below e.cell stands.free stands.before) ∙ stands.stands

  not_bad_entry : (block place : ℕ) (e : Evidence) → Leads s.lower floor s.fresh block head → StandsBelow s e
      → e.cell ≡ block + place → place < 128
      → IsBadEntry s.image block place e.found → ⊥
  not_bad_entry block place e led stands cell less bad =
      let there : s.lower (block + place) ≡ Some e.found = ap s.lower (sym cell) ∙ below e stands in
      let o = w.listed.entries block place led less (record { found = e.found; stands = there }) in
      here (inside led) there o bad
    where
      here : block + 256 ≤ s.fresh → s.lower (block + place) ≡ Some e.found → HoldsInOrder s.lower block place
          → IsBadEntry s.image block place e.found → ⊥
      here fits there o (no_posting bad) =
          bad.none o.p (subst (λ c. IsRecordCell (posting_record o.p) (block + place) c)
          (some_same o.holds.cell e.found (sym o.holds.stands ∙ there)) o.holds.is)
      here fits there o (does_not_rise before k q is has stands' holds le) = ⊎_elim
          (λ (first : place ≡ 0). omega (arith, first, is))
          (λ (x : (b : ℕ) × (r : PostingFields) × (place ≡ b + 1) × Holds s.lower (block + b) (posting_record r)
          × (r.key < o.p.key)).
          let same : x.0 ≡ before = omega (arith, x.2, is) in
          let up : Holds s.image (block + before) (posting_record x.1) =
          holds_up (omega (arith, fits, less, is)) (subst
          (λ (n : ℕ). Holds s.lower (block + n) (posting_record x.1)) same x.3) in
          let a : has.p.key ≡ x.1.key = ap (λ (f : PostingFields). f.key)
          (one_posting s.image (block + before) has.p x.1 (front_holds has.in_front) up) in
          let b : q.key ≡ o.p.key = ap (λ (f : PostingFields). f.key)
          (one_posting s.image (block + place) q o.p holds (holds_up (omega (arith, fits, less)) o.holds)) in
          omega (arith, a, b, x.4, has.same, le))
          o.rises

  module _ (block level digit : ℕ) (led : Leads s.lower floor s.fresh block head) (levels : level < 8)
      (some : 1 ≤ digit) (digits : digit ≤ 15) (p : PointsWell s.lower floor s.fresh block level digit) where
    in_block : pointer_at block level digit < s.fresh
    in_block = let h = inside led in omega (arith, h, levels, digits)

    one_way : (target : ℕ) → HasPointer s.image block level digit target → p.target ≡ target
    one_way target there = jump_target p.target target
        (one_record_holds s.image (pointer_at block level digit) (Jump p.target) (Jump target)
        (holds_up in_block p.jump) there)

    at_target : (target : ℕ) → p.target ≡ target → Leads s.lower floor s.fresh target head
    at_target target same = subst (λ (n : ℕ). Leads s.lower floor s.fresh n head) same
        (leads_further led level digit p.target levels some digits p.jump p.inside_from p.inside_to)

    not_met : (target : ℕ) → Leads s.lower floor s.fresh target head → IsBlockMet s head target → ⊥
    not_met target there met =
        let own = w.own_blocks target there in
        ⊎_elim
        (λ (x : (target ≤ met.cell) × (met.cell < target + 256)).
        let h = own.inside met.cell met.owner met.is.planned x.0 x.1 in met.is.other h.0 h.1)
        (λ (x : (met.owner.head ≡ head) × (met.owner.base < target + 256) × (target < met.owner.base + 256)). ⊎_elim
        (λ (same : met.owner.base ≡ target). met.is.other x.0 same)
        (λ apart. ⊎_elim
        (λ (a : met.owner.base + 256 ≤ target). omega (arith, x.2, a))
        (λ (b : target + 256 ≤ met.owner.base). omega (arith, x.1, b)) apart)
        (own.apart met.cell met.owner met.is.planned x.0))
        met.is.meets

    not_meeting : (target home : ℕ) → Leads s.lower floor s.fresh target head → target + 256 ≤ s.fresh
        → IsBlockReached s head floor home → home ≢ target → target < home + 256 → home < target + 256 → ⊥
    not_meeting target home there to (is_new past) differ a b = omega (arith, past, to, b)
    not_meeting target home there to (stands_below fits led') differ a b = ⊎_elim
        (λ (same : target ≡ home). differ (sym same))
        (λ apart. ⊎_elim (λ (x : target + 256 ≤ home). omega (arith, x, b))
        (λ (y : home + 256 ≤ target). omega (arith, y, a)) apart)
        (w.listed.apart target home there led')

    not_bad_hop : (found : List ℕ) → s.lower (pointer_at block level digit) ≡ Some found
        → IsBadHop s head floor block level digit found → ⊥
    not_bad_hop found there (no_jump bad) =
        bad.none p.target (subst (λ c. IsRecordCell (Jump p.target) (pointer_at block level digit) c)
        (some_same p.jump.cell found (sym p.jump.stands ∙ there)) p.jump.is)
    not_bad_hop found there (outside target led' out) =
        let same = one_way target led' in
        ⊎_elim (λ (a : target < floor). omega (arith, a, same, p.inside_from))
        (λ (b : s.fresh < target + 256). omega (arith, b, same, p.inside_to)) out
    not_bad_hop found there (no_key target l led' full to from none) =
        let same = one_way target led' in
        let h = inside led in
        let up = front_up {place = 127} (omega (arith, h)) p.is_full in
        let keys : p.greatest.key ≡ l = ap (λ (f : PostingFields). f.key) (one_place up full.in_front) ∙ full.same in
        let F : ℕ → Type 0 = λ n. InFront s.image n p.place p.some in
        let S : ℕ → Type 0 = λ n. InSpan n level digit p.some.key in
        none p.place p.some p.in_places (subst F same (front_up (omega (arith, p.inside_to, p.in_places)) p.in_front))
        (subst S keys p.in_span)
    not_bad_hop found there (meets target led' from to met) =
        not_met target (at_target target (one_way target led')) met
    not_bad_hop found there (meets_block target home led' from to reached differ a b) =
        not_meeting target home (at_target target (one_way target led')) to reached differ a b

  pub not_shown : (e : Evidence) → ShowsBelow s head floor key e → ⊥
  not_shown e (bad_entry block place led stands rule cell less bad) =
      not_bad_entry block place e led stands cell less bad
  not_shown e (bad_pointer block level digit led stands rule place cell bad) =
      let there : s.lower (pointer_at block level digit) ≡ Some e.found = ap s.lower (sym cell) ∙ below e stands in
      not_bad_hop block level digit led place.levels place.some place.digits
      (w.listed.pointers block level digit led place.levels place.some place.digits
      (record { found = e.found; stands = there })) e.found there bad
  not_shown e (late block place p led stands rule cell less holds ge) =
      let down : Holds s.lower e.cell (posting_record p) =
      record {
        cell = holds.cell;
        stands = sym (view.below e.cell stands.free stands.before) ∙ holds.stands;
        is =
            holds.is;
      } in
      omega (
        arith,
        w.below block place p led less (subst (λ (c : ℕ). Holds s.lower c (posting_record p)) cell down),
        ge,
      )
