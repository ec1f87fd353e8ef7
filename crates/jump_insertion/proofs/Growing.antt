-- The shape of a list goes on, by what an insertion adds.
use Rattle.std.proofs.Common.{◌≡◌, ◌≢◌, ◌<◌, ◌≤◌, ◌+◌, ◌-◌, ◌⊎◌, ⊎_elim, inl, inr, ℕ, None, refl, sym, subst, arith, ◌∙◌}
use Rattle.std.proofs.lemmas.Bool.{cases_eq}
use Rattle.std.proofs.lemmas.Option.{none-some}
use Rattle.cell_types.specs.Image.{Image}
use Rattle.volume_meaning.specs.Volumes.{Holds}
use Rattle.volume_meaning.specs.Blocks.{PostingFields, posting_record, InFront, at_the_start, behind, Leads, arrived, onwards}
use Rattle.volume_meaning.proofs.Fronts.{front_on, front_holds}
use Rattle.tamper_rules.specs.Rules.{HoldsInOrder}
use Rattle.tamper_rules.proofs.GivenUp.{leads_further}
use Rattle.ingest_laws.specs.ListShapes.{IsWellListed, AddsOneCell, IsNewBlock}
use Rattle.ingest_laws.proofs.ListShapes.{adds_extends, well_apart, well_wider, well_with_entry, well_with_jump, back}
use Rattle.jump_insertion.specs.Growing.{WalksBlocks, ends, hops, RisesInFront, PutsTwo, Grows, in_block, in_tail, in_new_block}
use Rattle.jump_insertion.proofs.Showing.{leads_on}

-- the next place of a front
pub next_front : (image : Image) (block place : ℕ) (p : PostingFields) → RisesInFront image block place p.key
    → Holds image (block + place) (posting_record p) → InFront image block place p
next_front image block place p rises holds = ⊎_elim
    (λ first. at_the_start place p first holds)
    (λ later.
    let is : place ≡ (place - 1) + 1 = omega (arith, later) in
    let h = rises (place - 1) is in
    behind place (place - 1) p h.0 is h.1 h.2 holds)
    (cases_eq place 0)

-- a walk goes along the list
walks_lead : {image : Image} {from to key last block head : ℕ} → WalksBlocks image from to key last block
    → Leads image from to block head → Leads image from to last head
walks_lead {image} {from} {to} {key} {last} {block} {head} (ends _ same) there =
    subst (λ (b : ℕ). Leads image from to b head) same there
walks_lead (hops block target hop rest) there =
    walks_lead rest (leads_further there hop.level hop.digit target hop.span.levels hop.span.some hop.span.digits
    hop.jump hop.inside_from hop.inside_to)

leads_then : {image : Image} {from to last mid head : ℕ} → Leads image from to last mid → Leads image from to mid head
    → Leads image from to last head
leads_then {image} {from} {to} {last} {mid} {head} (arrived _ same) there =
    subst (λ (b : ℕ). Leads image from to b head) same there
leads_then (onwards mid level digit target l s d jump f t rest) there =
    leads_then rest (leads_further there level digit target l s d jump f t)

-- a block of the list lies before the pool's next cell
pub leads_below : {image : Image} {from to last head : ℕ} → Leads image from to last head → head + 256 ≤ to
    → last + 256 ≤ to
leads_below (arrived head same) below = omega (arith, same, below)
leads_below (onwards head level digit target l s d jump f t rest) below = leads_below rest t

before_holds : (image : Image) (block place key : ℕ) → RisesInFront image block place key
    → (place ≡ 0) ⊎ ((before : ℕ) × (q : PostingFields) × (place ≡ before + 1)
    × Holds image (block + before) (posting_record q) × (q.key < key))
before_holds image block place key rises = ⊎_elim
    (λ first. inl first)
    (λ later.
    let is : place ≡ (place - 1) + 1 = omega (arith, later) in
    let h = rises (place - 1) is in
    inr (place - 1, h.0, is, front_holds h.1, h.2))
    (cases_eq place 0)

-- the posting's own place is in its block's front
placed : {old new : Image} {block place : ℕ} {p : PostingFields} → AddsOneCell (block + place) old new
    → Holds new (block + place) (posting_record p) → RisesInFront old block place p.key → InFront new block place p
placed {old} {new} {block} {place} {p} adds holds rises =
    next_front new block place p (λ before is. let h =
    rises before is in (h.0, front_on (adds_extends adds) h.1, h.2)) holds

widened : {image : Image} {from to last block : ℕ} → Leads image from to last block
    → Leads image from (to + 256) last block
widened (arrived block is) = arrived block is
widened (onwards block level digit target l s d jump f t rest) =
    onwards block level digit target l s d jump f (omega (arith, t)) (widened rest)

module _ {old new : Image} {floor next head : ℕ} {p : PostingFields} (w : IsWellListed old floor next head)
    (roomy : floor ≤ next) where
  -- a blank place of a block
  well_in_block : (last place : ℕ) → WalksBlocks old floor next p.key last head → place < 128 → AddsOneCell (last + place) old new
      → Holds new (last + place) (posting_record p) → RisesInFront old last place p.key → IsWellListed new floor next head
  well_in_block last place walk below adds holds rises =
      well_with_entry w (walks_lead walk (arrived head refl)) below adds holds (before_holds old last place p.key rises)

  -- a blank place of the tail, and a pointer
  well_in_tail : (home target place : ℕ) → WalksBlocks old floor next p.key home head → PutsTwo old new home target place p
      → Leads old floor next target home → floor ≤ target → target + 256 ≤ next → IsWellListed new floor next head
  well_in_tail home target place walk puts led from to_here =
      let e = adds_extends puts.adds in
      let at_home = walks_lead walk (arrived head refl) in
      let there = leads_then led at_home in
      let mid : IsWellListed puts.mid floor next head =
      well_with_entry w there puts.in_places puts.adds puts.posting (before_holds old target place p.key puts.rises) in
      well_with_jump mid (leads_on e at_home) puts.span.levels puts.span.some puts.span.digits puts.adds_jump puts.jump
      (front_on e puts.full) from to_here puts.in_places (placed puts.adds puts.posting puts.rises) puts.span
      (inl (leads_on e there))

  module _ (home : ℕ) (walk : WalksBlocks old floor next p.key home head) (puts : PutsTwo old new home next 0 p)
      (blank : (cell : ℕ) → next ≤ cell → old cell ≡ None) where
    head_below : head + 256 ≤ next
    head_below = omega (arith, w.before, roomy)

    kept : (block i : ℕ) → Leads old floor next block head → i < 256 → puts.mid (block + i) ≡ old (block + i)
    kept block i l less = puts.adds.others (block + i) (λ same. omega (arith, leads_below l head_below, same, less))

    mid_well : IsWellListed puts.mid floor next head
    mid_well = well_apart w (adds_extends puts.adds) kept

    mid_wide : IsWellListed puts.mid floor (next + 256) head
    mid_wide = well_wider (omega arith) mid_well

    at_home : Leads puts.mid floor (next + 256) home head
    at_home = widened (leads_on (adds_extends puts.adds) (walks_lead walk (arrived head refl)))

    behind_first : (i : ℕ) → i ≢ 0 → puts.mid (next + i) ≡ None
    behind_first i later =
        puts.adds.others (next + i) (λ same. later (omega (arith, same))) ∙ blank (next + i) (omega arith)

    is_new_block : IsNewBlock puts.mid floor (next + 256) head next
    is_new_block = record {
      apart = λ b l. inr (leads_below (back (omega arith) mid_well l) head_below);
      entries = λ i less is. ⊎_elim
          (λ (first : i ≡ 0). subst (λ (n : ℕ). HoldsInOrder puts.mid next n) (sym first)
          (record { p = p; holds = puts.posting; rises = inl refl }))
          (λ later. absurd (none-some is.found (sym (behind_first i later) ∙ is.stands)))
          (cases_eq i 0);
      blank = λ i least less. behind_first i (λ (zero_is : i ≡ 0). omega (arith, zero_is, least));
    }

    -- a new block, and a pointer
    well_in_new_block : IsWellListed new floor (next + 256) head
    well_in_new_block =
        well_with_jump mid_wide at_home puts.span.levels puts.span.some puts.span.digits puts.adds_jump puts.jump
        (front_on (adds_extends puts.adds) puts.full) (omega (arith, roomy)) (omega arith) puts.in_places
        (placed puts.adds puts.posting puts.rises) puts.span (inr is_new_block)

-- the shape goes on, whichever way the list grew
pub grows_well : {old new : Image} {floor next to head : ℕ} {p : PostingFields} {cost : ℕ}
    → IsWellListed old floor next head → floor ≤ next → Grows old new floor next to head p cost
    → IsWellListed new floor to head
grows_well {old} {new} {floor} {next} {to} {head} w roomy
    (in_block last place walk below adds holds rises same cost_is) =
    subst (λ (n : ℕ). IsWellListed new floor n head) (sym same)
    (well_in_block w roomy last place walk below adds holds rises)
grows_well {old} {new} {floor} {next} {to} {head} w roomy
    (in_tail home target place walk puts led from below last same cost_is) =
    subst (λ (n : ℕ). IsWellListed new floor n head) (sym same)
    (well_in_tail w roomy home target place walk puts led from below)
grows_well {old} {new} {floor} {next} {to} {head} w roomy (in_new_block home walk puts blank last same cost_is) =
    subst (λ (n : ℕ). IsWellListed new floor n head) (sym same) (well_in_new_block w roomy home walk puts blank)
