-- What an insertion costs: the walk and the tail of its ending are those that a posting's need asks for.
use Rattle.std.proofs.Common.{◌≡◌, ◌<◌, ◌≤◌, ◌+◌, ◌-◌, ◌^◌, ⊎_elim, inr, ℕ, refl, ap, sym, subst, arith, ◌∙◌}
use Rattle.cell_types.specs.Image.{Image}
use Rattle.cell_types.specs.declared.record_cell.RecordCell.TheVariants.{Jump}
use Rattle.volume_meaning.specs.Volumes.{Holds, IsWritten}
use Rattle.volume_meaning.proofs.Holding.{one_record_holds}
use Rattle.volume_meaning.specs.Blocks.{PostingFields, posting_record, InFront, IsFull, InSpan, Hop, Trail, Leads, arrived, pointer_at}
use Rattle.volume_meaning.proofs.Fronts.{front_holds, one_place, rises_or_same}
use Rattle.volume_meaning.proofs.Spans.{span_above}
use Rattle.volume_meaning.proofs.Trails.{one_target}
use Rattle.tamper_rules.proofs.GivenUp.{jumps, leads_further}
use Rattle.tamper_rules.proofs.Writing.{same_or_not}
use Rattle.ingest_laws.specs.ListShapes.{IsWellListed, AddsOneCell}
use Rattle.ingest_laws.specs.Needs as needs
use Rattle.ingest_laws.specs.Needs.{IsBlankEntry, EndsAtPointer, WalksTo, IsTail, AddsBoth, PostingCosts, TrailTo, at_end, through}
use Rattle.ingest_laws.proofs.TrailEnds.{end_front, of_end, one_end, to_end}
use Rattle.jump_block.proofs.Knowing.{front_below}
use Rattle.jump_insertion.specs.Costs.{ListHasTrails, HaveKeysBelow}
use Rattle.jump_insertion.specs.Growing.{LeadsOnBy, WalksBlocks, ends, hops, RisesInFront, PutsTwo, IsTop, IsLastBlock, IsLastFull, Grows, in_block, in_tail, in_new_block}
use Rattle.jump_insertion.proofs.Greatest.{trail_listed, front_end, greatest_from}

-- a walk goes along the list
pub walk_leads : {image : Image} {from to key last block head : ℕ} → WalksBlocks image from to key last block
    → Leads image from to block head → Leads image from to last head
walk_leads {image} {from} {to} {key} {last} {block} {head} (ends _ same) there =
    subst (λ (b : ℕ). Leads image from to b head) same there
walk_leads (hops block target step rest) there =
    walk_leads rest (leads_further there step.level step.digit target step.span.levels step.span.some step.span.digits
    step.jump step.inside_from step.inside_to)

-- and is a walk wherever blocks may lie
walks_to : {image : Image} {from to key last block : ℕ} → WalksBlocks image from to key last block
    → WalksTo image key last block
walks_to (ends block same) = needs.arrived block same
walks_to (hops block target step rest) = needs.onwards block target
    (record {
      greatest = step.greatest;
      full = step.full;
      level = step.level;
      digit = step.digit;
      span = step.span;
      jump = step.jump;
    })
    (walks_to rest)

-- where a walk ends at a full block it begins at one
begins_full : {image : Image} {from to key last block : ℕ} {f : PostingFields} → WalksBlocks image from to key last block
    → IsFull image last f → (g : PostingFields) × IsFull image block g
begins_full {image} {from} {to} {key} {last} {block} {f} (ends _ same) full =
    (f, subst (λ (b : ℕ). IsFull image b f) (sym same) full)
begins_full (hops block target step rest) full = (step.greatest, step.full)

-- places before one of a front are written
front_written : {image : Image} {block j i : ℕ} {q : PostingFields} → InFront image block j q → i ≤ j
    → IsWritten image (block + i)
front_written {image} {block} {j} {i} front le =
    let h = front_holds (front_below front i le).1 in record { found = h.cell; stands = h.stands }

-- a blank place behind a front is its block's first
first_blank : {old new : Image} {block place key : ℕ} → place < 128 → AddsOneCell (block + place) old new
    → RisesInFront old block place key → IsBlankEntry old block place
first_blank {old} {new} {block} {place} {key} below adds rises = record {
  in_places = below;
  blank = adds.was;
  before = λ i less.
      let h = rises (place - 1) (omega arith) in
      front_written h.1 (omega arith);
}

-- A walk for a greater key goes along the trail of the list's greatest: behind each pointer of the walk stands a key of
-- the pointer's span, so the greatest lies in this span too.
module _ {image : Image} {floor next head end place key : ℕ} {q : PostingFields} (top : IsTop image floor next head q)
    (less : q.key < key) where
  step_through : {block target : ℕ} → LeadsOnBy image floor next block key target → Leads image floor next block head
      → TrailTo image floor next end place q block → TrailTo image floor next end place q target
  step_through {block} {target} step leads gone =
      let p = top.listed.pointers block step.level step.digit leads step.span.levels step.span.some step.span.digits
      (record { found = step.jump.cell; stands = step.jump.stands }) in
      let same : p.target ≡ target = jumps p.target target
      (one_record_holds image (pointer_at block step.level step.digit) (Jump p.target) (Jump target) p.jump
      step.jump) in
      let keys : p.greatest.key ≡ step.greatest.key =
      ap (λ (f : PostingFields). f.key) (one_place p.is_full step.full) in
      let within : InSpan step.greatest.key step.level step.digit p.some.key =
      subst (λ (n : ℕ). InSpan n step.level step.digit p.some.key) keys p.in_span in
      let led = leads_further leads step.level step.digit target step.span.levels step.span.some step.span.digits
      step.jump step.inside_from step.inside_to in
      let front : InFront image target p.place p.some =
      subst (λ (n : ℕ). InFront image n p.place p.some) same p.in_front in
      let most : p.some.key ≤ q.key = top.top target p.place p.some led p.in_places front in
      let hop : Hop image floor next block q.key target = record {
        greatest = step.greatest;
        full = step.full;
        level = step.level;
        digit = step.digit;
        span = record {
          levels = step.span.levels;
          some = step.span.some;
          digits = step.span.digits;
          low = omega (arith, within.low, most);
          high = omega (arith, step.span.high, less);
        };
        jump = step.jump;
        inside_from = step.inside_from;
        inside_to = step.inside_to;
        place = p.place;
        some = p.some;
        in_front = front;
        in_places = p.in_places;
        in_span = within;
      } in
      by_step hop gone
    where
      by_step : Hop image floor next block q.key target → TrailTo image floor next end place q block
          → TrailTo image floor next end place q target
      by_step hop (at_end _ is below here) =
          let there = subst (λ (b : ℕ). InFront image b place q) (sym is) here in
          absurd (omega (arith, span_above hop.span, rises_or_same there hop.full (omega (arith, below))))
      by_step hop (through _ other next_hop rest) =
          subst (λ (b : ℕ). TrailTo image floor next end place q b) (one_target next_hop hop) rest

  pub trail_through : {last block : ℕ} → WalksBlocks image floor next key last block → Leads image floor next block head
      → TrailTo image floor next end place q block → TrailTo image floor next end place q last
  trail_through (ends block same) leads trail =
      subst (λ (b : ℕ). TrailTo image floor next end place q b) same trail
  trail_through (hops block target step rest) leads trail =
      trail_through rest
      (leads_further leads step.level step.digit target step.span.levels step.span.some step.span.digits
      step.jump step.inside_from step.inside_to)
      (step_through step leads trail)

-- this posting is the list's greatest, its trail ends in this place of this block, and its key is below this one
record IsGreatest (image : Image) (floor next head end place : ℕ) (q : PostingFields) (key : ℕ) : Type 0 where
  top : IsTop image floor next head q
  trail : TrailTo image floor next end place q head
  less : q.key < key
  most : (cell : ℕ) (r : PostingFields) → Trail image floor next cell r head → r.key ≤ q.key

module _ {old : Image} {floor next head key : ℕ} (w : IsWellListed old floor next head)
    (trails : ListHasTrails old floor next head) (less : HaveKeysBelow old floor next head key)
    (small : key < 2 ^ 32) where
  -- where a walk ends at a full block, the list has one
  the_greatest : {home : ℕ} {f : PostingFields} → WalksBlocks old floor next key home head → IsFull old home f
      → (end : ℕ) × (place : ℕ) × (q : PostingFields) × IsGreatest old floor next head end place q key
  the_greatest walk full =
      let head_full = begins_full walk full in
      let first = front_end w 0 head 127 head_full.0 (arrived head refl) refl head_full.1 in
      let found = greatest_from w key head first.0 key first.1 small (arrived head refl) first.2 (omega arith)
      (λ at r trail.
      let l = trail_listed trail (arrived head refl) in
      let below : r.key < key = less l.block l.place r l.leads l.in_places (front_holds l.in_front) in
      inr (trail, omega (arith, below))) in
      let holds = front_holds found.in_front in
      let end = to_end (trails found.block found.place found.q found.leads found.in_places holds).1 in (
        end.0,
        end.1,
        found.q,
        record {
          top = record {
            listed = w;
            top = λ b i r leads below front.
                let other = trails b i r leads below (front_holds front) in found.most other.0 r other.1;
          };
          trail = end.3;
          less = less found.block found.place found.q found.leads found.in_places holds;
          most = found.most;
        },
      )

  -- its trail goes through the block at which the walk ends, and ends where the trail from there does
  module _ {home : ℕ} {f : PostingFields} (walk : WalksBlocks old floor next key home head) (full : IsFull old home f) where
    abbrev end : ℕ
    end = (the_greatest walk full).0

    abbrev place : ℕ
    place = (the_greatest walk full).1

    abbrev q : PostingFields
    q = (the_greatest walk full).2

    g : IsGreatest old floor next head end place q key
    g = (the_greatest walk full).3

    from_home : TrailTo old floor next end place q home
    from_home = trail_through g.top g.less walk (arrived head refl) g.trail

    tail_at : (tail other : ℕ) → TrailTo old floor next tail other q home → IsTail old floor next head tail
    tail_at tail other trail = record {
      greatest = q;
      place = place;
      trail = subst (λ (b : ℕ). TrailTo old floor next b place q head) (one_end from_home tail other q trail refl).0
          g.trail;
      most = g.most;
    }

    -- the tail where this has room
    last_is_tail : {last : ℕ} → IsLastBlock old floor next home key last → IsTail old floor next head last
    last_is_tail {last} is_last =
        let ended = is_last head (end + place) q g.top (walk_leads walk (arrived head refl)) g.less (of_end from_home) in
        tail_at last ended.place ended.trail

    -- the tail where it is full
    full_tail : IsLastFull old floor next home key
        → (tail : ℕ) × IsTail old floor next head tail × ((i : ℕ) → i < 128 → IsWritten old (tail + i))
    full_tail is_last =
        let ended = is_last head (end + place) q g.top (walk_leads walk (arrived head refl)) g.less (of_end from_home) in (
          ended.last,
          tail_at ended.last 127 ended.trail,
          λ i below. front_written (end_front ended.trail).1 (omega (arith, below)),
        )

-- the walk ends at the pointer that is set
ends_there : {old new : Image} {home target place : ℕ} {p : PostingFields}
    → (puts : PutsTwo old new home target place p)
    → EndsAtPointer old home p.key (pointer_at home puts.level puts.digit)
ends_there {old} {new} {home} {target} {place} puts = record {
  greatest = puts.greatest;
  full = puts.full;
  level = puts.level;
  digit = puts.digit;
  span = puts.span;
  at = refl;
  blank = ⊎_elim
      (λ same. ap old same ∙ puts.adds.was)
      (λ differ. sym (puts.adds.others (pointer_at home puts.level puts.digit) differ) ∙ puts.adds_jump.was)
      (same_or_not (pointer_at home puts.level puts.digit) (target + place));
}

-- the posting and the pointer are added
adds_both : {old new : Image} {home target place at : ℕ} {p : PostingFields}
    → (puts : PutsTwo old new home target place p) → at ≡ target + place
    → AddsBoth old new at (pointer_at home puts.level puts.digit) target p
adds_both {old} {new} {p = p} puts is = record {
  mid = puts.mid;
  adds = subst (λ (c : ℕ). AddsOneCell c old puts.mid) (sym is) puts.adds;
  posting = subst (λ (c : ℕ). Holds puts.mid c (posting_record p)) (sym is) puts.posting;
  adds_jump = puts.adds_jump;
  jump = puts.jump;
}

-- the key of a posting that stands somewhere has 32 bits
small_key : {image : Image} {at : ℕ} {p : PostingFields} → Holds image at (posting_record p) → p.key < 2 ^ 32
small_key h = h.is.fits.0

-- whichever way the list grows
pub posting_costs : {old new : Image} {floor next to head cost : ℕ} {p : PostingFields}
    → IsWellListed old floor next head → ListHasTrails old floor next head → HaveKeysBelow old floor next head p.key
    → Grows old new floor next to head p cost → PostingCosts floor head p old new next to cost
posting_costs w trails less (in_block last place walk below adds holds rises to_is cost_is) =
    needs.in_block last place (walks_to walk) (first_blank below adds rises) adds holds to_is cost_is
posting_costs w trails less (in_tail home target place walk puts led from inside is_last to_is cost_is) =
    needs.in_tail home (pointer_at home puts.level puts.digit) target place (walks_to walk) (ends_there puts)
    (last_is_tail w trails less (small_key puts.posting) walk puts.full is_last)
    (first_blank puts.in_places puts.adds puts.rises)
    (adds_both puts refl) to_is cost_is
posting_costs w trails less (in_new_block home walk puts blank is_last to_is cost_is) =
    let tail = full_tail w trails less (small_key puts.posting) walk puts.full is_last in
    needs.in_new_block home (pointer_at home puts.level puts.digit) tail.0 (walks_to walk) (ends_there puts)
    tail.1 tail.2 (adds_both puts (omega arith)) to_is cost_is
