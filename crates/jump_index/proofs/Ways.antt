-- Where kept hops lead: the way from a list's first block, and what is found at its end.
use Rattle.std.proofs.Common.{◌≡◌, ◌<◌, ◌≤◌, ◌+◌, ◌^◌, ◌⊎◌, ⊎_elim, inl, inr, ℕ, zero, suc, List, [], ◌∷◌, Some, Ok, refl, sym, subst, arith, min}
use Rattle.std.specs.Prelude.{IsTrue, slice_get}
use Rattle.std.proofs.Math.ListN.{set}
use Rattle.std.proofs.lemmas.Bool.{cases_lt}
use Rattle.std.proofs.lemmas.Option.{same_Some}
use Rattle.cell_types.specs.Image.{Image, Extends}
use Rattle.cell_types.specs.declared.record_cell.RecordCell.TheVariants.{Jump}
use Rattle.volume_meaning.proofs.Extending.{holds_on}
use Rattle.volume_meaning.proofs.Holding.{one_record_holds}
use Rattle.volume_meaning.specs.Blocks.{PostingFields, InSpan, Hop, Leads, Trail, arrived, on, onwards, pointer_at}
use Rattle.volume_meaning.proofs.Spans.{span_above}
use Rattle.worm_device.specs.Views.{ViewState, Viewed}
use Rattle.jump_block.specs.Entries.{cell_of, posting_of}
use Rattle.jump_block.specs.Fronts.{FirstEnds}
use Rattle.jump_block.specs.Keeping.{AreFrontsKept}
use Rattle.jump_block.specs.KeptRows.{IsRowKept}
use Rattle.jump_block.specs.Pointing.{HasFull, HasKeyIn, HasPointer}
use Rattle.jump_block.specs.Spans.{IsSpan}
use Rattle.jump_block.specs.declared.held_entry.Entry.{Entry}
use Rattle.jump_block.specs.declared.kept_fronts.KeptFronts.{KeptFronts}
use Rattle.jump_block.specs.declared.kept_row.KeptRow.{KeptRow}
use Rattle.jump_block.specs.declared.known_front.Front.TheVariants.{At}
use Rattle.jump_block.specs.declared.spans.Span.{Span}
use Rattle.jump_block.proofs.Knowing.{key_on, kept_on}
use Rattle.jump_block.proofs.OneBlock.{in_span, jump_target}
use Rattle.jump_index.specs.Keeping.{AreHopsKept, GoesOn, IsHopKept, IsSearchKept, IsWay, Reaches}
use Rattle.jump_index.specs.Looking.{SearchEnds}
use Rattle.jump_index.specs.Searches.{FindEntryEnds, IsFirstEntry}
use Rattle.jump_index.specs.declared.bounds.Bounds.{Bounds}
use Rattle.jump_index.specs.declared.kept_hops.KeptHop.{KeptHop}
use Rattle.jump_index.specs.declared.kept_hops.KeptHops.{KeptHops}
use Rattle.jump_index.specs.declared.kept_hops.Reached.{Reached}
use Rattle.jump_index.specs.declared.kept_search.KeptSearch.{KeptSearch}
use Rattle.jump_index.specs.declared.looked.Looked.TheVariants.{Found}
use Rattle.jump_index.proofs.Descending.{full_in}
use Rattle.jump_index.proofs.LookingHere.{found_here}
use Rattle.jump_index.proofs.Passing.{goes_through}

-- what is kept stands over all that is written later
pub hop_on : {old new : Image} {hop : KeptHop} → Extends old new → IsHopKept old hop → IsHopKept new hop
hop_on e h = record { span = h.span; full = key_on e h.full; jump = holds_on e h.jump }

pub hops_on : {old new : Image} {hops : KeptHops} → Extends old new → AreHopsKept old hops → AreHopsKept new hops
hops_on e k = record { each = λ i hop is. hop_on e (k.each i hop is) }

pub row_on : {old new : Image} {row : KeptRow} → Extends old new → IsRowKept old row → IsRowKept new row
row_on e k = record { each = λ i value is. e.keeps _ _ (k.each i value is) }

pub search_on : {old new : Image} {kept : KeptSearch} → Extends old new → IsSearchKept old kept → IsSearchKept new kept
search_on e k = record { fronts = kept_on e k.fronts; row = row_on e k.row; hops = hops_on e k.hops }

-- fronts that are known now take the place of those that were kept
pub with_fronts : {old new : Image} {kept : KeptSearch} {fronts : KeptFronts} → Extends old new → IsSearchKept old kept
    → AreFrontsKept new fronts
    → IsSearchKept new (record { fronts = fronts; hops = kept.hops; row = kept.row })
with_fronts e k known = record { fronts = known; row = row_on e k.row; hops = hops_on e k.hops }

-- so does a row, where one of the fronts has changed
pub with_front : {old new : Image} {kept : KeptSearch} {fronts : KeptFronts} {row : KeptRow} → Extends old new
    → IsSearchKept old kept → (AreFrontsKept new kept.fronts → AreFrontsKept new fronts) → IsRowKept new row
    → IsSearchKept new (record { fronts = fronts; hops = kept.hops; row = row })
with_front e k changes known = record { fronts = changes (kept_on e k.fronts); row = known; hops = hops_on e k.hops }

-- and hops those that were
pub with_hops : {image : Image} {kept : KeptSearch} {hops : KeptHops} → IsSearchKept image kept → AreHopsKept image hops
    → IsSearchKept image (record { fronts = kept.fronts; hops = hops; row = kept.row })
with_hops k stand = record { fronts = k.fronts; row = k.row; hops = stand }

-- what a place holds after one was set
set_held : {X : Type 0} (xs : List X) (k : ℕ) (v : X) (i : ℕ) (y : X) → slice_get (set xs k v) i ≡ Some y
    → (y ≡ v) ⊎ (slice_get xs i ≡ Some y)
set_held [] k v i y there = inr there
set_held (x ∷ xs) zero v zero y there = inl (sym (same_Some v y there))
set_held (x ∷ xs) zero v (suc i) y there = inr there
set_held (x ∷ xs) (suc k) v zero y there = inr there
set_held (x ∷ xs) (suc k) v (suc i) y there = set_held xs k v i y there

-- a hop that stands is kept with the others
pub keep_hop : (hops : KeptHops) (level : ℕ) (hop : KeptHop) (image : Image) → AreHopsKept image hops
    → IsHopKept image hop → AreHopsKept image (record { held = set hops.held level (Some hop) })
keep_hop hops level hop image kept stands = record {
  each = λ i other there. ⊎_elim
      (λ same. subst (λ (h : KeptHop). IsHopKept image h) (sym (same_Some other hop same)) stands)
      (λ before. kept.each i other before)
      (set_held hops.held level (Some hop) i (Some other) there);
}

-- what a block leads to, those lead to that lead to it
pub leads_then : {image : Image} {from to mid last block : ℕ} → Leads image from to mid block
    → Leads image from to last mid → Leads image from to last block
leads_then {image} {from} {to} {mid} {last} (arrived block is) rest =
    subst (λ (b : ℕ). Leads image from to last b) (sym is) rest
leads_then (onwards block level digit target levels some digits jump inside_from inside_to first) rest =
    onwards block level digit target levels some digits jump inside_from inside_to (leads_then first rest)

-- a trail behind a pointer is one from the pointer's block, if the target has a key of the span
trail_back : (image : Image) (from to at : ℕ) (p : PostingFields) (block target l : ℕ) (s : Span) → IsSpan l s
    → HasFull image block l → HasPointer image block s.level s.digit target → from ≤ target → target + 256 ≤ to
    → s.low ≤ p.key → p.key < s.high → HasKeyIn image target s.low s.high → Trail image from to at p target
    → Trail image from to at p block
trail_back image from to at p block target l s is full jump inside_from inside_to low high has rest =
    let within : InSpan full.p.key s.level s.digit p.key = subst (λ (n : ℕ). InSpan n s.level s.digit p.key)
    (sym full.same) (in_span is low high) in
    let some : InSpan full.p.key s.level s.digit has.p.key = subst
    (λ (n : ℕ). InSpan n s.level s.digit has.p.key) (sym full.same) (in_span is has.from has.below) in
    let hop : Hop image from to block p.key target = record {
      greatest = full.p;
      full = full.in_front;
      level = s.level;
      digit = s.digit;
      span = within;
      jump = jump;
      inside_from = inside_from;
      inside_to = inside_to;
      place = has.place;
      some = has.p;
      in_front = has.in_front;
      in_places = has.in_places;
      in_span = some;
    } in on block target hop rest

-- the first block itself is reached by no hop
pub way_starts : (bounds : Bounds) (image : Image) (head x : ℕ) → IsWay bounds image head x head 0 (2 ^ 32)
way_starts bounds image head x = record {
  leads = arrived head refl;
  down = λ cells at p trail asked below. trail;
  up = λ cells at p edge has asked below trail. trail;
}

-- one hop more
pub way_on : (bounds : Bounds) (image : Image) (head x low bound next : ℕ) (hop : KeptHop)
    → IsWay bounds image head x hop.block low bound → x < bound → IsHopKept image hop → low ≤ hop.greatest
    → hop.span.low ≤ x → x < hop.span.high → bounds.pool ≤ hop.target → hop.target + 256 ≤ bounds.edge
    → next ≤ bound → next ≤ hop.span.high → IsWay bounds image head x hop.target hop.span.low next
way_on bounds image head x low bound next hop way below kept within from high inside_from inside_to less narrow =
    record {
      leads = leads_then way.leads (onwards hop.block hop.span.level hop.span.digit hop.target kept.span.levels
          kept.span.some kept.span.digits kept.jump inside_from inside_to (arrived hop.target refl));
      down = λ cells at p trail asked before.
          let through = goes_through image bounds.pool cells at hop.greatest hop.block p hop.span kept.full kept.span
          (omega arith) (omega arith) (way.down cells at p trail asked (omega arith)) in
          let one : through.target ≡ hop.target = jump_target through.target hop.target
          (one_record_holds image (pointer_at hop.block hop.span.level hop.span.digit) (Jump through.target)
          (Jump hop.target) through.jump kept.jump) in
          subst (λ (b : ℕ). Trail image bounds.pool cells at p b) one through.rest;
      up = λ cells at p edge has asked before trail.
          let above : hop.greatest < x = span_above (in_span {k = x} kept.span from high) in
          let wide : HasKeyIn image hop.target hop.span.low hop.span.high = record {
            place = has.place;
            p = has.p;
            in_places = has.in_places;
            in_front = has.in_front;
            from = has.from;
            below = omega (arith, has.below);
          } in
          let more : hop.greatest < p.key = span_above (in_span {k = p.key} kept.span asked (omega arith)) in
          way.up cells at p edge (full_in low bound kept.full within (omega arith)) (omega arith) (omega arith)
          (trail_back image bounds.pool cells at p hop.block hop.target hop.greatest hop.span kept.span kept.full
          kept.jump inside_from (omega arith) asked (omega arith) wide trail);
    }

-- no hop is taken yet
pub reach_starts : (bounds : Bounds) (head x : ℕ) (hops : KeptHops) → x < 2 ^ 32
    → Reaches bounds head x hops (record { block = head; low = 0; bound = 2 ^ 32; level = 8 })
reach_starts bounds head x hops less = record {
  levels = omega arith;
  from = omega arith;
  below = less;
  inside = λ cells head edge. head;
  way = λ image kept. way_starts bounds image head x;
}

-- a hop of those that are kept goes on
pub reach_on : (bounds : Bounds) (head x i level next : ℕ) (hops : KeptHops) (reached : Reached) (hop : KeptHop)
    → Reaches bounds head x hops reached → GoesOn bounds x reached hop → slice_get hops.held i ≡ Some (Some hop)
    → level ≤ 8 → next ≡ min hop.span.high reached.bound
    → Reaches bounds head x hops (record { block = hop.target; low = hop.span.low; bound = next; level = level })
reach_on bounds head x i level next hops reached hop so_far goes held less is = record {
  levels = less;
  from = goes.low;
  below = omega (arith, so_far.below, goes.high, is);
  inside = λ cells head edge. omega (arith, goes.to);
  way = λ image kept.
      way_on bounds image head x reached.low reached.bound next hop
      (subst (λ (b : ℕ). IsWay bounds image head x b reached.low reached.bound) (sym goes.block)
      (so_far.way image kept)) so_far.below (kept.each i hop held) goes.within goes.low goes.high goes.from goes.to
      (omega (arith, is)) (omega (arith, is));
}

-- the first entry at or past x of the block at the end of a way is that of the list
pub found_at_end : (bounds : Bounds) (head x block low bound : ℕ) (old new : ViewState) (e : Entry)
    → block + 256 ≤ old.cells → bounds.edge ≤ old.cells → Viewed old new
    → (IsTrue old.base.tells → IsWay bounds old.image head x block low bound)
    → (IsTrue old.base.tells → IsWay bounds new.image head x block low bound) → low ≤ x → x < bound
    → FirstEnds x block old new (Ok (At e)) → e.key < bound → FindEntryEnds bounds head x old new (Ok (Some e))
found_at_end bounds head x block low bound old new e inside edge viewed before after from asked_below ends less = (
  found.0,
  found.2,
  λ tells.
      let here = found.3 tells in (
        record {
          leads = leads_then (after tells).leads here.0.leads;
          place = here.0.place;
          in_front = here.0.in_front;
        },
        first tells,
        λ exact. (after tells).up new.cells (cell_of e) (posting_of e) (omega (arith, edge, viewed.cells)) here.3
            (omega (arith, found.0)) less (here.2 exact),
      ),
) where
  found : SearchEnds bounds block x low bound old new (Ok (Found e))
  found = found_here block x low bound old new from inside viewed e ends less bounds

  first : IsTrue old.base.tells → IsFirstEntry bounds head x old e
  first tells at p trail asked =
      ⊎_elim
      (λ below. (found.3 tells).1 at p ((before tells).down old.cells at p trail asked below) asked)
      (λ past. (omega (arith, less), λ exact. absurd (omega arith)))
      (cases_lt p.key bound)
