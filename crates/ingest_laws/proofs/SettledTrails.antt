-- In a settled image each posting of a list has a trail: it is one of its slot's document, whose done cell asks for it.
use Rattle.std.proofs.Common.{◌≡◌, ◌<◌, ◌≤◌, ◌+◌, ℕ, Option, refl, subst, arith}
use Rattle.cell_types.specs.Image.{Image}
use Rattle.cell_types.specs.Layout.{Layout, done_at, list_at, pool_at}
use Rattle.cell_types.specs.declared.record_cell.RecordCell.TheVariants.{Jump}
use Rattle.volume_meaning.specs.Slots.{IsEdge}
use Rattle.volume_meaning.specs.Volumes.{Holds}
use Rattle.volume_meaning.proofs.Holding.{one_record_holds}
use Rattle.volume_meaning.specs.Blocks.{PostingFields, posting_record, Trail, here, on, arrived, pointer_at}
use Rattle.volume_meaning.proofs.Stamps.{one}
use Rattle.volume_meaning.proofs.Trails.{hop_within}
use Rattle.volume_meaning.specs.Nodes.{IsBlockOf}
use Rattle.volume_meaning.specs.Postings.{IsPostingOf}
use Rattle.tamper_rules.specs.Rules
use Rattle.tamper_rules.specs.Rules.{IsTruePosting, LeadsWell, PointerRule, PostingRule, TrailRule}
use Rattle.tamper_rules.specs.Settling.{IsSettled}
use Rattle.tamper_rules.proofs.GivenUp.{jumps, leads_further}

module _ {g : Layout} {image : Image} {at : ℕ} (s : IsSettled g image) (e : IsEdge g image image at) where
  -- what a pointer of a list leads to lies before the edge
  before_edge : {l block level digit target : ℕ} → IsBlockOf g image l block → level < 8 → 1 ≤ digit → digit ≤ 15
      → Holds image (pointer_at block level digit) (Jump target) → target + 256 ≤ at
  before_edge {l} {block} {level} {digit} {target} b ls d1 d2 jump =
      let r : PointerRule g image (pointer_at block level digit) =
      s.met Rules.Pointers (pointer_at block level digit) (record { found = jump.cell; stands = jump.stands }) in
      let t : LeadsWell g image l block level digit = r l block level digit b ls d1 d2 refl in
      let same : target ≡ t.target =
      jumps target t.target (one_record_holds image (pointer_at block level digit) (Jump target)
      (Jump t.target) jump t.jump) in
      let less = t.edge at e in
      omega arith

  -- so a trail through the pool is one through its part before the edge
  narrow : {l cell : ℕ} {p : PostingFields} {block : ℕ} → IsBlockOf g image l block
      → Trail image (pool_at g) g.cells cell p block
      → Trail image (pool_at g) at cell p block
  narrow b (here block place is below front) = here block place is below front
  narrow {l} b (on block target h rest) =
      let level : h.level < 8 = h.span.levels in
      let to = before_edge b level h.span.some h.span.digits h.jump in
      let next : IsBlockOf g image l target = record {
        list = b.list;
        leads = leads_further b.leads h.level h.digit target level h.span.some h.span.digits h.jump
            h.inside_from h.inside_to;
      } in
      on block target (hop_within (pool_at g) at h.inside_from to h) (narrow next rest)

  pub settled_trails : {l block place : ℕ} {p : PostingFields} → IsBlockOf g image l block → place < 128
      → Holds image (block + place) (posting_record p) → (cell : ℕ) × Trail image (pool_at g) at cell p (list_at g l)
  settled_trails {l} {block} {place} {p} b below h =
      let r : PostingRule g image (block + place) =
      s.met Rules.Postings (block + place) (record { found = h.cell; stands = h.stands }) in
      let t : IsTruePosting g image l p = r l block place p b below refl h in
      let n = t.slot in
      let done = t.stands.done.done in
      let k : TrailRule g image n t.body =
      s.met Rules.Trails (done_at n) (record { found = done.cell; stands = done.stands }) n t.id t.body refl t.stands in
      let same : t.stamp ≡ k.stamp = one g image n t.stamp k.stamp t.is_stamp k.is_stamp in
      let trail = k.trails l p b.list (subst (λ (s : Option ℕ). IsPostingOf g s t.body n l p) same t.is) in
      (trail.0, narrow (record { list = b.list; leads = arrived (list_at g l) refl }) trail.1)
