-- Rule 10 by blocks that are listed for two of their lists.
use Rattle.std.proofs.Common.{◌≡◌, ◌<◌, ◌≤◌, ◌+◌, ◌*◌, ⊎_elim, ℕ, true, sym, subst, arith}
use Rattle.std.specs.Prelude.{IsTrue}
use Rattle.cell_types.specs.Image.{Image}
use Rattle.cell_types.specs.Layout.{Layout}
use Rattle.cell_types.specs.declared.record_cell.RecordCell.TheVariants.{Jump}
use Rattle.volume_meaning.specs.Blocks.{pointer_at}
use Rattle.volume_meaning.specs.Nodes.{AreApart, IsBlockOf}
use Rattle.volume_meaning.specs.Volumes.{Holds}
use Rattle.tamper_rules.specs.Rules.{LeadsWell}
use Rattle.list_audit.specs.Blocks.{AreBlocksForTwo, IsAmongBlocks, IsShared, PointsTo}
use Rattle.list_audit.specs.declared.found.ListBlocks.{ListBlocks}
use Rattle.list_audit.proofs.Closing.{leads_on}
use Rattle.list_audit.proofs.EachBlock.{DecideAll, asked_of}
use Rattle.tree_audit.specs.Leading.{PointerAsks}

-- a block meets itself
never_apart : (target : ℕ) → AreApart target 256 target 256 → ⊥
never_apart target apart = ⊎_elim
    (λ (behind : target + 256 ≤ target). omega (arith, behind))
    (λ (before : target + 256 ≤ target). omega (arith, before))
    apart

module _ {g : Layout} {image : Image} {one other block : ℕ} (first : IsBlockOf g image one block) (second : IsBlockOf g image other block)
    (two : one ≡ other → ⊥) where
  -- a pointer of a block of two lists does not lead well for both: its target is a block of both, too
  pub leads_astray : {level digit : ℕ} → level < 8 → 1 ≤ digit → digit ≤ 15 → LeadsWell g image one block level digit
      → LeadsWell g image other block level digit → ⊥
  leads_astray {level} {digit} levels some digits w v =
      let at : block + (127 + 15 * level + digit) ≡ pointer_at block level digit = omega arith in
      let points : PointsTo g image (block + (127 + 15 * level + digit)) w.target = record {
        held = subst (λ (c : ℕ). Holds image c (Jump w.target)) (sym at) w.jump;
        from = w.from;
        to = w.to;
      } in
      let next : IsBlockOf g image other w.target = leads_on second (omega (arith, some)) (omega (arith, levels, digits)) points in
      ⊎_elim
      (λ same. two (sym same.1))
      (never_apart w.target)
      (w.blocks other w.target next)

  -- so where both are content with a cell, no pointer of the block stands there
  pub both_content : (l cell : ℕ) → PointerAsks g image one block cell → PointerAsks g image other block cell → PointerAsks g image l block cell
  both_content l cell asked asks level digit levels some digits at = absurd (leads_astray levels some digits
      (asked level digit levels some digits at) (asks level digit levels some digits at))

-- so what blocks that are listed for two ask of a cell decides what all ask of it
pub pointers_decided : {g : Layout} {image : Image} {found : ListBlocks} → AreBlocksForTwo g image found
    → DecideAll g image found.blocks.items (PointerAsks g image)
pointers_decided {g} {image} {found} are cell written asked l block is = ⊎_elim
    (λ (among : IsAmongBlocks found.blocks.items l block). asks among)
    (λ (shared : IsTrue true × IsShared found.blocks.items block). let s = shared.1 in
    both_content (of_list s.first) (of_list s.second) s.two l cell (asks s.first) (asks s.second))
    (are.taken.all l block is)
  where
    asks : {m : ℕ} → IsAmongBlocks found.blocks.items m block → PointerAsks g image m block cell
    asks among = asked_of (PointerAsks g image) cell (asked cell (omega arith) written) among

    of_list : {m : ℕ} → IsAmongBlocks found.blocks.items m block → IsBlockOf g image m block
    of_list {m} a = subst (λ (n : ℕ). IsBlockOf g image n block) a.list
        (subst (IsBlockOf g image a.one.list) a.is (are.taken.each a.place a.one a.there))
