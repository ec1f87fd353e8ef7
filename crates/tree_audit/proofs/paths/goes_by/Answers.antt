-- The root; the path goes by the bucket, ends, goes on, and was followed to its last level.
use Rattle.std.proofs.Common.{◌≡◌, ◌+◌, ℕ, sym, ◌∙◌, subst, arith}
use Rattle.volume_meaning.specs.HashPaths.{nibble}
use Rattle.log_audit.specs.Kept.{image_of_kept}
use Rattle.log_audit.proofs.Deciding.{no}
use Rattle.tree_audit.specs.ChildCells.{HasChildInPool}
use Rattle.tree_audit.proofs.Pathing.{begins, one_step, ends_here}
use Rattle.tree_audit.proofs.paths.goes_by.Goals.{else-at-node-via-then-at-node+else-nibble-x, else-at-node-via-else-at-node}
use Rattle.tree_audit.proofs.paths.goes_by.Goals as goal

pub loop-level-init : goal.loop-level-init
loop-level-init c = begins c.args.digest.now c.args.node c.args.x c.root_at-at.result c.root_at-at.ensures.at
    (omega (arith, c.root_at-at.ensures.inside, c.cells-cells.ensures.cells))

pub returns-in_default : goal.returns-in_default
returns-in_default c =
    let level = c.loop-level.level in let digest = c.args.digest.now in
    let by : c.from-nibble.result ≡ nibble digest level = c.from-nibble.ensures ∙ c.nibble_of.ensures.same in
    let differ : c.loop-level.at ≡ c.args.node → c.args.x ≡ nibble digest level → ⊥ = elim c.else-at-node.branch [
      | else-at-node-via-then-at-node+else-nibble-x w ↦ λ same here. omega (arith, w.if-nibble-x.false, here, by)
      | else-at-node-via-else-at-node w ↦ λ same here. omega (arith, w.if-at-node.false, same)
    ] in
    no (ends_here c.loop-level.invariant c.loop-level-test.true differ
    (λ target h. c.in_default.ensures target (subst (λ (x : ℕ). HasChildInPool c.args.geometry.now (image_of_kept c.args.kept.now) (c.loop-level.at + 16 + x) target) (sym by) h)))

pub loop-level-preserved : goal.loop-level-preserved
loop-level-preserved c =
    let level = c.loop-level.level in let digest = c.args.digest.now in
    let by : c.from-nibble.result ≡ nibble digest level = c.from-nibble.ensures ∙ c.nibble_of.ensures.same in
    let differ : c.loop-level.at ≡ c.args.node → c.args.x ≡ nibble digest level → ⊥ = elim c.else-at-node.branch [
      | else-at-node-via-then-at-node+else-nibble-x w ↦ λ same here. omega (arith, w.if-nibble-x.false, here, by)
      | else-at-node-via-else-at-node w ↦ λ same here. omega (arith, w.if-at-node.false, same)
    ] in
    one_step c.loop-level.invariant c.loop-level-test.true differ
    (subst (λ (x : ℕ). HasChildInPool c.args.geometry.now (image_of_kept c.args.kept.now) (c.loop-level.at + 16 + x) c.in-Some.under) by c.in-Some.ensures)
