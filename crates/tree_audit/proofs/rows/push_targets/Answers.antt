-- A child cell that leads nowhere, one that leads to a node, and all of them.
use Rattle.std.proofs.Common.{◌≡◌, ◌++◌, ◌∷◌, [], ℕ, subst, arith}
use Rattle.tree_audit.specs.Nodes.{AddsChildTargets}
use Rattle.log_audit.specs.Kept.{image_of_kept}
use Rattle.tree_audit.proofs.Closing.{no_targets, no_child, one_child}
use Rattle.tree_audit.proofs.rows.push_targets.Goals as goal

pub loop-place-init : goal.loop-place-init
loop-place-init c = no_targets c.args.geometry.now (image_of_kept c.args.kept.now) c.args.node c.args.first c.args.targets.now.items c.requires.added

pub loop-place-preserved-in_default : goal.loop-place-preserved-in_default
loop-place-preserved-in_default c = no_child c.loop-place.invariant c.in_default.ensures

pub loop-place-preserved : goal.loop-place-preserved
loop-place-preserved c = one_child c.loop-place.invariant (omega (arith, c.loop-place.auto.place, c.requires.from)) c.in-Some.ensures
    (subst (λ (t : ℕ). c.push.new.items.items ≡ c.loop-place.targets.items ++ t ∷ []) c.from.ensures c.in_ok-push.ensures.items)

pub returns : goal.returns
returns c =
    let all : c.loop-place.place ≡ 32 = omega (arith, c.loop-place-test.false, c.loop-place.auto.place-end) in
    subst (λ (p : ℕ). AddsChildTargets c.args.geometry.now (image_of_kept c.args.kept.now) c.args.node p c.args.targets.now.items c.loop-place.targets.items)
    all c.loop-place.invariant
