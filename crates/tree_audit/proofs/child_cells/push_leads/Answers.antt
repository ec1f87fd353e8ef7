-- A child cell that leads nowhere, one that leads to a node, and all of them.
use Rattle.std.proofs.Common.{◌≡◌, ℕ, subst, arith}
use Rattle.log_audit.specs.Kept.{image_of_kept}
use Rattle.tree_audit.specs.ChildCells.{IsLeadOf}
use Rattle.tree_audit.specs.Numbers.{AddsNumbers}
use Rattle.tree_audit.proofs.Numbering.{leads_before, leads_nowhere, leads_on}
use Rattle.tree_audit.proofs.child_cells.push_leads.Goals as goal

pub loop-place-init : goal.loop-place-init
loop-place-init c = leads_before c.args.geometry.now (image_of_kept c.args.kept.now) c.args.node c.args.first c.args.leads.now.items c.requires.added

pub loop-place-preserved-in_default : goal.loop-place-preserved-in_default
loop-place-preserved-in_default c = leads_nowhere c.loop-place.invariant c.in_default.ensures

pub loop-place-preserved : goal.loop-place-preserved
loop-place-preserved c = leads_on c.loop-place.invariant (omega (arith, c.loop-place.auto.place, c.requires.from)) c.in-Some.ensures
    (omega (arith, c.from.ensures, c.from-in-loop-place.ensures)) c.in_ok-push.ensures.items

pub returns : goal.returns
returns c =
    let all : c.loop-place.place ≡ 32 = omega (arith, c.loop-place-test.false, c.loop-place.auto.place-end) in
    subst (λ (p : ℕ). AddsNumbers (IsLeadOf c.args.geometry.now (image_of_kept c.args.kept.now) c.args.node p) c.args.leads.now.items c.loop-place.leads.items)
    all c.loop-place.invariant
