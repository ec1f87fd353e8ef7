-- A place that names no cell, and one that names one.
use Rattle.std.proofs.Common.{◌+◌, ℕ, sym, subst, arith}
use Rattle.log_audit.specs.Kept.{image_of_kept}
use Rattle.slot_audit.specs.Copying.{HasTarget}
use Rattle.slot_audit.proofs.Ordering.{one_target}
use Rattle.slot_audit.specs.Targets.{AddsTargets}
use Rattle.slot_audit.proofs.Naming.{none_more, one_more}
use Rattle.slot_audit.proofs.named.push_targets.Goals as goal

pub loop-place-preserved-in_default : goal.loop-place-preserved-in_default
loop-place-preserved-in_default c = none_more (image_of_kept c.args.kept.now) c.args.stored.now c.loop-place.invariant
    (λ cell has. c.in_default.ensures cell (subst (λ (k : ℕ). HasTarget (image_of_kept c.args.kept.now) (k + c.loop-place.place) cell)
    (sym c.journal_at-first.ensures.at) has))

pub loop-place-preserved : goal.loop-place-preserved
loop-place-preserved c =
    let has = subst (λ (k : ℕ). HasTarget (image_of_kept c.args.kept.now) (k + c.loop-place.place) c.in-Some.target)
    c.journal_at-first.ensures.at c.in-Some.ensures in
    subst (AddsTargets (image_of_kept c.args.kept.now) c.args.stored.now (c.loop-place.place + 1) c.args.cells.now.items)
    (sym c.in_ok-push.ensures.items)
    (one_more (image_of_kept c.args.kept.now) c.args.stored.now c.loop-place.invariant (omega arith) has
    (λ cell other. one_target other has))
