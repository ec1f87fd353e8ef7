-- The place before holds no copy; or it holds one.
use Rattle.std.proofs.Common.{◌-◌, sym, arith}
use Rattle.log_audit.specs.Kept.{image_of_kept}
use Rattle.log_audit.proofs.Deciding.{no}
use Rattle.slot_audit.proofs.Ordering.{moved, rises_there, rises_not}
use Rattle.slot_audit.proofs.entries.rises.Goals as goal

pub returns-in_default : goal.returns-in_default
returns-in_default c = no (rises_not (image_of_kept c.args.kept.now) c.args.stored.now c.args.place c.args.target
    (omega (arith, c.if-place-eq0.false))
    (λ lower h. c.in_default.ensures lower
    (moved (image_of_kept c.args.kept.now) _ _ (c.args.place - 1) lower (sym c.journal_at.ensures.at) h)))

pub returns : goal.returns
returns c = rises_there (image_of_kept c.args.kept.now) c.args.stored.now c.args.place c.args.target c.in-Some.lower
    (omega (arith, c.if-place-eq0.false)) c.requires.place (omega arith)
    (moved (image_of_kept c.args.kept.now) _ _ (c.args.place - 1) c.in-Some.lower c.journal_at.ensures.at c.in-Some.ensures)
