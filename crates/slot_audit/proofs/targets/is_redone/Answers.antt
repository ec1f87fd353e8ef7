-- The cell holds no copy; its target is blank; and the target holds something.
use Rattle.std.proofs.Common.{sym, ◌∙◌}
use Rattle.log_audit.specs.Kept.{image_of_kept}
use Rattle.log_audit.proofs.Deciding.{no, yes}
use Rattle.slot_audit.proofs.Redoing.{blank_target, same_or_not}
use Rattle.slot_audit.proofs.targets.is_redone.Goals as goal

pub returns-in_default : goal.returns-in_default
returns-in_default c = yes (λ target h. absurd (c.in_default.ensures target h))

pub returns-in_default-at : goal.returns-in_default-at
returns-in_default-at c = no (blank_target (image_of_kept c.args.kept.now) c.args.at c.in-Some.target c.in-Some.ensures
    (sym c.at.ensures ∙ (c.in_default-at).is))

pub returns : goal.returns
returns c = same_or_not (image_of_kept c.args.kept.now) c.args.at c.in-Some.target c.args.own (c.in-Some-at).there
    c.is_same.result c.in-Some.ensures c.requires (sym c.at.ensures ∙ (c.in-Some-at).is) c.is_same.ensures
