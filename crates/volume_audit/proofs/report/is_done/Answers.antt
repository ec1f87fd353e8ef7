-- What the log says.
use Rattle.std.proofs.Common.{sym, ◌∙◌, ap, Some}
use Rattle.std.proofs.lemmas.Option.{none-some}
use Rattle.log_audit.specs.KeptVolumes.{image_in}
use Rattle.log_audit.proofs.Deciding.{no, yes}
use Rattle.log_audit.proofs.Logged.{done_slot, not_done}
use Rattle.volume_audit.proofs.report.is_done.Goals as goal

pub returns-in_default : goal.returns-in_default
returns-in_default c = let volume = c.args.volume.now in
    no (not_done volume.geometry (image_in volume) volume.log volume.is_log c.args.slot
    (λ s r b j e. none-some _ (sym c.in_default.is ∙ c.at.ensures ∙ e)))

pub returns-in-Done : goal.returns-in-Done
returns-in-Done c = let volume = c.args.volume.now in
    yes (done_slot volume.geometry (image_in volume) volume.log volume.is_log c.args.slot _ _ _ _
    (sym c.at.ensures ∙ c.in-Some.is ∙ ap Some c.in-Done.is))

pub returns-in-Abandoned : goal.returns-in-Abandoned
returns-in-Abandoned c = let volume = c.args.volume.now in
    no (not_done volume.geometry (image_in volume) volume.log volume.is_log c.args.slot
    (λ s r b j e. let is = c.in-Some.is in let at = c.at.ensures in let a = c.in-Abandoned.is in cc))
