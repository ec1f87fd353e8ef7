-- What the log says.
use Rattle.std.proofs.Common.{Some, sym, ◌∙◌, ap}
use Rattle.log_audit.specs.Kept.{image_of_kept}
use Rattle.log_audit.proofs.Logged.{stores_of}
use Rattle.log_audit.proofs.Storing.{stored_there}
use Rattle.log_audit.proofs.kept_volume.KeptVolume.stored_slot.Goals as goal

pub returns-in_default-clause-none : goal.returns-in_default-clause-none
returns-in_default-clause-none c = λ start length bytes journal stores.
    let e = stores_of c.args.self.now.geometry (image_of_kept c.args.self.now.kept) c.args.self.now.log c.args.self.now.is_log c.args.slot start length bytes journal stores in
    let is = c.in_default.is in let at = c.at.ensures in cc

pub returns-in-Done-clause-some : goal.returns-in-Done-clause-some
returns-in-Done-clause-some c = stored_there c.args.self.now.log c.args.self.now.is_log _ _ _ _ _ (sym c.at.ensures ∙ c.in-Some.is ∙ ap Some c.in-Done.is)

pub returns-in-Abandoned-clause-none : goal.returns-in-Abandoned-clause-none
returns-in-Abandoned-clause-none c = λ start length bytes journal stores.
    let e = stores_of c.args.self.now.geometry (image_of_kept c.args.self.now.kept) c.args.self.now.log c.args.self.now.is_log c.args.slot start length bytes journal stores in
    let is = c.in-Some.is in let at = c.at.ensures in let a = c.in-Abandoned.is in cc
