-- Both parts are the rule.
use Rattle.std.proofs.Common.{sym, subst}
use Rattle.tamper_rules.specs.Rules.{StrayCells}
use Rattle.log_audit.specs.KeptVolumes.{image_in}
use Rattle.log_audit.specs.Findings.{FindsBroken}
use Rattle.slot_audit.proofs.Parting.{both_are}
use Rattle.slot_audit.proofs.strays.first_broken_stray.Goals as goal

pub returns : goal.returns
returns c = let volume = c.args.volume.now in
    subst (FindsBroken volume.geometry (image_in volume) StrayCells) (sym c.lower_of.ensures)
    (both_are volume.geometry (image_in volume) c.first_unexpected-unexpected.result c.first_false_stamp-stamp.result
    c.first_unexpected-unexpected.ensures c.first_false_stamp-stamp.ensures)
