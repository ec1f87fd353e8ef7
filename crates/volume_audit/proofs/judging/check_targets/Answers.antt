-- What was found.
use Rattle.log_audit.specs.KeptVolumes.{image_in}
use Rattle.tamper_rules.specs.Rules.{Targets}
use Rattle.volume_audit.proofs.Passing.{passes}
use Rattle.volume_audit.proofs.judging.check_targets.Goals as goal

pub returns : goal.returns
returns c = let volume = c.args.volume.now in
    passes volume.geometry (image_in volume) Targets c.first_broken_target.result c.refuse.result c.requires.met
    c.first_broken_target.ensures c.refuse.ensures
