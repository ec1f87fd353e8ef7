-- What was found.
use Rattle.log_audit.specs.KeptVolumes.{image_in}
use Rattle.tamper_rules.specs.Rules.{Trails}
use Rattle.volume_audit.proofs.Passing.{passes}
use Rattle.volume_audit.proofs.judging.check_trails.Goals as goal

pub returns : goal.returns
returns g c = let volume = c.args.volume.now in
    passes volume.geometry (image_in volume) Trails c.in_ok-first_broken_trail.field-0 c.refuse.result c.requires.met
    c.in_ok-first_broken_trail.ensures c.refuse.ensures
