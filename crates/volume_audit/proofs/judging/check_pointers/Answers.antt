-- What was found.
use Rattle.log_audit.specs.KeptVolumes.{image_in}
use Rattle.tamper_rules.specs.Rules.{Pointers}
use Rattle.volume_audit.proofs.Passing.{passes}
use Rattle.volume_audit.proofs.judging.check_pointers.Goals as goal

pub returns : goal.returns
returns c = let volume = c.args.volume.now in
    passes volume.geometry (image_in volume) Pointers c.first_broken_pointer.result c.refuse.result
    c.requires.met
    c.first_broken_pointer.ensures c.refuse.ensures
