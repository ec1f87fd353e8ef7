-- What was found.
use Rattle.log_audit.specs.KeptVolumes.{image_in}
use Rattle.tamper_rules.specs.Rules.{Entries}
use Rattle.volume_audit.proofs.Passing.{passes}
use Rattle.volume_audit.proofs.judging.check_entries.Goals as goal

pub returns : goal.returns
returns c = let volume = c.args.volume.now in
    passes volume.geometry (image_in volume) Entries c.first_broken_entry.result c.refuse.result c.requires.met
    c.first_broken_entry.ensures c.refuse.ensures
