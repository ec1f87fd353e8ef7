-- What was found.
use Rattle.log_audit.specs.KeptVolumes.{image_in}
use Rattle.tamper_rules.specs.Rules.{Postings}
use Rattle.volume_audit.proofs.Passing.{passes}
use Rattle.volume_audit.proofs.judging.check_postings.Goals as goal

pub returns : goal.returns
returns c = let volume = c.args.volume.now in
    passes volume.geometry (image_in volume) Postings c.in_ok-first_broken_posting.field-0 c.refuse.result c.requires.met
    c.in_ok-first_broken_posting.ensures c.refuse.ensures
