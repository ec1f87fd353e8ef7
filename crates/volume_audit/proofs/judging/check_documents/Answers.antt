-- What was found.
use Rattle.log_audit.specs.KeptVolumes.{image_in}
use Rattle.tamper_rules.specs.Rules.{Documents}
use Rattle.volume_audit.proofs.Passing.{passes}
use Rattle.volume_audit.proofs.judging.check_documents.Goals as goal

pub returns : goal.returns
returns c = let volume = c.args.volume.now in
    passes volume.geometry (image_in volume) Documents c.first_broken_document.result c.refuse.result
    c.requires.met c.first_broken_document.ensures c.refuse.ensures
