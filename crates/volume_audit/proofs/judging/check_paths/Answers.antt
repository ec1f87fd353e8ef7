-- What was found.
use Rattle.std.proofs.Common.{arith}
use Rattle.log_audit.specs.KeptVolumes.{image_in}
use Rattle.tamper_rules.specs.Rules.{Documents, Paths}
use Rattle.volume_audit.proofs.Passing.{passes}
use Rattle.volume_audit.proofs.judging.check_paths.Goals as goal

pub first_broken_path-requires-clause-documents : goal.first_broken_path-requires-clause-documents
first_broken_path-requires-clause-documents c = c.requires.met Documents (omega arith)

pub returns : goal.returns
returns c = let volume = c.args.volume.now in
    passes volume.geometry (image_in volume) Paths c.first_broken_path.result c.refuse.result c.requires.met
    c.first_broken_path.ensures c.refuse.ensures
