-- What was found.
use Rattle.std.proofs.Common.{arith}
use Rattle.log_audit.specs.KeptVolumes.{image_in}
use Rattle.tamper_rules.specs.Rules.{Journals, Tilings}
use Rattle.volume_audit.proofs.Passing.{passes}
use Rattle.volume_audit.proofs.judging.check_tilings.Goals as goal

pub first_broken_tiling-requires : goal.first_broken_tiling-requires
first_broken_tiling-requires c = record { journals = c.requires.met Journals (omega arith) }

pub returns : goal.returns
returns c = let volume = c.args.volume.now in
    passes volume.geometry (image_in volume) Tilings c.in_ok-first_broken_tiling.field-0 c.refuse.result c.requires.met
    c.in_ok-first_broken_tiling.ensures c.refuse.ensures
