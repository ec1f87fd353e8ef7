-- What was found.
use Rattle.std.proofs.Common.{arith}
use Rattle.log_audit.specs.KeptVolumes.{image_in}
use Rattle.tamper_rules.specs.Rules.{ReserveCells, StrayCells}
use Rattle.volume_audit.proofs.Passing.{passes}
use Rattle.volume_audit.proofs.judging.check_strays.Goals as goal

pub first_broken_stray-requires-clause-met : goal.first_broken_stray-requires-clause-met
first_broken_stray-requires-clause-met c = c.requires.met ReserveCells (omega arith)

pub returns : goal.returns
returns c = let volume = c.args.volume.now in
    passes volume.geometry (image_in volume) StrayCells c.in_ok-first_broken_stray.field-0 c.refuse.result
    c.requires.met
    c.in_ok-first_broken_stray.ensures c.refuse.ensures
