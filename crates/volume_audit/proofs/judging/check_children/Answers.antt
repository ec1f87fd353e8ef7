-- What was found.
use Rattle.std.proofs.Common.{arith}
use Rattle.log_audit.specs.KeptVolumes.{image_in}
use Rattle.tamper_rules.specs.Rules.{Children, Journals, ReserveCells}
use Rattle.volume_audit.proofs.Passing.{passes}
use Rattle.volume_audit.proofs.judging.check_children.Goals as goal

pub first_broken_child-requires-clause-met : goal.first_broken_child-requires-clause-met
first_broken_child-requires-clause-met c = c.requires.met ReserveCells (omega arith)

pub first_broken_child-requires-clause-journals : goal.first_broken_child-requires-clause-journals
first_broken_child-requires-clause-journals c = c.requires.met Journals (omega arith)

pub returns : goal.returns
returns c = let volume = c.args.volume.now in
    passes volume.geometry (image_in volume) Children c.first_broken_child.result c.refuse.result c.requires.met
    c.first_broken_child.ensures c.refuse.ensures
