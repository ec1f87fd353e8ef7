-- What was read stands.
use Rattle.jump_block.proofs.KeptRowing.{row_stands}
use Rattle.jump_block.proofs.kept_row.KeptRow.read.Goals as goal

pub returns-in-Ok-clause-kept : goal.returns-in-Ok-clause-kept
returns-in-Ok-clause-kept g c = λ tells. row_stands c.args.at _ c.read_row.new.cells _ _ c.in-Ok.ensures tells
