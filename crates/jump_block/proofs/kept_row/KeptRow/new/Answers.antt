-- No cell of the row is written.
use Rattle.jump_block.proofs.KeptRowing.{blank_stands}
use Rattle.jump_block.proofs.kept_row.KeptRow.new.Goals as goal

pub returns : goal.returns
returns c = λ image. blank_stands _ tt image 0
