-- What was made stands still.
use Rattle.volume_commands.proofs.Ready.{receipts_are_ready}
use Rattle.volume_commands.proofs.laws.receipts_are_ready.Goals as goal

pub returns : goal.returns
returns c = receipts_are_ready
