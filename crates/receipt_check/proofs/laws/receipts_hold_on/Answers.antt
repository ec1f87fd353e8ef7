-- What was shown stands still.
use Rattle.receipt_check.proofs.Accepting.{hold_on}
use Rattle.receipt_check.proofs.laws.receipts_hold_on.Goals as goal

pub returns : goal.returns
returns c = hold_on
