-- What was made stands still.
use Rattle.receipt_check.proofs.Accepting.{hold_on}
use Rattle.receipt_check.proofs.MakingAccepted.{accepted}
use Rattle.receipt_check.proofs.making_laws.receipts_are_accepted.Goals as goal

pub returns : goal.returns
returns c = accepted hold_on
