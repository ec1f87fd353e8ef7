-- The lines of a text say each part of the receipt.
use Rattle.receipt_text.proofs.OneText.{texts_are_one}
use Rattle.receipt_text.proofs.laws.texts_are_one.Goals as goal

pub returns : goal.returns
returns c = texts_are_one
