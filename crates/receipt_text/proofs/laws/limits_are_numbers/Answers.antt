-- They are so by what the constants are.
use Rattle.std.proofs.Common.{refl}
use Rattle.receipt_text.proofs.laws.limits_are_numbers.Goals as goal

pub returns : goal.returns
returns c = record { cells = refl; slots = refl; identifier = refl }
