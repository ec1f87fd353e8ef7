-- Digit by digit.
use Rattle.command_line.proofs.Decimals.{number_of_decimal}
use Rattle.command_line.proofs.laws.decimals_are_numbers.Goals as goal

pub returns : goal.returns
returns c = number_of_decimal
