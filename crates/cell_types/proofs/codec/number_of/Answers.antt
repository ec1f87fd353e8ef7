-- A number and zeros are two numbers, of which the second is 0.
use Rattle.cell_types.proofs.codec.number_of.Goals as goal

pub returns-in_err-number-clause-none : goal.returns-in_err-number-clause-none
returns-in_err-number-clause-none c = rw c.from_residual.ensures (λ kind n. c.in_err-number.ensures.none kind n 0)
