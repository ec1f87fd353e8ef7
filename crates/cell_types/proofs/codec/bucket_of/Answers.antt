-- The seven bytes are bytes, since they are copied from bytes.
use Rattle.std.proofs.Common.{arith}
use Rattle.cell_types.proofs.Bodies.{end_fits}
use Rattle.cell_types.proofs.codec.bucket_of.Goals as goal

pub returns-clause-fits : goal.returns-clause-fits
returns-clause-fits c = (omega arith, end_fits 5 7 c.args.body.now c.copy_from_slice.new.self (λ i. (c.type_inv.body i).fits) c.copy_from_slice.ensures.after c.copy_from_slice.ensures.len)
