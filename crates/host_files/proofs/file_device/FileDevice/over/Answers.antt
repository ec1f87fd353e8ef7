use Rattle.std.proofs.Common.{arith}
use Rattle.host_files.proofs.file_device.FileDevice.over.Goals as goal

pub invariant_of-result-clause-inside : goal.invariant_of-result-clause-inside
invariant_of-result-clause-inside g c = omega (arith, c.in-Ok.ensures.cells.0, c.size.ensures.size)

pub invariant_of-result-clause-stands : goal.invariant_of-result-clause-stands
invariant_of-result-clause-stands g c = c.requires c.in-Ok.cells

pub invariant_of-result-clause-mirror : goal.invariant_of-result-clause-mirror
invariant_of-result-clause-mirror g c told is =
    λ frame page on number place held low inside. absurd (c.clear.ensures frame number (page, on, held))
