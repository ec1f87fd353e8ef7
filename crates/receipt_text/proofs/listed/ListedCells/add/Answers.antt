-- One cell more, in its place.
use Rattle.std.proofs.Common.{arith, ◌^◌}
use Rattle.receipt_text.proofs.Listing.{listed_with}
use Rattle.receipt_text.proofs.listed.ListedCells.add.Goals as goal

pub invariant_of-self-2 : goal.invariant_of-self-2
invariant_of-self-2 c =
    rw (c.in_ok-_replaced.ensures.entries)
    (listed_with (2 ^ 32) 0 c.args.at c.args.value c.self.inside.cells.entries c.self.invariant (omega arith)
    c.ranges.at.fits c.bytes-bytes.ensures.cell)
