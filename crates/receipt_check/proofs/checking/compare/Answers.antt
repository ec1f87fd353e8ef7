-- Each listed cell was compared.
use Rattle.std.proofs.Common.{arith}
use Rattle.receipt_check.proofs.Comparing.{all_compared, listed_within}
use Rattle.receipt_check.proofs.checking.compare.Goals as goal

-- a listed cell is one of the device's
pub read-requires : goal.read-requires
read-requires g c =
    let below = (listed_within (g.D.Device.state c.args.device.now).cells 0 c.args.listed.now c.in-Some.cell.at
    c.in-Some.cell.value c.requires.listed c.in-Some.ensures.some).0 in
    omega (arith, below, c.loop-next.invariant.called.cells)

pub overflow_add-next : goal.overflow_add-next
overflow_add-next g c =
    let below = (listed_within (g.D.Device.state c.args.device.now).cells 0 c.args.listed.now c.in-Some.cell.at
    c.in-Some.cell.value c.requires.listed c.in-Some.ensures.some).0 in
    omega (arith, below, (g.met.D.Device.proper c.args.device.now).cells)

-- each was compared
pub returns : goal.returns
returns g c = all_compared c.args.listed.now c.loop-next.next _ _ c.loop-next.invariant c.requires.listed
    (omega (arith, c.loop-next-test.false, c.cells-cells.ensures.cells))
