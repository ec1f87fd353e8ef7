-- The listed cells were judged.
use Rattle.std.proofs.Common.{arith}
use Rattle.receipt_check.proofs.Comparing.{accepted, are_shown, not_shown}
use Rattle.receipt_check.proofs.checking.check_receipt.Goals as goal

-- the listed cells are cells of the device
pub invariant_of-shown : goal.invariant_of-shown
invariant_of-shown g c = record {
  inside = are_shown c.cells-cells.result (g.D.Device.state c.args.device.now).cells c.args.receipt.now.cells
      c.cells-cells.ensures.cells (omega (arith, (g.met.D.Device.proper c.args.device.now).cells)) c.requires.listed;
}

-- they keep the document
pub returns-in-Ok-Some : goal.returns-in-Ok-Some
returns-in-Ok-Some g c =
    accepted c.args.receipt.now _ _ c.in_default.ensures _ c.cells-cells.ensures.cells _ _ c.in-Ok-Some.bytes
    (rw (c.in-Ok-Some.field-0-is, c.bytes.ensures) at c.in-Ok-Some.ensures)

-- they keep none
pub returns-in-Ok-None : goal.returns-in-Ok-None
returns-in-Ok-None g c =
    not_shown c.args.receipt.now _ _ c.in_default.ensures _ c.cells-cells.ensures.cells _ _
    (rw (c.in-Ok-None.field-0-is, c.bytes.ensures) at c.in-Ok-None.ensures)
