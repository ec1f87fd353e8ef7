-- What was listed is a receipt.
use Rattle.std.proofs.Common.{arith, refl, ◌∙◌}
use Rattle.receipt_check.proofs.KeptByList.{are_inside}
use Rattle.receipt_check.proofs.SlotReceipts.{none_beyond, shown_after_all, slot_receipt}
use Rattle.receipt_check.proofs.making.receipt_of_slot.Goals as goal

-- a cell is listed that the device does not have
pub returns-in-Some-first_from : goal.returns-in-Some-first_from
returns-in-Some-first_from g c =
    let old = g.D.Device.state c.args.device.now in
    let new = g.D.Device.state c.list_directly.new.device in
    let beyond = c.in-Some-first_from.ensures in
    record {
      viewed = c.list_directly.ensures.viewed;
      ends = λ tells. absurd (none_beyond c.args.slot c.in-Some._bytes c.args.id.now old new c.list_directly.new.listed
          (rw c.in-Some.is at c.in-Ok.ensures)
          (record { slot = c.args.slot; identifier = c.args.id.now; cells = c.list_directly.new.listed }) refl refl refl
          c.in-Some-first_from._beyond.at c.in-Some-first_from._beyond.value
          (g.met.D.Device.proper c.list_directly.new.device) tells beyond.some
          (omega (arith, beyond.from, c.cells-cells.ensures.cells)));
    }

-- its cells are cells of the device
pub shows_document-requires-clause-shown : goal.shows_document-requires-clause-shown
shows_document-requires-clause-shown g c =
    are_inside c.cells-cells.result c.list_directly.new.listed
    (omega (arith, c.cells-cells.ensures.cells, (g.met.D.Device.proper c.args.device.now).cells))
    c.len-count.ensures.listed c.in_default-first_from.ensures.none

-- they don't keep the document
pub returns-in-Ok-false : goal.returns-in-Ok-false
returns-in-Ok-false g c =
    let old = g.D.Device.state c.args.device.now in
    let new = g.D.Device.state c.list_directly.new.device in
    record {
      viewed = c.list_directly.ensures.viewed;
      ends = λ tells. absurd (shown_after_all c.args.slot c.in-Some._bytes c.args.id.now old new
          c.list_directly.new.listed (rw c.in-Some.is at c.in-Ok.ensures)
          (record { slot = c.args.slot; identifier = c.new.result; cells = c.list_directly.new.listed }) refl
          (c.new.ensures ∙ c.in_ok-identifier.ensures.items) refl c.cells-cells.result c.cells-cells.ensures.cells tells
          (rw c.in-Ok-false.field-0-test at c.in-Ok-false.ensures));
    }

-- they do
pub returns-in-Ok-true : goal.returns-in-Ok-true
returns-in-Ok-true g c =
    let old = g.D.Device.state c.args.device.now in
    let new = g.D.Device.state c.list_directly.new.device in
    record {
      viewed = c.list_directly.ensures.viewed;
      ends = slot_receipt c.args.slot c.in-Some._bytes c.args.id.now old new c.list_directly.new.listed
          (rw c.in-Some.is at c.in-Ok.ensures)
          (record { slot = c.args.slot; identifier = c.new.result; cells = c.list_directly.new.listed }) refl
          (c.new.ensures ∙ c.in_ok-identifier.ensures.items) refl c.cells-cells.result c.len-count.ensures.listed
          c.cells-cells.ensures.cells
          (are_inside c.cells-cells.result c.list_directly.new.listed
          (omega (arith, c.cells-cells.ensures.cells, (g.met.D.Device.proper c.args.device.now).cells))
          c.len-count.ensures.listed c.in_default-first_from.ensures.none)
          (rw c.in-Ok-true.field-0-test at c.in-Ok-true.ensures);
    }
