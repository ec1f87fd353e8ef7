-- The cell is that of one slot.
use Rattle.std.proofs.Common.{◌++◌, ◌∙◌, ap, arith, refl, replicate, sym, take}
use Rattle.byteorder.specs.Endian.{big_bytes}
use Rattle.cell_types.specs.declared.record_cell.RecordCell.TheVariants.{Done}
use Rattle.cell_types.proofs.OneKind.{of_kind}
use Rattle.cell_types.proofs.OneRecord.{body_in}
use Rattle.cell_types.proofs.slot_codec.decode_done.Goals as goal

pub returns-in_err-slot-clause-none : goal.returns-in_err-slot-clause-none
returns-in_err-slot-clause-none c = rw c.from_residual.ensures (λ slot is. c.in_err-slot.ensures.none 5 slot
    (body_in (Done slot) c.args.address c.args.cell is ∙ sym (ap (take 12) c.bytes.ensures.same)))

pub returns-clause-some : goal.returns-clause-some
returns-clause-some c =
    of_kind (Done c.in_ok-slot.slot) 5 c.args.address c.args.cell c.bytes.result
    (big_bytes 4 c.in_ok-slot.slot ++ replicate 7 0) c.bytes.ensures.cell c.bytes.ensures.same (omega arith) (omega arith)
    (c.has_kind.ensures.0 c.if-not-has_kind.false) c.in_ok-slot.ensures.some refl
