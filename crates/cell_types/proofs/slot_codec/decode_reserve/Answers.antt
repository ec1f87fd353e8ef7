-- The cell is that of one reservation.
use Rattle.std.proofs.Common.{◌++◌, ◌∙◌, ap, arith, refl, replicate, sym, take}
use Rattle.byteorder.specs.Endian.{big_bytes}
use Rattle.cell_types.specs.declared.record_cell.RecordCell.TheVariants.{Reserve}
use Rattle.cell_types.proofs.OneKind.{of_kind}
use Rattle.cell_types.proofs.OneRecord.{body_in}
use Rattle.cell_types.proofs.slot_codec.decode_reserve.Goals as goal

pub returns-in_err-start-clause-none : goal.returns-in_err-start-clause-none
returns-in_err-start-clause-none c = rw c.from_residual.ensures (λ start length is.
    c.in_err-start.ensures.none 2 start length
    (body_in (Reserve start length) c.args.address c.args.cell is ∙ sym (ap (take 12) c.bytes.ensures.same)))

pub returns-clause-some : goal.returns-clause-some
returns-clause-some c =
    let start = c.in_ok-start.start in
    let length = c.in_ok-start.length in
    of_kind (Reserve start length) 2 c.args.address c.args.cell c.bytes.result
    (big_bytes 4 start ++ big_bytes 4 length ++ replicate 3 0) c.bytes.ensures.cell c.bytes.ensures.same
    (omega arith, omega arith) (omega arith)
    (c.has_kind.ensures.0 c.if-not-has_kind.false) c.in_ok-start.ensures.some refl
