-- The cell is that of these seconds.
use Rattle.std.proofs.Common.{◌++◌, ◌∙◌, ap, arith, refl, replicate, sym, take}
use Rattle.byteorder.specs.Endian.{big_bytes}
use Rattle.cell_types.specs.declared.record_cell.RecordCell.TheVariants.{Stamp}
use Rattle.cell_types.proofs.OneKind.{of_kind}
use Rattle.cell_types.proofs.OneRecord.{body_in}
use Rattle.cell_types.proofs.slot_codec.decode_stamp.Goals as goal

pub returns-in_err-seconds-clause-none : goal.returns-in_err-seconds-clause-none
returns-in_err-seconds-clause-none c = rw c.from_residual.ensures (λ seconds is. c.in_err-seconds.ensures.none 10 seconds
    (body_in (Stamp seconds) c.args.address c.args.cell is ∙ sym (ap (take 12) c.bytes.ensures.same)))

pub returns-clause-some : goal.returns-clause-some
returns-clause-some c =
    of_kind (Stamp c.in_ok-seconds.seconds) 10 c.args.address c.args.cell c.bytes.result
    (big_bytes 4 c.in_ok-seconds.seconds ++ replicate 7 0) c.bytes.ensures.cell c.bytes.ensures.same (omega arith) tt
    (c.has_kind.ensures.0 c.if-not-has_kind.false) c.in_ok-seconds.ensures.some refl
