-- The cell is that of one document.
use Rattle.std.proofs.Common.{◌++◌, ◌∙◌, ap, arith, refl, replicate, sym, take}
use Rattle.byteorder.specs.Endian.{big_bytes}
use Rattle.cell_types.specs.declared.record_cell.RecordCell.TheVariants.{Commit}
use Rattle.cell_types.proofs.OneKind.{of_kind}
use Rattle.cell_types.proofs.OneRecord.{body_in}
use Rattle.cell_types.proofs.slot_codec.decode_commit.Goals as goal

pub returns-in_err-bytes-clause-none : goal.returns-in_err-bytes-clause-none
returns-in_err-bytes-clause-none c = rw c.from_residual.ensures (λ bytes journal is.
    c.in_err-bytes.ensures.none 3 bytes journal
    (body_in (Commit bytes journal) c.args.address c.args.cell is ∙ sym (ap (take 12) c.bytes.ensures.same)))

pub returns-clause-some : goal.returns-clause-some
returns-clause-some c =
    let bytes = c.in_ok-bytes.bytes in
    let journal = c.in_ok-bytes.journal in
    of_kind (Commit bytes journal) 3 c.args.address c.args.cell c.bytes.result
    (big_bytes 4 bytes ++ big_bytes 4 journal ++ replicate 3 0) c.bytes.ensures.cell c.bytes.ensures.same
    (omega arith, omega arith) (omega arith, omega arith, omega arith)
    (c.has_kind.ensures.0 c.if-not-has_kind.false) c.in_ok-bytes.ensures.some refl
