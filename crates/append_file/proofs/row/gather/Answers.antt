-- Cell after cell of the row.
use Rattle.std.proofs.Common.{◌-◌, ◌/◌, length, rules, arith}
use Rattle.append_file.proofs.RowsOn.{row_ended, row_more_full}
use Rattle.append_file.proofs.row.gather.Goals as goal

pub loop-k-preserved : goal.loop-k-preserved
loop-k-preserved c =
    row_more_full c.args.bytes c.args.place c.loop-k.k c.loop-k.row c.move_full.new.row c.args.row.now
    c.loop-k.invariant (omega (arith, c.requires.places, c.loop-k-test.true))
    (record { each = λ i. omega (arith, c.type_inv.row i) })
    (omega (arith, c.loop-k-test.true, c.loop-k.invariant.size))
    (c.move_full.ensures.moved (search rules)) c.move_full.ensures.size

pub returns-clause-some : goal.returns-clause-some
returns-clause-some c =
    row_ended c.args.bytes c.args.place c.loop-k.k (length c.args.row.now / 16 - 1) (length c.args.row.now / 16)
    c.in_ok-more.more c.loop-k.row c.move_piece.new.row c.args.row.now c.loop-k.invariant
    (omega (arith, c.loop-k-test.false, c.loop-k.auto.k-end)) (omega (arith, c.requires.some))
    (omega (arith, c.requires.places, c.requires.some)) c.in_ok-more.ensures.some c.move_piece.ensures.size
    c.in_ok-more.ensures.others
