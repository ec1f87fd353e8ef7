-- One cell after another.
use Rattle.std.proofs.Common.{length, refl, arith}
use Rattle.std.proofs.lemmas.Option.{slice_get_read}
use Rattle.host_files.proofs.RowBytes.{first_none, first_next, first_all}
use Rattle.host_files.proofs.rows.fill.Goals as goal

pub loop-place-init : goal.loop-place-init
loop-place-init c = first_none c.args.values.now c.args.bytes.now

pub loop-place-preserved : goal.loop-place-preserved
loop-place-preserved c =
    first_next c.loop-place.place c.args.values.now c.index-values-place.result c.loop-place.bytes c.put_at.new.bytes
    (slice_get_read c.args.values.now (length c.args.values.now) c.loop-place.place c.index-values-place.result refl
    c.loop-place-test.true c.index-values-place.is)
    c.bytes-bytes.ensures.cell c.put_at.ensures.holds c.put_at.ensures.others c.loop-place.invariant

pub returns : goal.returns
returns c = first_all c.loop-place.place c.args.values.now c.loop-place.bytes
    (omega (arith, c.loop-place-test.false, c.loop-place.auto.place-end)) c.loop-place.invariant
