-- One posting more, and all of them.
use Rattle.std.proofs.Common.{ℕ, List, sym, ◌∙◌, length, ap, arith}
use Rattle.std.specs.Prelude.{slice_get}
use Rattle.std.proofs.lemmas.Option.{slice_get-get_or}
use Rattle.log_audit.specs.KeptVolumes.{image_in}
use Rattle.list_audit.proofs.AllLed.{led_more, led_all}
use Rattle.list_audit.proofs.rules.are_led_to.Goals as goal

pub loop-row-preserved : goal.loop-row-preserved
loop-row-preserved c = led_more c.args.volume.now.geometry (image_in c.args.volume.now) c.args.table.now.rows.items c.loop-row.row-index
    _ c.listed_in-list.result.0 c.listed_in-list.result.1 c.loop-row.invariant
    (ap (λ (rows : List (ℕ × List ℕ)). slice_get rows c.loop-row.row-index) (sym c.deref-row-items.ensures.value)
    ∙ slice_get-get_or c.deref-row-items.result.now c.loop-row.row-index _ c.loop-row-test.true)
    c.listed_in-list.ensures c.in-Some.ensures.some

pub returns : goal.returns
returns c = λ yes. led_all c.args.volume.now.geometry (image_in c.args.volume.now) c.args.table.now.rows.items c.loop-row.row-index
    (omega (arith, c.loop-row-test.false, ap length c.deref-row-items.ensures.value)) c.loop-row.invariant
