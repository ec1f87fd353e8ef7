-- The first free slot, a slot more, and no slot left.
use Rattle.std.proofs.Common.{◌≡◌, refl, sym, ◌∙◌, ap, arith, None}
use Rattle.cell_types.specs.Layout.{reserve_at}
use Rattle.log_audit.specs.Kept.{image_of_kept}
use Rattle.log_audit.proofs.LogSoFar.{one_more, is_log, free_from}
use Rattle.log_audit.proofs.log.log_of.Goals as goal

pub returns-in_default : goal.returns-in_default
returns-in_default c =
    let image = image_of_kept c.args.kept.now in
    let none : image (reserve_at c.loop-slot.slot) ≡ None = sym (ap image c.reserve_at-cell.ensures.at) ∙ sym c.at.ensures ∙ c.in_default.is in
    is_log c.loop-slot.invariant (free_from c.args.geometry.now image c.loop-slot.slot c.requires none) _ refl refl

pub loop-slot-preserved : goal.loop-slot-preserved
loop-slot-preserved c = one_more c.in-Some-ended_slot.ended c.loop-slot.invariant (omega (arith, c.loop-slot-test.true, c.slots-slot-end.ensures.slots))
    c.in-Some-ended_slot.ensures.some c.in-Some-ended_slot.ensures.room c.in_ok-push.ensures.items c.end-edge.ensures

pub returns : goal.returns
returns c = is_log c.loop-slot.invariant
    (λ n from less. absurd (omega (arith, from, less, c.loop-slot-test.false, c.slots-slot-end.ensures.slots))) _ refl refl
