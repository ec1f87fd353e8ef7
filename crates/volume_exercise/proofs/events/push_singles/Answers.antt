-- One event more.
use Rattle.volume_exercise.specs.Events.{single_event}
use Rattle.volume_exercise.proofs.Rows.{none_yet, one_more}
use Rattle.volume_exercise.proofs.events.push_singles.Goals as goal

pub loop-number-init : goal.loop-number-init
loop-number-init c = none_yet single_event _

pub loop-number-preserved : goal.loop-number-preserved
loop-number-preserved c =
    one_more single_event _ c.loop-number.events.items _ c.loop-number.number c.in_ok-event.event c.in_ok-push.ensures.items
    c.in_ok-event.ensures c.loop-number.invariant
