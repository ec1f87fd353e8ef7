-- One event more.
use Rattle.volume_exercise.specs.Events.{pair_event}
use Rattle.volume_exercise.proofs.Rows.{none_yet, one_more}
use Rattle.volume_exercise.proofs.events.push_pairs.Goals as goal

pub loop-number-init : goal.loop-number-init
loop-number-init c = none_yet pair_event _

pub loop-number-preserved : goal.loop-number-preserved
loop-number-preserved c =
    one_more pair_event _ c.loop-number.events.items _ c.loop-number.number c.in_ok-event.event c.in_ok-push.ensures.items
    c.in_ok-event.ensures c.loop-number.invariant
