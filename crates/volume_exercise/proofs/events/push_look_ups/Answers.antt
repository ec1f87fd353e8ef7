-- One event more.
use Rattle.volume_exercise.specs.Events.{look_up_event}
use Rattle.volume_exercise.proofs.Rows.{none_yet, one_more}
use Rattle.volume_exercise.proofs.events.push_look_ups.Goals as goal

pub loop-document-init : goal.loop-document-init
loop-document-init c = none_yet look_up_event _

pub loop-document-preserved : goal.loop-document-preserved
loop-document-preserved c =
    one_more look_up_event _ c.loop-document.events.items _ c.loop-document.document c.in_ok-event.event c.in_ok-push.ensures.items
    c.in_ok-event.ensures c.loop-document.invariant
