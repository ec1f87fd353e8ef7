-- The rows stand one behind another.
use Rattle.std.proofs.Common.{◌++◌, ◌∷◌, [], ap, ◌∙◌}
use Rattle.script_events.specs.declared.event.Event.{Event}
use Rattle.volume_exercise.specs.Events.{audit_event, format_event, ingests, look_ups, pairs, singles}
use Rattle.volume_exercise.proofs.Rows.{rows_joined}
use Rattle.volume_exercise.proofs.events.exercise_events.Goals as goal

pub returns : goal.returns
returns c =
    let n = c.args.documents in
    rows_joined (format_event n) audit_event (ingests n) singles pairs (look_ups n) c.new-events.result.items
    c.push.new.items.items c.push_ingests.new.events.items c.push_singles.new.events.items c.push_pairs.new.events.items
    c.push_look_ups.new.events.items c.push-2.new.items.items c.new-events.ensures.items
    (c.in_ok-push.ensures.items ∙ ap (λ (e : Event). c.new-events.result.items ++ e ∷ []) c.format_event.ensures)
    c.in_ok-push_ingests.ensures c.in_ok-push_singles.ensures c.in_ok-push_pairs.ensures c.in_ok-push_look_ups.ensures
    (c.in_ok-push-2.ensures.items ∙ ap (λ (e : Event). c.push_look_ups.new.events.items ++ e ∷ []) c.audit_event.ensures)
