-- The events are of the grammar; and each exit, by how far the exercise came.
use Rattle.std.proofs.Common.{List, ap, length, refl, subst, sym, ◌∙◌, ℕ, arith}
use Rattle.cell_types.proofs.Passed.{handed}
use Rattle.cell_types.specs.declared.refusal.Refusal.TheVariants as refusals
use Rattle.script_events.specs.Events.{AreEventsOn}
use Rattle.script_events.specs.declared.event.Event.{Event}
use Rattle.script_replies.specs.declared.reply.Reply.{Reply}
use Rattle.worm_memory.specs.Device.{memory_of}
use Rattle.worm_memory.specs.Memory.{Memory}
use Rattle.hostile_replay.specs.Worlds.{IsWorld}
use Rattle.volume_exercise.specs.Exercising.{refused, told, unmade, untold}
use Rattle.volume_exercise.specs.Tallies.{counted_text, first_refusal}
use Rattle.volume_exercise.proofs.EventsOn.{exercise_events_on}
use Rattle.volume_exercise.proofs.Ending.{exercise_refused, exercise_untroubled}
use Rattle.volume_exercise.proofs.Exercised.{replies_count}
use Rattle.volume_exercise.proofs.Leaving.{exercise_whole}
use Rattle.volume_commands.proofs.Reports.{gets_as, part_as}
use Rattle.record_top.proofs.exercising.exercise.Goals as goal

pub replay-requires-clause-cells : goal.replay-requires-clause-cells
replay-requires-clause-cells g c = omega (arith, c.requires.most, ap (λ (m : Memory). m.cells) c.requires.new)

pub replay-requires-clause-events : goal.replay-requires-clause-events
replay-requires-clause-events g c =
    let cells = (memory_of c.args.device.now).cells in
    subst (AreEventsOn cells) (sym (c.deref.ensures.value ∙ c.in_ok-events.ensures))
    (exercise_events_on cells c.args.documents c.requires.some c.requires.most)

pub text_of-requires-clause-all : goal.text_of-requires-clause-all
text_of-requires-clause-all g c =
    let from = memory_of c.args.device.now in
    let to = memory_of c.replay.new.device in
    let replies = c.in_ok-replies.replies.items in
    ap (λ (l : List Reply). length l) c.deref-3.ensures.value
    ∙ replies_count c.args.documents replies from to
    (subst (λ (l : List Event). IsWorld l replies from to)
    (c.deref.ensures.value ∙ c.in_ok-events.ensures) c.in_ok-replies.ensures)

pub returns-in_err-events : goal.returns-in_err-events
returns-in_err-events g c =
    unmade (handed c.from_residual.result refusals.NoMemory c.from_residual.ensures.1) refl

pub returns-in_err-replies : goal.returns-in_err-replies
returns-in_err-replies g c =
    unmade (handed c.from_residual-in_err-replies.result refusals.NoMemory c.from_residual-in_err-replies.ensures.1) refl

-- an event was refused
pub returns-in-Some : goal.returns-in-Some
returns-in-Some g c =
    let from = memory_of c.args.device.now in
    let to = memory_of c.replay.new.device in
    let replies = c.in_ok-replies.replies.items in
    let world = subst (λ (l : List Event). IsWorld l replies from to) (c.deref.ensures.value ∙ c.in_ok-events.ensures)
    c.in_ok-replies.ensures in
    let first = ap first_refusal (sym c.deref-2.ensures.value) ∙ sym c.first_refusal.ensures ∙ c.in-Some.is in
    refused replies c.in-Some.refusal world first
    (exercise_refused c.plain_is_done.ensures c.acknowledged_are_returned.ensures c.args.documents c.requires.some
    c.requires.most from to c.requires.new replies world c.in-Some.refusal first)
    (exercise_untroubled c.plain_is_done.ensures c.args.documents c.requires.most from to c.requires.new replies world
    (c.the_count_is_recorded.ensures c.replay.new.device)) refl refl

-- the sink failed
pub returns-in_default-put_all : goal.returns-in_default-put_all
returns-in_default-put_all g c =
    let n = c.args.documents in
    let from = memory_of c.args.device.now in
    let to = memory_of c.replay.new.device in
    let replies = c.in_ok-replies.replies.items in
    let world = subst (λ (l : List Event). IsWorld l replies from to) (c.deref.ensures.value ∙ c.in_ok-events.ensures)
    c.in_ok-replies.ensures in
    let first = ap first_refusal (sym c.deref-2.ensures.value) ∙ sym c.first_refusal.ensures
    ∙ c.in_default.is in
    let whole = exercise_whole c.plain_is_done.ensures c.acknowledged_are_returned.ensures c.turns_are_marked.ensures n
    c.requires.most from to c.requires.new replies world first (c.the_count_is_recorded.ensures c.replay.new.device) in
    untold replies world first whole.0 refl
    (part_as (c.as_bytes.ensures.value ∙ c.in_ok-text.ensures ∙ ap (counted_text n) c.deref-3.ensures.value ∙ whole.1)
    c.in_default-put_all.ensures.part)

-- the lines were put out
pub returns : goal.returns
returns g c =
    let n = c.args.documents in
    let from = memory_of c.args.device.now in
    let to = memory_of c.replay.new.device in
    let replies = c.in_ok-replies.replies.items in
    let world = subst (λ (l : List Event). IsWorld l replies from to) (c.deref.ensures.value ∙ c.in_ok-events.ensures)
    c.in_ok-replies.ensures in
    let first = ap first_refusal (sym c.deref-2.ensures.value) ∙ sym c.first_refusal.ensures
    ∙ c.in_default.is in
    let whole = exercise_whole c.plain_is_done.ensures c.acknowledged_are_returned.ensures c.turns_are_marked.ensures n
    c.requires.most from to c.requires.new replies world first (c.the_count_is_recorded.ensures c.replay.new.device) in
    told replies world first whole.0 refl
    (gets_as (g.K.Sink.state c.args.sink.now) (g.K.Sink.state c.put_all.new.sink) (c.as_bytes.ensures.value ∙ c.in_ok-text.ensures ∙ ap (counted_text n) c.deref-3.ensures.value ∙ whole.1)
    c.in-Ok.ensures.whole)
