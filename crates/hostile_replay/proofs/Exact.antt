-- Where nobody else has written, no tampering is named, and queries tell of just the documents that are held.
use Rattle.std.proofs.Common.{subst, arith}
use Rattle.cell_types.specs.declared.refusal.Evidence.{Evidence}
use Rattle.cell_types.specs.declared.refusal.Refusal.TheVariants as refusals
use Rattle.worm_memory.specs.Memory.{Memory}
use Rattle.hostile_replay.specs.Headline.{IsDoneQuery, IsUndisturbed, ToldIsExact}
use Rattle.hostile_replay.specs.Steadily.{CommandsAreWhole, IsCommand}
use Rattle.hostile_replay.specs.Turns.{Turns}
use Rattle.script_events.specs.declared.event.Event.{Event}
use Rattle.script_events.specs.declared.event.Event.TheVariants as event
use Rattle.script_replies.specs.declared.reply.Reply.{Reply}
use Rattle.script_replies.specs.declared.reply.Reply.TheVariants as reply
use Rattle.hostile_replay.proofs.Along.{along, split, turn_goes}
use Rattle.hostile_replay.proofs.HeldIngests.{stands_from, whole_turn}

-- a query is a command
query_is_command : (e : Event) (r : Reply) → IsDoneQuery e r → IsCommand e
query_is_command (event.Find terms plan) r done = tt
query_is_command (event.Lookup id plan) r done = tt
query_is_command (event.Format slots lists version plan) r done = tt
query_is_command (event.Ingest id stamp body plan) r done = tt
query_is_command (event.Audit plan) r done = tt
query_is_command (event.Recover plan) r done = tt
query_is_command (event.Foreign at value) r done = absurd done
query_is_command (event.Crash keep) r done = absurd done

-- and what names tampering is one
alarm_is_command : (e : Event) (evidence : Evidence) (old new : Memory)
    → Turns e (reply.Refused (refusals.Tampered evidence)) old new → IsCommand e
alarm_is_command (event.Foreign at value) evidence old new t = absurd t
alarm_is_command (event.Crash keep) evidence old new t = absurd t
alarm_is_command e evidence old new t = tt

pub told_exact : CommandsAreWhole → ToldIsExact
told_exact whole = record {
  unnamed = λ from to before after t e device new leads alone named.
      let s = split from to before after t leads in
      let first = along from before t.old device s.before in
      let goes = turn_goes t.event t.reply t.old t.new first.1 s.turns in
      let here : IsUndisturbed t.old = omega (arith, goes.foreign_writes, alone) in
      let stands = stands_from whole from before t.old device new s.before here in
      let turned = subst (λ (r : Reply). Turns t.event r t.old t.new) named s.turns in
      (whole_turn whole t.old t.new first.1 s.device alone stands t.event t.reply
      (alarm_is_command t.event e t.old t.new turned) s.turns).no_alarm e named;
  exact = λ from to before after t device new leads alone done.
      let s = split from to before after t leads in
      let first = along from before t.old device s.before in
      let goes = turn_goes t.event t.reply t.old t.new first.1 s.turns in
      let here : IsUndisturbed t.old = omega (arith, goes.foreign_writes, alone) in
      let stands = stands_from whole from before t.old device new s.before here in
      let w = whole_turn whole t.old t.new first.1 s.device alone stands t.event t.reply
      (query_is_command t.event t.reply done) s.turns in
      let told = w.tells done stands.image.documents stands.image.held in
      (stands.image.documents, stands.image.held, told.0, told.1);
}
