-- Where no event lets others write, nobody does; and where nothing befalls the events, no call fails.
use Rattle.std.proofs.Common.{◌≡◌, ◌||◌, ℕ, List, [], ◌∷◌, ◌++◌, map, get_or, Option, suc, refl, sym, ap, subst, ◌∙◌, arith}
use Rattle.std.specs.Prelude.{⊤}
use Rattle.std.specs.List.{All, list_any}
use Rattle.std.proofs.lemmas.List.{append_assoc, append-nil, map-append}
use Rattle.std.proofs.lemmas.List.Elements.{All-cons, All-nil}
use Rattle.cell_types.specs.declared.refusal.Refusal.TheVariants as refusals
use Rattle.volume_meaning.specs.Documents.{Document}
use Rattle.tamper_rules.specs.Settling.{Held}
use Rattle.worm_device.specs.Counts.{IsStill, Rose}
use Rattle.worm_device.specs.State.{DeviceState, IsDevice}
use Rattle.worm_memory.specs.Memory.{Memory, device_of, mark_of}
use Rattle.worm_memory.specs.Plans.{CommandPlan, is_due, is_reached, last_faults, last_foreign_writes, may_be_written, may_fail, may_stop}
use Rattle.worm_memory.specs.declared.mark.Mark.{Mark}
use Rattle.worm_memory.specs.declared.moment.Moment.{Moment}
use Rattle.worm_memory.proofs.Accounts.{faults_append, foreign_writes_append}
use Rattle.script_events.specs.declared.event.Event.{Event}
use Rattle.script_events.specs.declared.event.Event.TheVariants as event
use Rattle.script_events.specs.declared.event.Schedule.{Schedule}
use Rattle.script_events.specs.declared.event.Timed.{Timed}
use Rattle.script_replies.specs.declared.reply.Reply.{Reply}
use Rattle.script_replies.specs.declared.reply.Reply.TheVariants as reply
use Rattle.script_replies.specs.Beginnings.{planned_of}
use Rattle.hostile_replay.specs.Completeness.{CommandsComplete}
use Rattle.hostile_replay.specs.Headline.{ComeFrom, IsNew, IsUndisturbed, MayGive, MayGiveNone, cut_short, followed, nothing_came, none, stored}
use Rattle.hostile_replay.specs.Steadily.{CommandsAreWhole, IsCommand, begun_by}
use Rattle.hostile_replay.specs.Turns.{CarriesOut, Turns}
use Rattle.hostile_replay.specs.Undisturbed.{IsDoneReply, IsLeftPlain, IsPlain, IsPlainTurn, IsUnshared, PlainIsDone, PlansNothing, TurnsAreMarked, UnsharedIsAlone, events_of}
use Rattle.hostile_replay.specs.Worlds.{AreInTurn, Turn, acknowledged, acknowledged_by}
use Rattle.hostile_replay.proofs.Along.{along, split}
use Rattle.hostile_replay.proofs.Reading.{IsDoneSo, done_so}
use Rattle.hostile_replay.proofs.HeldIngests.{begun_by_device, begun_by_steady, stands_from, whole_turn}

-- what holds of each holds of the first, of the rest, and of those before others
pub all_first : {A : Type 0} (P : A → Type 0) (x : A) (xs : List A) → All P (x ∷ xs) → P x
all_first P x xs all = all 0 x (omega arith)

pub all_rest : {A : Type 0} (P : A → Type 0) (x : A) (xs : List A) → All P (x ∷ xs) → All P xs
all_rest P x xs all = λ k d below. all (suc k) d (omega (arith, below))

pub all_left : {A : Type 0} (P : A → Type 0) (xs ys : List A) → All P (xs ++ ys) → All P xs
all_left P [] ys all = All-nil P
all_left P (x ∷ xs) ys all =
    All-cons P x xs (all_first P x (xs ++ ys) all) (all_left P xs ys (all_rest P x (xs ++ ys) all))

pub all_at : {A : Type 0} (P : A → Type 0) (xs : List A) (y : A) (ys : List A) → All P (xs ++ y ∷ ys) → P y
all_at P [] y ys all = all_first P y ys all
all_at P (x ∷ xs) y ys all = all_at P xs y ys (all_rest P x (xs ++ y ∷ ys) all)

all_more : {A : Type 0} (P Q : A → Type 0) → ((x : A) → P x → Q x) → (xs : List A) → All P xs → All Q xs
all_more P Q each xs all = λ k d below. each (get_or xs k d) (all k d below)

-- A command that goes by its plan, where nobody else is to write: the count stays.
unshared_count : {plan : Schedule} {old new : Memory} {Answers : DeviceState → DeviceState → Type 0}
    → CarriesOut plan old new Answers → plan.foreign ≡ [] → new.foreign_writes ≡ old.foreign_writes
unshared_count {plan} {old} {new} c alone =
    c.by_plan.keeps.unwritten
    (ap (λ (p : CommandPlan). may_be_written p new.steps new.calls) c.by_plan.plan_is
    ∙ ap (λ (l : List Timed). list_any (is_due new.steps new.calls) (map planned_of l)) alone)
    ∙ ap last_foreign_writes c.by_plan.marks ∙ foreign_writes_append 0 old.marks (mark_of old)

-- and where nothing is planned that of faults too
plain_faults : {plan : Schedule} {old new : Memory} {Answers : DeviceState → DeviceState → Type 0}
    → CarriesOut plan old new Answers → PlansNothing plan → new.faults ≡ old.faults
plain_faults {plan} {old} {new} c plain =
    c.by_plan.keeps.none
    (ap (λ (p : CommandPlan). may_fail p new.steps new.calls) c.by_plan.plan_is
    ∙ ap (λ (o : Option Moment). may_stop o new.steps new.calls
    || list_any (is_reached new.steps new.calls) plan.fail) plain.stop
    ∙ ap (λ (l : List Moment). list_any (is_reached new.steps new.calls) l) plain.fail)
    ∙ ap last_faults c.by_plan.marks ∙ faults_append 0 old.marks (mark_of old)

pub turn_unshared : (e : Event) (r : Reply) (old new : Memory) → IsUnshared e → Turns e r old new
    → new.foreign_writes ≡ old.foreign_writes
turn_unshared (event.Format slots lists version plan) r old new alone t = unshared_count t alone
turn_unshared (event.Ingest id stamp body plan) r old new alone t = unshared_count t alone
turn_unshared (event.Find terms plan) r old new alone t = unshared_count t alone
turn_unshared (event.Lookup id plan) r old new alone t = unshared_count t alone
turn_unshared (event.Audit plan) r old new alone t = unshared_count t alone
turn_unshared (event.Recover plan) r old new alone t = unshared_count t alone
turn_unshared (event.Foreign at cell) r old new alone t = absurd alone
turn_unshared (event.Crash keep) (reply.Crashed crash) old new alone t =
    ap (λ (m : Memory). m.foreign_writes) t.recorded
turn_unshared (event.Crash keep) r old new alone t = absurd t

pub turn_unfailed : (e : Event) (r : Reply) (old new : Memory) → IsPlain e → Turns e r old new
    → new.faults ≡ old.faults
turn_unfailed (event.Format slots lists version plan) r old new plain t = plain_faults t plain
turn_unfailed (event.Ingest id stamp body plan) r old new plain t = plain_faults t plain
turn_unfailed (event.Find terms plan) r old new plain t = plain_faults t plain
turn_unfailed (event.Lookup id plan) r old new plain t = plain_faults t plain
turn_unfailed (event.Audit plan) r old new plain t = plain_faults t plain
turn_unfailed (event.Recover plan) r old new plain t = plain_faults t plain
turn_unfailed (event.Foreign at cell) r old new plain t = absurd plain
turn_unfailed (event.Crash keep) r old new plain t = absurd plain

plain_unshared : (e : Event) → IsPlain e → IsUnshared e
plain_unshared (event.Format slots lists version plan) plain = plain.foreign
plain_unshared (event.Ingest id stamp body plan) plain = plain.foreign
plain_unshared (event.Find terms plan) plain = plain.foreign
plain_unshared (event.Lookup id plan) plain = plain.foreign
plain_unshared (event.Audit plan) plain = plain.foreign
plain_unshared (event.Recover plan) plain = plain.foreign
plain_unshared (event.Foreign at cell) plain = absurd plain
plain_unshared (event.Crash keep) plain = absurd plain

plain_command : (e : Event) → IsPlain e → IsCommand e
plain_command (event.Format slots lists version plan) plain = tt
plain_command (event.Ingest id stamp body plan) plain = tt
plain_command (event.Find terms plan) plain = tt
plain_command (event.Lookup id plan) plain = tt
plain_command (event.Audit plan) plain = tt
plain_command (event.Recover plan) plain = tt
plain_command (event.Foreign at cell) plain = absurd plain
plain_command (event.Crash keep) plain = absurd plain

-- along the turns
unshared_along : (from : Memory) (turns : List Turn) (to : Memory) → AreInTurn from turns to
    → All IsUnshared (events_of turns) → to.foreign_writes ≡ from.foreign_writes
unshared_along from [] to leads all = ap (λ (m : Memory). m.foreign_writes) leads
unshared_along from (t ∷ turns) to leads all =
    unshared_along t.new turns to leads.3 (all_rest IsUnshared t.event (events_of turns) all)
    ∙ turn_unshared t.event t.reply t.old t.new (all_first IsUnshared t.event (events_of turns) all) leads.2
    ∙ ap (λ (m : Memory). m.foreign_writes) leads.0

unfailed_along : (from : Memory) (turns : List Turn) (to : Memory) → AreInTurn from turns to
    → All IsPlain (events_of turns) → to.faults ≡ from.faults
unfailed_along from [] to leads all = ap (λ (m : Memory). m.faults) leads
unfailed_along from (t ∷ turns) to leads all =
    unfailed_along t.new turns to leads.3 (all_rest IsPlain t.event (events_of turns) all)
    ∙ turn_unfailed t.event t.reply t.old t.new (all_first IsPlain t.event (events_of turns) all) leads.2
    ∙ ap (λ (m : Memory). m.faults) leads.0

pub unshared_alone : CommandsAreWhole → UnsharedIsAlone
unshared_alone whole from turns to device new leads all =
    let alone : IsUndisturbed to = unshared_along from turns to leads all ∙ new.undisturbed in
    let stands = stands_from whole from turns to device new leads alone in
    record {
      undisturbed = alone;
      steady = stands.steady;
      held = record { documents = stands.image.documents; held = stands.image.held; come = stands.image.come };
    }

-- no ingest was cut short
abbrev IsUncut : Event → Reply → Type 0
IsUncut (event.Ingest id stamp body plan) (reply.Refused refusals.DeviceFault) = ⊥
IsUncut e r = ⊤

abbrev AreUncut : List Turn → Type 0
AreUncut [] = ⊤
AreUncut (t ∷ turns) = IsUncut t.event t.reply × AreUncut turns

-- so each gave its document just where it was acknowledged
none_acknowledged : (e : Event) (r : Reply) → MayGiveNone e r → [] ≡ acknowledged_by e r
none_acknowledged (event.Ingest id stamp body plan) (reply.Acknowledged n) gives = absurd gives
none_acknowledged (event.Ingest id stamp body plan) r gives = refl
none_acknowledged e r gives = refl

given_is : (e : Event) (r : Reply) (given : List Document) → MayGive e r given → IsUncut e r
    → given ≡ acknowledged_by e r
given_is e r given (stored id stamp body plan n) uncut = refl
given_is e r given (cut_short id stamp body plan n) uncut = absurd uncut
given_is e r given (none f s gives) uncut = none_acknowledged f s gives

acknowledged_then : (turns : List Turn) (t : Turn)
    → acknowledged (turns ++ t ∷ []) ≡ acknowledged turns ++ acknowledged_by t.event t.reply
acknowledged_then [] t = append-nil (acknowledged_by t.event t.reply)
acknowledged_then (s ∷ turns) t =
    ap (λ (l : List Document). acknowledged_by s.event s.reply ++ l) (acknowledged_then turns t)
    ∙ sym (append_assoc (acknowledged_by s.event s.reply) (acknowledged turns) (acknowledged_by t.event t.reply))

uncut_parts : (turns : List Turn) (t : Turn) → AreUncut (turns ++ t ∷ []) → AreUncut turns × IsUncut t.event t.reply
uncut_parts [] t uncut = (tt, uncut.0)
uncut_parts (s ∷ turns) t uncut = let rest = uncut_parts turns t uncut.1 in ((uncut.0, rest.0), rest.1)

come_acknowledged : (turns : List Turn) (documents : List Document) → ComeFrom turns documents → AreUncut turns
    → documents ≡ acknowledged turns
come_acknowledged turns documents nothing_came uncut = refl
come_acknowledged turns documents (followed before kept t given come gives) uncut =
    let parts = uncut_parts before t uncut in
    ap (λ (l : List Document). l ++ given) (come_acknowledged before kept come parts.0)
    ∙ ap (λ (l : List Document). acknowledged before ++ l) (given_is t.event t.reply given gives parts.1)
    ∙ sym (acknowledged_then before t)

-- an ingest in which no call fails is not refused for a fault of the device
uncut_turn : (e : Event) (r : Reply) (old new : Memory) → old.faults ≡ 0 → new.faults ≡ old.faults
    → Turns e r old new → IsUncut e r
uncut_turn (event.Ingest id stamp body plan) (reply.Refused refusals.DeviceFault) old new unfailed same t =
    absurd (omega (arith, unfailed, same, t.answers.ends))
uncut_turn (event.Ingest id stamp body plan) (reply.Refused refusal) old new unfailed same t = tt
uncut_turn (event.Ingest id stamp body plan) r old new unfailed same t = tt
uncut_turn e r old new unfailed same t = tt

uncut_along : (from : Memory) (turns : List Turn) (to : Memory) → from.faults ≡ 0 → AreInTurn from turns to
    → All IsPlain (events_of turns) → AreUncut turns
uncut_along from [] to unfailed leads all = tt
uncut_along from (t ∷ turns) to unfailed leads all =
    let same = turn_unfailed t.event t.reply t.old t.new (all_first IsPlain t.event (events_of turns) all) leads.2 in
    let before : t.old.faults ≡ 0 = ap (λ (m : Memory). m.faults) leads.0 ∙ unfailed in (
      uncut_turn t.event t.reply t.old t.new before same leads.2,
      uncut_along t.new turns to (same ∙ before) leads.3 (all_rest IsPlain t.event (events_of turns) all),
    )

-- a beginning reads nothing
begun_reads : (e : Event) (m : Memory) → (device_of (begun_by e m)).reads ≡ m.reads
begun_reads (event.Format slots lists version plan) m = refl
begun_reads (event.Ingest id stamp body plan) m = refl
begun_reads (event.Find terms plan) m = refl
begun_reads (event.Lookup id plan) m = refl
begun_reads (event.Audit plan) m = refl
begun_reads (event.Recover plan) m = refl
begun_reads (event.Foreign at cell) m = refl
begun_reads (event.Crash keep) m = refl

module _ (whole : CommandsAreWhole) (complete : CommandsComplete) where
  plain_left : (from : Memory) (turns : List Turn) (to : Memory) → IsDevice (device_of from) → IsNew from
      → from.faults ≡ 0 → AreInTurn from turns to → All IsPlain (events_of turns) → IsLeftPlain turns to
  plain_left from turns to device new unfailed leads all =
      let left = unshared_alone whole from turns to device new leads
      (all_more IsPlain IsUnshared plain_unshared (events_of turns) all) in
      record {
        undisturbed = left.undisturbed;
        unfailed = unfailed_along from turns to leads all ∙ unfailed;
        steady = left.steady;
        held = subst (λ (l : List Document). Held to.cells (device_of to).image l)
            (come_acknowledged turns left.held.documents left.held.come (uncut_along from turns to unfailed leads all))
            left.held.held;
      }

  plain_turn : (from to : Memory) (before after : List Turn) (t : Turn) → IsDevice (device_of from) → IsNew from
      → from.faults ≡ 0 → AreInTurn from (before ++ t ∷ after) to → All IsPlain (events_of (before ++ t ∷ after))
      → IsPlainTurn t
  plain_turn from to before after t device new unfailed leads all =
      let parts = subst (All IsPlain) (map-append (λ (u : Turn). u.event) before (t ∷ after)) all in
      let s = split from to before after t leads in
      let first = along from before t.old device s.before in
      let here = all_left IsPlain (events_of before) (events_of (t ∷ after)) parts in
      let plain : IsPlain t.event = all_at IsPlain (events_of before) t.event (events_of after) parts in
      let left = plain_left from before t.old device new unfailed s.before here in
      let count = turn_unshared t.event t.reply t.old t.new (plain_unshared t.event plain) s.turns in
      let faults = turn_unfailed t.event t.reply t.old t.new plain s.turns in
      let stands = stands_from whole from before t.old device new s.before left.undisturbed in
      let alone : IsUndisturbed t.new = count ∙ left.undisturbed in
      let still : IsStill t.old.foreign_writes t.new.foreign_writes =
      record { same = count; below = omega (arith, alone) } in
      let still_faults : IsStill t.old.faults t.new.faults =
      record { same = faults; below = omega (arith, faults, left.unfailed) } in
      let begun_device = begun_by_device t.event t.old first.1 in
      let begun_steady = begun_by_steady t.event t.old stands.steady in
      let command = plain_command t.event plain in
      let whole_here = whole_turn whole t.old t.new first.1 s.device alone stands t.event t.reply command s.turns in
      let so : IsDoneReply t.reply → IsDoneSo (device_of (begun_by t.event t.old)) (device_of t.new) =
      done_so t.event t.reply t.old t.new begun_device s.device begun_steady still command s.turns whole_here
      (acknowledged before) left.held in
      record {
        device = begun_device;
        device_new = s.device;
        steady = begun_steady;
        whole = whole_here;
        done = complete t.event t.reply t.old t.new begun_device s.device begun_steady still still_faults s.turns;
        read = λ done. subst (λ (n : ℕ). Rose n t.new.reads) (begun_reads t.event t.old) (so done).read;
        settled = λ done. (so done).settled;
      }

  pub plain_done : PlainIsDone
  plain_done = record { left = plain_left; turn = plain_turn }

-- each turn leaves a mark
turn_marks : (e : Event) (r : Reply) (old new : Memory) → Turns e r old new → new.marks ≡ old.marks ++ mark_of old ∷ []
turn_marks (event.Format slots lists version plan) r old new t = t.by_plan.marks
turn_marks (event.Ingest id stamp body plan) r old new t = t.by_plan.marks
turn_marks (event.Find terms plan) r old new t = t.by_plan.marks
turn_marks (event.Lookup id plan) r old new t = t.by_plan.marks
turn_marks (event.Audit plan) r old new t = t.by_plan.marks
turn_marks (event.Recover plan) r old new t = t.by_plan.marks
turn_marks (event.Foreign at cell) reply.ForeignDone old new t = ap (λ (m : Memory). m.marks) t.1
turn_marks (event.Foreign at cell) (reply.ForeignTaken found) old new t = ap (λ (m : Memory). m.marks) t.1
turn_marks (event.Foreign at cell) r old new t = absurd t
turn_marks (event.Crash keep) (reply.Crashed crash) old new t = ap (λ (m : Memory). m.marks) t.recorded
turn_marks (event.Crash keep) r old new t = absurd t

pub turns_marked : TurnsAreMarked
turns_marked from [] to leads = ap (λ (m : Memory). m.marks) leads ∙ sym (append-nil from.marks)
turns_marked from (t ∷ turns) to leads =
    turns_marked t.new turns to leads.3
    ∙ ap (λ (l : List Mark). l ++ map (λ (u : Turn). mark_of u.old) turns)
    (turn_marks t.event t.reply t.old t.new leads.2 ∙ ap (λ (m : Memory). m.marks ++ mark_of t.old ∷ []) leads.0)
    ∙ append_assoc from.marks (mark_of t.old ∷ []) (map (λ (u : Turn). mark_of u.old) turns)
