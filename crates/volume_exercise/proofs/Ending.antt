-- Where an event of the exercise was refused, the first refusal is want of memory, or that a path is full.
use Rattle.std.proofs.Common.{◌≡◌, ◌≤◌, ◌<◌, ◌+◌, ◌*◌, ◌⊎◌, ⊎_elim, inl, inr, ℕ, suc, zero, List, [], ◌∷◌, ◌++◌, length, map, Some, None, refl, sym, ap, ◌∙◌, subst, arith}
use Rattle.std.proofs.lemmas.List.{append_assoc, map-append}
use Rattle.std.proofs.lemmas.List.Elements.{All-append, Contains-append_left}
use Rattle.std.proofs.lemmas.Option.{none-some}
use Rattle.std.specs.Prelude.{Contains, ⊤}
use Rattle.std.specs.List.{All, range_with_len}
use Rattle.cell_types.specs.Layout.{IsLayout, Layout, pool_at, reserve_at}
use Rattle.cell_types.specs.declared.refusal.Refusal.{Refusal}
use Rattle.cell_types.specs.declared.refusal.Refusal.TheVariants as refusals
use Rattle.volume_meaning.specs.Documents.{Document}
use Rattle.volume_meaning.specs.Volumes.{IsVolume}
use Rattle.volume_meaning.proofs.Extending.{volume_on}
use Rattle.tamper_rules.specs.Settling.{Held, Settled}
use Rattle.crash_laws.specs.SettlingSteadiness.{IsSteady}
use Rattle.worm_device.specs.Counts.{IsStill}
use Rattle.worm_device.specs.State.{IsDevice}
use Rattle.worm_device.proofs.Images.{extends_then}
use Rattle.worm_memory.specs.Memory.{Memory, device_of}
use Rattle.worm_memory.specs.Worlds.{foreign_writes_in, world}
use Rattle.worm_memory.specs.declared.change.Change.{Change}
use Rattle.crash_laws.proofs.Alarms.{none_named}
use Rattle.command_laws.specs.Begins.{BeginsSteady}
use Rattle.script_events.specs.declared.event.Event.{Event}
use Rattle.script_events.specs.declared.event.Event.TheVariants as event
use Rattle.script_replies.specs.declared.reply.Reply.{Reply}
use Rattle.script_replies.specs.declared.reply.Reply.TheVariants as reply
use Rattle.script_replies.specs.Beginnings.{begun_with}
use Rattle.hostile_replay.specs.Completeness.{IsDoneWherePossible, IsFormattedReply, IsFoundReply, IsLookedUpReply, IsSoundReply}
use Rattle.hostile_replay.specs.Headline.{AcknowledgedAreReturned, IsNew, Returns}
use Rattle.hostile_replay.specs.Steadily.{IsWholeTurn, begun_by}
use Rattle.hostile_replay.specs.Turns.{Turns, event_layout}
use Rattle.hostile_replay.specs.Undisturbed.{IsDoneReply, IsLeftPlain, IsPlain, IsPlainTurn, PlainIsDone, events_of}
use Rattle.hostile_replay.specs.Worlds.{AreInTurn, IsWorld, Turn, acknowledged, acknowledged_by}
use Rattle.hostile_replay.proofs.Along.{along, split}
use Rattle.hostile_replay.proofs.Undisturbed.{all_at, all_left, turn_unfailed, turn_unshared}
use Rattle.volume_exercise.specs.Documents.{body_of, identifier_of}
use Rattle.volume_exercise.specs.Events as events
use Rattle.volume_exercise.specs.Events.{audit_event, exercise_events, format_event, ingest_event, look_up_event, no_schedule, pair_event, single_event}
use Rattle.volume_exercise.specs.Exercising.{IsUntroubled, exercise_device}
use Rattle.volume_exercise.specs.Refusing.{IsOfExercise}
use Rattle.volume_exercise.specs.Tallies.{first_refusal}
use Rattle.volume_exercise.proofs.EventsOn.{all_one, each_of, exercise_events_plain, plain_schedule}
use Rattle.volume_exercise.proofs.Few.{few_cells, few_postings}
use Rattle.volume_exercise.proofs.Played.{AreDone, acknowledged_both, are_turns, done_first, event_of, first_event, no_events, reply_of, rest_events, turns_first}
use Rattle.volume_exercise.proofs.Refused.{ingest_refused}
use Rattle.volume_exercise.proofs.Rowed.{AreFrom, among_from, ingested}
use Rattle.volume_exercise.proofs.Stocked.{IsStocked, one_further, stocked_more}
use Rattle.volume_exercise.proofs.Told.{IsCut, cut_all, new_device, one_format}

-- the first turn that was refused
pub record IsFirstRefused (turns : List Turn) (x : Refusal) : Type 0 where
  pub before : List Turn
  pub turn : Turn
  pub after : List Turn
  pub is : turns ≡ before ++ turn ∷ after
  pub done : AreDone before
  pub refused : turn.reply ≡ reply.Refused x

one_later : (t : Turn) (turns : List Turn) (x : Refusal) → IsDoneReply t.reply → IsFirstRefused turns x
    → IsFirstRefused (t ∷ turns) x
one_later t turns x done f = record {
  before = t ∷ f.before;
  turn = f.turn;
  after = f.after;
  is = ap (λ (l : List Turn). t ∷ l) f.is;
  done = (done, f.done);
  refused = f.refused;
}

pub first_refused : (turns : List Turn) (x : Refusal) → first_refusal (map reply_of turns) ≡ Some x → IsFirstRefused turns x
first_refused [] x is = absurd cc
first_refused (t ∷ turns) x is = by_reply t.reply refl is (first_refused turns x)
  where
    done_by : (r : Reply) → t.reply ≡ r → IsDoneReply r → IsDoneReply t.reply
    done_by r same done = subst IsDoneReply (sym same) done

    by_reply : (r : Reply) → t.reply ≡ r → first_refusal (r ∷ map reply_of turns) ≡ Some x
        → (first_refusal (map reply_of turns) ≡ Some x → IsFirstRefused turns x) → IsFirstRefused (t ∷ turns) x
    by_reply (reply.Refused y) same here rest =
        let one : y ≡ x = cc in
        record {
          before = [];
          turn = t;
          after = turns;
          is = refl;
          done = tt;
          refused = same ∙ ap reply.Refused one;
        }
    by_reply reply.Formatted same here rest = one_later t turns x (done_by reply.Formatted same tt) (rest here)
    by_reply (reply.Acknowledged n) same here rest = one_later t turns x (done_by (reply.Acknowledged n) same tt) (rest here)
    by_reply (reply.Found matches) same here rest = one_later t turns x (done_by (reply.Found matches) same tt) (rest here)
    by_reply (reply.Body slot body) same here rest =
        one_later t turns x (done_by (reply.Body slot body) same tt) (rest here)
    by_reply (reply.Sound report) same here rest = one_later t turns x (done_by (reply.Sound report) same tt) (rest here)
    by_reply (reply.Settled step) same here rest = one_later t turns x (done_by (reply.Settled step) same tt) (rest here)
    by_reply reply.ForeignDone same here rest = one_later t turns x (done_by reply.ForeignDone same tt) (rest here)
    by_reply (reply.ForeignTaken found) same here rest =
        one_later t turns x (done_by (reply.ForeignTaken found) same tt) (rest here)
    by_reply (reply.Crashed crash) same here rest = one_later t turns x (done_by (reply.Crashed crash) same tt) (rest here)

-- a turn of two rows is one of the first, or of the second
head_of : (x y : Turn) (xs ys : List Turn) → x ∷ xs ≡ y ∷ ys → x ≡ y
head_of x y xs ys is = cc

tail_of : (x y : Turn) (xs ys : List Turn) → x ∷ xs ≡ y ∷ ys → xs ≡ ys
tail_of x y xs ys is = cc

which_part : (a b before : List Turn) (t : Turn) (after : List Turn) → a ++ b ≡ before ++ t ∷ after
    → ((mid : List Turn) × (a ≡ before ++ t ∷ mid))
    ⊎ ((pre : List Turn) × (before ≡ a ++ pre) × (b ≡ pre ++ t ∷ after))
which_part [] b before t after is = inr (before, refl, is)
which_part (x ∷ a) b [] t after is = inl (a, ap (λ (y : Turn). y ∷ a) (head_of x t (a ++ b) after is))
which_part (x ∷ a) b (y ∷ before) t after is =
    let same = head_of x y (a ++ b) (before ++ t ∷ after) is in
    ⊎_elim
    (λ (l : (mid : List Turn) × (a ≡ before ++ t ∷ mid)). inl (l.0, ap (λ (z : Turn). z ∷ a) same ∙ ap (λ (r : List Turn). y ∷ r) l.1))
    (λ (r : (pre : List Turn) × (before ≡ a ++ pre) × (b ≡ pre ++ t ∷ after)).
    inr (r.0, ap (λ (z : Turn). z ∷ before) (sym same) ∙ ap (λ (l : List Turn). x ∷ l) r.1, r.2))
    (which_part a b before t after (tail_of x y (a ++ b) (before ++ t ∷ after) is))

-- where an ingest stands among those of the exercise
ingest_at : (k m : ℕ) (pre : List Turn) (t : Turn) (mid : List Turn)
    → map event_of (pre ++ t ∷ mid) ≡ map ingest_event (range_with_len k m)
    → (t.event ≡ ingest_event (k + length pre)) × (map event_of pre ≡ map ingest_event (range_with_len k (length pre)))
    × (length pre < m)
ingest_at k zero [] t mid is = no_events t.event (map event_of mid) (sym is)
ingest_at k zero (u ∷ pre) t mid is = no_events u.event (map event_of (pre ++ t ∷ mid)) (sym is)
ingest_at k (suc m) [] t mid is =
    let es = map ingest_event (range_with_len (k + 1) m) in
    let same : k ≡ k + 0 = omega arith in
    (first_event t mid (ingest_event k) es is ∙ ap ingest_event same, refl, omega arith)
ingest_at k (suc m) (u ∷ pre) t mid is =
    let es = map ingest_event (range_with_len (k + 1) m) in
    let here = first_event u (pre ++ t ∷ mid) (ingest_event k) es is in
    let rest = ingest_at (k + 1) m pre t mid (rest_events u (pre ++ t ∷ mid) (ingest_event k) es is) in
    let same : k + 1 + length pre ≡ k + suc (length pre) = omega arith in (
      rest.0 ∙ ap ingest_event same,
      ap (λ (e : Event). e ∷ map event_of pre) here ∙ ap (λ (l : List Event). ingest_event k ∷ l) rest.1,
      omega (arith, rest.2),
    )

-- what an event behind the ingests is
abbrev IsQuery : ℕ → Event → Type 0
IsQuery n (event.Find terms plan) = ⊤
IsQuery n (event.Lookup id plan) = (j : ℕ) × (j < n) × (id ≡ identifier_of j)
IsQuery n (event.Audit plan) = ⊤
IsQuery n e = ⊥

queries : (n : ℕ) → All (IsQuery n) (events.singles ++ (events.pairs ++ (events.look_ups n ++ audit_event ∷ [])))
queries n =
    All-append (IsQuery n) events.singles (events.pairs ++ (events.look_ups n ++ audit_event ∷ []))
    (each_of (IsQuery n) single_event 200 (λ k below. tt))
    (All-append (IsQuery n) events.pairs (events.look_ups n ++ audit_event ∷ [])
    (each_of (IsQuery n) pair_event 199 (λ k below. tt))
    (All-append (IsQuery n) (events.look_ups n) (audit_event ∷ [])
    (each_of (IsQuery n) look_up_event n (λ i below. (i, below, refl)))
    (all_one (IsQuery n) audit_event tt)))

found_only : (x : Refusal) → IsFoundReply (reply.Refused x) → IsOfExercise x
found_only refusals.NoMemory is = tt
found_only x is = absurd is

sound_only : (x : Refusal) → IsSoundReply (reply.Refused x) → IsOfExercise x
sound_only refusals.NoMemory is = tt
sound_only x is = absurd is

looked_only : (x : Refusal) → IsLookedUpReply (reply.Refused x) → (x ≡ refusals.Absent → ⊥) → IsOfExercise x
looked_only refusals.NoMemory is not = tt
looked_only refusals.Absent is not = absurd (not refl)
looked_only x is not = absurd is

query_refused : (n : ℕ) (e : Event) (x : Refusal) (old : Memory) (g : Layout) (documents : List Document) → IsQuery n e
    → IsVolume old.cells (device_of old).image g
    → ((j : ℕ) → j < n → (d : Document) × Contains documents d × (d.id ≡ identifier_of j))
    → Returns documents e (reply.Refused x) (device_of old)
    → IsDoneWherePossible e (reply.Refused x) (device_of (begun_by e old)) → IsOfExercise x
query_refused n (event.Find terms plan) x old g documents query volume stored returns done =
    found_only x (done g (record { volume = volume.volume; size = volume.size }))
query_refused n (event.Lookup id plan) x old g documents query volume stored returns done =
    looked_only x (done g (record { volume = volume.volume; size = volume.size }))
    (λ absent. let d = stored query.0 query.1 in
    subst (λ (y : Refusal). Returns documents (event.Lookup id plan) (reply.Refused y) (device_of old)) absent returns
    d.0 d.1 (d.2 ∙ sym query.2))
query_refused n (event.Audit plan) x old g documents query volume stored returns done =
    sound_only x (done g (record { volume = volume.volume; size = volume.size }))
query_refused n (event.Format slots lists version plan) x old g documents query volume stored returns done = absurd query
query_refused n (event.Ingest id stamp body plan) x old g documents query volume stored returns done = absurd query
query_refused n (event.Recover plan) x old g documents query volume stored returns done = absurd query
query_refused n (event.Foreign at cell) x old g documents query volume stored returns done = absurd query
query_refused n (event.Crash keep) x old g documents query volume stored returns done = absurd query

-- a format is not refused
not_formatted : (x : Refusal) → IsFormattedReply (reply.Refused x) → ⊥
not_formatted x is = is

formatted_done : (r : Reply) → IsFormattedReply r → IsDoneReply r
formatted_done reply.Formatted is = tt
formatted_done r is = absurd is

-- behind a format no slot is taken
module _ (n : ℕ) (some : 1 ≤ n) (most : n ≤ 2000) (old new : Memory) (blank : old.changes ≡ [])
    (turned : Turns (format_event n) reply.Formatted old new) (still : IsStill old.foreign_writes new.foreign_writes)
    (settled : Settled new.cells (device_of new).image)
    (volume : IsVolume new.cells (device_of new).image (event_layout n 16 1 old.cells)) where
  free_cell : (cell : ℕ) → 1 ≤ cell → (device_of new).image cell ≡ None
  free_cell cell behind = ⊎_elim
      (λ (same : (device_of new).image cell ≡ (device_of old).image cell).
      same ∙ ap (λ (l : List Change). (world l).image cell) blank)
      (λ (w : (cell ≡ 0) × ((device_of old).image cell ≡ None) × ((device_of new).image cell ≡ Some _)).
      absurd (omega (arith, behind, w.0)))
      (turned.answers.only still cell)

  pub stocked_first : IsStocked (event_layout n 16 1 old.cells) 0 (device_of new)
  stocked_first = record {
    volume = volume;
    settled = settled;
    horizon = record {
      most = omega arith;
      below = λ m is. absurd (omega (arith, is));
      free = λ less. free_cell (reserve_at 0) (omega arith);
    };
    edge = λ at e. ⊎_elim
        (λ (first : (e.u ≡ 0) × (at ≡ pool_at (event_layout n 16 1 old.cells))). omega (arith, first.1))
        (λ w. absurd (none-some w.4.reserve.cell
        (sym (free_cell (reserve_at w.0) (omega arith)) ∙ w.4.reserve.stands)))
        e.ends;
  }

module _ (plain : PlainIsDone) (returned : AcknowledgedAreReturned) (n : ℕ) (some : 1 ≤ n) (most : n ≤ 2000)
    (from to : Memory) (is_new : from ≡ exercise_device n) (turns : List Turn) (c : IsCut n turns)
    (events_are : map event_of turns ≡ exercise_events n) (in_turn : AreInTurn from turns to) where
  abbrev tail_one : List Turn
  tail_one = c.singles ++ (c.pairs ++ (c.looked ++ c.last ∷ []))

  abbrev rest : List Turn
  rest = c.taken ++ tail_one

  abbrev all_turns : List Turn
  all_turns = c.format ∷ rest

  leads : AreInTurn from all_turns to
  leads = subst (λ (l : List Turn). AreInTurn from l to) c.is in_turn

  all : All IsPlain (events_of all_turns)
  all = subst (All IsPlain) (sym events_are ∙ ap (λ (l : List Turn). map event_of l) c.is) (exercise_events_plain n)

  device : IsDevice (device_of from)
  device = subst (λ (m : Memory). IsDevice (device_of m)) (sym is_new) (new_device n most)

  new : IsNew from
  new = record {
    changes = ap (λ (m : Memory). m.changes) is_new;
    undisturbed = ap (λ (m : Memory). m.foreign_writes) is_new;
  }

  unfailed : from.faults ≡ 0
  unfailed = ap (λ (m : Memory). m.faults) is_new

  cells_are : from.cells ≡ 8192 + 5300 * n
  cells_are = ap (λ (m : Memory). m.cells) is_new

  abbrev g : Layout
  g = event_layout n 16 1 from.cells

  -- what is known at a turn of the world
  pub record IsAt (before : List Turn) (t : Turn) : Type 0 where
    pub turned : Turns t.event t.reply t.old t.new
    pub plain_turn : IsPlainTurn t
    pub left : IsLeftPlain before t.old
    pub to_here : AreInTurn from before t.old
    pub returns : Returns (acknowledged before) t.event t.reply (device_of t.old)

  here_at : (before : List Turn) (t : Turn) (after : List Turn) → all_turns ≡ before ++ t ∷ after → IsAt before t
  here_at before t after is =
      let led = subst (λ (l : List Turn). AreInTurn from l to) is leads in
      let alls = subst (λ (l : List Turn). All IsPlain (events_of l)) is all in
      let s = split from to before after t led in
      record {
        turned = s.turns;
        plain_turn = plain.turn from to before after t device new unfailed led alls;
        left = plain.left from before t.old device new unfailed s.before
            (all_left IsPlain (events_of before) (events_of (t ∷ after))
            (subst (All IsPlain) (map-append event_of before (t ∷ after)) alls));
        to_here = s.before;
        returns = returned from to before after t device led;
      }

  -- nobody else wrote in an ingest, and no call failed
  ingest_still : (k : ℕ) (before : List Turn) (t : Turn) → t.event ≡ ingest_event k → IsAt before t
      → IsStill t.old.foreign_writes t.new.foreign_writes × IsStill t.old.faults t.new.faults
  ingest_still k before t is at =
      let turned = subst (λ (e : Event). Turns e t.reply t.old t.new) is at.turned in
      let writes = turn_unshared (ingest_event k) t.reply t.old t.new refl turned in
      let faults = turn_unfailed (ingest_event k) t.reply t.old t.new plain_schedule turned in (
        record { same = writes; below = omega (arith, writes, at.left.undisturbed) },
        record { same = faults; below = omega (arith, faults, at.left.unfailed) },
      )

  -- one ingest more is acknowledged
  one_stocked : (k : ℕ) (r : Reply) (old new : Memory) → Turns (ingest_event k) r old new → IsDoneReply r
      → IsDevice (device_of (begun_with no_schedule old)) → IsDevice (device_of new) → IsStill old.foreign_writes new.foreign_writes
      → IsWholeTurn (ingest_event k) r old new → BeginsSteady (device_of (begun_with no_schedule old)) (device_of new)
      → Settled new.cells (device_of new).image → (documents : List Document) → Held old.cells (device_of old).image documents
      → IsStocked g k (device_of old) → IsStocked g (k + 1) (device_of new)
  one_stocked k (reply.Acknowledged m) old now turned done begun device_new still whole begins settled documents held stocked =
      let s = device_of (begun_with no_schedule old) in
      let t = device_of now in
      let id = identifier_of k in
      let body = body_of k in
      let more = whole.leaves.adds m refl in
      let f = one_further id body s t m begun device_new refl still begins.steady (turned.answers.ends refl)
      stocked.settled begins more documents held g stocked.volume turned.answers.comes in
      stocked_more g k id body s t
      (record { volume = stocked.volume; settled = stocked.settled; horizon = stocked.horizon; edge = stocked.edge })
      (subst (λ (c : ℕ). IsVolume c t.image g) (sym turned.answers.called.cells)
      (volume_on turned.answers.called.image stocked.volume))
      settled f (few_cells k) (few_postings g refl k f.slot f.rows f.are)
  one_stocked k (reply.Refused x) old now turned done begun device_new still whole begins settled documents held stocked = absurd done
  one_stocked k r old now turned done begun device_new still whole begins settled documents held stocked = absurd turned.answers

  stocked_then : (k : ℕ) (before : List Turn) (t : Turn) → t.event ≡ ingest_event k → IsAt before t → IsDoneReply t.reply
      → IsStocked g k (device_of t.old) → IsStocked g (k + 1) (device_of t.new)
  stocked_then k before t is at done stocked =
      let still = ingest_still k before t is at in
      one_stocked k t.reply t.old t.new (subst (λ (e : Event). Turns e t.reply t.old t.new) is at.turned) done
      (subst (λ (e : Event). IsDevice (device_of (begun_by e t.old))) is at.plain_turn.device) at.plain_turn.device_new still.0
      (subst (λ (e : Event). IsWholeTurn e t.reply t.old t.new) is at.plain_turn.whole)
      (record {
        tells = refl;
        steady = subst (λ (e : Event). IsSteady (device_of (begun_by e t.old))) is at.plain_turn.steady;
        alone = still.0;
      })
      (at.plain_turn.settled done) (acknowledged before) at.left.held stocked

  -- a row of ingests that were done
  stocked_along : (k : ℕ) (before row after : List Turn) (start end : Memory) → all_turns ≡ before ++ (row ++ after)
      → AreInTurn start row end → AreDone row → map event_of row ≡ map ingest_event (range_with_len k (length row))
      → IsStocked g k (device_of start) → IsStocked g (k + length row) (device_of end)
  stocked_along k before [] after start end is led done are stocked =
      let same : k ≡ k + 0 = omega arith in
      subst (λ (j : ℕ). IsStocked g j (device_of end)) same
      (subst (λ (m : Memory). IsStocked g k (device_of m)) (sym led) stocked)
  stocked_along k before (t ∷ row) after start end is led done are stocked =
      let es = map ingest_event (range_with_len (k + 1) (length row)) in
      let at = here_at before t (row ++ after) is in
      let more = stocked_then k before t (first_event t row (ingest_event k) es are) at done.0
      (subst (λ (m : Memory). IsStocked g k (device_of m)) (sym led.0) stocked) in
      let same : k + 1 + length row ≡ k + suc (length row) = omega arith in
      subst (λ (j : ℕ). IsStocked g j (device_of end)) same
      (stocked_along (k + 1) (before ++ t ∷ []) row after t.new end
      (is ∙ sym (append_assoc before (t ∷ []) (row ++ after))) led.3 done.1
      (rest_events t row (ingest_event k) es are) more)

  -- the format is done
  at_format : IsAt [] c.format
  at_format = here_at [] c.format rest refl

  format_turned : Turns (format_event n) c.format.reply c.format.old c.format.new
  format_turned = subst (λ (e : Event). Turns e c.format.reply c.format.old c.format.new) c.format_is at_format.turned

  format_layout : IsLayout (event_layout n 16 1 c.format.old.cells)
  format_layout =
      let cells : c.format.old.cells ≡ 8192 + 5300 * n = ap (λ (m : Memory). m.cells) leads.0 ∙ cells_are in
      record {
        some_slots = some;
        slots = omega (arith, most);
        some_lists = omega arith;
        lists = omega arith;
        cells = omega (arith, cells, most);
        some_version = omega arith;
        version = omega arith;
        pool = omega (arith, cells);
      }

  none_before : c.format.old.changes ≡ []
  none_before = ap (λ (m : Memory). m.changes) leads.0 ∙ new.changes

  format_possible : IsFormattedReply c.format.reply
  format_possible =
      subst (λ (e : Event). IsDoneWherePossible e c.format.reply (device_of (begun_by e c.format.old))) c.format_is
      at_format.plain_turn.done format_layout (λ cell. ap (λ (l : List Change). (world l).image cell) none_before)

  format_done : IsDoneReply c.format.reply
  format_done = formatted_done c.format.reply format_possible

  is_formatted : (r : Reply) → IsFormattedReply r → r ≡ reply.Formatted
  is_formatted reply.Formatted is = refl
  is_formatted r is = absurd is

  sure_volume : IsVolume c.format.new.cells (device_of c.format.new).sure g
  sure_volume = subst (λ (m : Memory). IsVolume c.format.new.cells (device_of c.format.new).sure (event_layout n 16 1 m.cells))
      leads.0 (one_format n c.format.reply c.format.old c.format.new format_turned format_done)

  volume_at : (row : List Turn) (s : Memory) → AreInTurn from (c.format ∷ row) s → IsVolume s.cells (device_of s).image g
  volume_at row s led =
      let goes = along c.format.new row s led.1 led.3 in
      volume_on (extends_then goes.0.sure goes.1.sure)
      (subst (λ (k : ℕ). IsVolume k (device_of c.format.new).sure g) (sym goes.0.cells) sure_volume)

  first_stocked : IsStocked g 0 (device_of c.format.new)
  first_stocked =
      let turned = subst (λ (r : Reply). Turns (format_event n) r c.format.old c.format.new)
      (is_formatted c.format.reply format_possible) format_turned in
      let writes = turn_unshared (format_event n) reply.Formatted c.format.old c.format.new refl turned in
      let still : IsStill c.format.old.foreign_writes c.format.new.foreign_writes =
      record { same = writes; below = omega (arith, writes, at_format.left.undisturbed) } in
      let there : IsVolume c.format.new.cells (device_of c.format.new).image g =
      volume_at [] c.format.new (leads.0, leads.1, leads.2, refl) in
      subst (λ (m : Memory). IsStocked (event_layout n 16 1 m.cells) 0 (device_of c.format.new)) leads.0
      (stocked_first n some most c.format.old c.format.new none_before turned still
      (at_format.plain_turn.settled format_done)
      (subst (λ (m : Memory). IsVolume c.format.new.cells (device_of c.format.new).image (event_layout n 16 1 m.cells))
      (sym leads.0) there))

  -- an ingest that was refused
  ingest_ends : (k : ℕ) (x : Refusal) (old new : Memory) → Turns (ingest_event k) (reply.Refused x) old new
      → IsDevice (device_of (begun_with no_schedule old)) → IsDevice (device_of new) → IsStill old.faults new.faults
      → BeginsSteady (device_of (begun_with no_schedule old)) (device_of new) → (documents : List Document)
      → AreFrom 0 documents → length documents ≡ k → Held old.cells (device_of old).image documents
      → IsStocked g k (device_of old) → k < n → IsOfExercise x
  ingest_ends k x old new turned begun device_new no_fault begins documents are many held stocked less =
      let s = device_of (begun_with no_schedule old) in
      let t = device_of new in
      ingest_refused n k g s t begins begun device_new turned.answers.called no_fault
      (record { volume = stocked.volume; settled = stocked.settled; horizon = stocked.horizon; edge = stocked.edge }) less
      most refl refl cells_are refl (omega arith) documents are many held
      (λ e ends. none_named s t e begun device_new refl begins.alone begins.steady (ends refl)) x turned.answers.ends

  refused_ingest : (x : Refusal) (pre : List Turn) (t : Turn) (mid : List Turn) → c.taken ≡ pre ++ t ∷ mid → AreDone pre
      → t.reply ≡ reply.Refused x → IsOfExercise x
  refused_ingest x pre t mid is done refused =
      let place = ingest_at 0 n pre t mid (ap (λ (l : List Turn). map event_of l) (sym is) ∙ c.taken_are) in
      let k = length pre in
      let row : rest ≡ pre ++ t ∷ (mid ++ tail_one) = ap (λ (l : List Turn). l ++ tail_one) is
      ∙ append_assoc pre (t ∷ mid) tail_one in
      let whole : all_turns ≡ (c.format ∷ pre) ++ t ∷ (mid ++ tail_one) = ap (λ (l : List Turn). c.format ∷ l) row in
      let at = here_at (c.format ∷ pre) t (mid ++ tail_one) whole in
      let zero_first : 0 + k ≡ k = omega arith in
      let here : t.event ≡ ingest_event k = place.0 ∙ ap ingest_event zero_first in
      let stocked = subst (λ (j : ℕ). IsStocked g j (device_of t.old)) zero_first
      (stocked_along 0 (c.format ∷ []) pre (t ∷ (mid ++ tail_one)) c.format.new t.old whole at.to_here.3 done place.1
      first_stocked) in
      let given = ingested 0 k pre place.1 done (are_turns c.format.new pre t.old at.to_here.3) in
      let so_far : acknowledged (c.format ∷ pre) ≡ acknowledged pre =
      ap (λ (l : List Document). l ++ acknowledged pre)
      (ap (λ (e : Event). acknowledged_by e c.format.reply) c.format_is) in
      let still = ingest_still k (c.format ∷ pre) t here at in
      ingest_ends k x t.old t.new
      (subst (λ (r : Reply). Turns (ingest_event k) r t.old t.new) refused
      (subst (λ (e : Event). Turns e t.reply t.old t.new) here at.turned))
      (subst (λ (e : Event). IsDevice (device_of (begun_by e t.old))) here at.plain_turn.device) at.plain_turn.device_new
      still.1
      (record {
        tells = refl;
        steady = subst (λ (e : Event). IsSteady (device_of (begun_by e t.old))) here at.plain_turn.steady;
        alone = still.0;
      })
      (acknowledged pre) given.are given.many
      (subst (λ (l : List Document). Held t.old.cells (device_of t.old).image l) so_far at.left.held) stocked place.2

  -- a query that was refused
  refused_query : (x : Refusal) (pre : List Turn) (t : Turn) (after : List Turn) → tail_one ≡ pre ++ t ∷ after
      → AreDone c.taken → t.reply ≡ reply.Refused x → IsOfExercise x
  refused_query x pre t after is done refused =
      let row : rest ≡ (c.taken ++ pre) ++ t ∷ after = ap (λ (l : List Turn). c.taken ++ l) is
      ∙ sym (append_assoc c.taken pre (t ∷ after)) in
      let whole : all_turns ≡ (c.format ∷ (c.taken ++ pre)) ++ t ∷ after = ap (λ (l : List Turn). c.format ∷ l) row in
      let at = here_at (c.format ∷ (c.taken ++ pre)) t after whole in
      let kinds : All (IsQuery n) (map event_of tail_one) = subst (All (IsQuery n)) (sym tail_are) (queries n) in
      let parts = subst (All (IsQuery n)) (ap (λ (l : List Turn). map event_of l) is ∙ map-append event_of pre (t ∷ after))
      kinds in
      let kind : IsQuery n t.event = all_at (IsQuery n) (map event_of pre) t.event (map event_of after) parts in
      let given = ingested 0 n c.taken c.taken_are done (turns_first c.taken tail_one (are_turns from all_turns to leads).1) in
      let so_far : acknowledged (c.format ∷ (c.taken ++ pre)) ≡ acknowledged c.taken ++ acknowledged pre =
      ap (λ (l : List Document). l ++ acknowledged (c.taken ++ pre))
      (ap (λ (e : Event). acknowledged_by e c.format.reply) c.format_is) ∙ acknowledged_both c.taken pre in
      query_refused n t.event x t.old g (acknowledged (c.format ∷ (c.taken ++ pre))) kind
      (volume_at (c.taken ++ pre) t.old at.to_here)
      (λ j less.
      let d = among_from 0 (acknowledged c.taken) given.are j (omega (arith, less, given.many)) in
      let same : 0 + j ≡ j = omega arith in (
        d.0,
        subst (λ (l : List Document). Contains l d.0) (sym so_far)
            (Contains-append_left (acknowledged c.taken) (acknowledged pre) d.0 d.1),
        d.2 ∙ ap identifier_of same,
      ))
      (subst (λ (r : Reply). Returns (acknowledged (c.format ∷ (c.taken ++ pre))) t.event r (device_of t.old)) refused
      at.returns)
      (subst (λ (r : Reply). IsDoneWherePossible t.event r (device_of (begun_by t.event t.old))) refused at.plain_turn.done)
    where
      tail_are : map event_of tail_one
          ≡ events.singles ++ (events.pairs ++ (events.look_ups n ++ audit_event ∷ []))
      tail_are =
          map-append event_of c.singles (c.pairs ++ (c.looked ++ c.last ∷ []))
          ∙ ap (λ (l : List Event). l ++ map event_of (c.pairs ++ (c.looked ++ c.last ∷ []))) c.singles_are
          ∙ ap (λ (l : List Event). events.singles ++ l) (map-append event_of c.pairs (c.looked ++ c.last ∷ [])
          ∙ ap (λ (l : List Event). l ++ map event_of (c.looked ++ c.last ∷ [])) c.pairs_are
          ∙ ap (λ (l : List Event). events.pairs ++ l) (map-append event_of c.looked (c.last ∷ [])
          ∙ ap (λ (l : List Event). l ++ c.last.event ∷ []) c.looked_are
          ∙ ap (λ (e : Event). events.look_ups n ++ e ∷ []) c.last_is))

  -- the first turn that was refused
  by_place : (x : Refusal) → IsFirstRefused all_turns x → IsOfExercise x
  by_place x f = at_head f.before f.done f.is
    where
      at_head : (before : List Turn) → AreDone before → all_turns ≡ before ++ f.turn ∷ f.after → IsOfExercise x
      at_head [] done is =
          let same = head_of c.format f.turn rest f.after is in
          absurd (subst IsFormattedReply (ap (λ (t : Turn). t.reply) same ∙ f.refused) format_possible)
      at_head (u ∷ before) done is = ⊎_elim
          (λ (l : (mid : List Turn) × (c.taken ≡ before ++ f.turn ∷ mid)).
          refused_ingest x before f.turn l.0 l.1 done.1 f.refused)
          (λ (r : (pre : List Turn) × (before ≡ c.taken ++ pre) × (tail_one ≡ pre ++ f.turn ∷ f.after)).
          refused_query x r.0 f.turn f.after r.2 (done_first c.taken r.0 (subst AreDone r.1 done.1)) f.refused)
          (which_part c.taken tail_one before f.turn f.after
          (tail_of c.format u rest (before ++ f.turn ∷ f.after) is))

-- so it is one of these
pub exercise_refused : PlainIsDone → AcknowledgedAreReturned → (n : ℕ) → 1 ≤ n → n ≤ 2000 → (from to : Memory)
    → from ≡ exercise_device n → (replies : List Reply) → IsWorld (exercise_events n) replies from to → (x : Refusal)
    → first_refusal replies ≡ Some x → IsOfExercise x
exercise_refused plain returned n some most from to is_new replies world x first =
    let events_are = sym world.events_are in
    let c = cut_all n world.turns events_are in
    by_place plain returned n some most from to is_new world.turns c events_are world.in_turn x
    (first_refused (c.format ∷ (c.taken ++ (c.singles ++ (c.pairs ++ (c.looked ++ c.last ∷ []))))) x
    (sym (ap first_refusal (world.replies_are ∙ ap (λ (l : List Turn). map reply_of l) c.is)) ∙ first))

-- and nothing has befallen the device
pub exercise_untroubled : PlainIsDone → (n : ℕ) → n ≤ 2000 → (from to : Memory) → from ≡ exercise_device n
    → (replies : List Reply) → IsWorld (exercise_events n) replies from to
    → to.foreign_writes ≡ foreign_writes_in to.changes → IsUntroubled to
exercise_untroubled plain n most from to is_new replies world recorded =
    let left = plain.left from world.turns to
    (subst (λ (m : Memory). IsDevice (device_of m)) (sym is_new) (new_device n most))
    (record {
      changes = ap (λ (m : Memory). m.changes) is_new;
      undisturbed = ap (λ (m : Memory). m.foreign_writes) is_new;
    })
    (ap (λ (m : Memory). m.faults) is_new) world.in_turn (subst (All IsPlain) world.events_are (exercise_events_plain n)) in
    record { undisturbed = sym recorded ∙ left.undisturbed; unfailed = left.unfailed }
