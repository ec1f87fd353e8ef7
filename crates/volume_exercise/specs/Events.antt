-- The events of the exercise, in order: a format, the ingests, the finds of single words and of pairs, the look-ups, and an
-- audit. Nothing befalls any of them.
use Rattle.std.specs.Prelude.{◌+◌, ◌-◌, ℕ, List, [], ◌∷◌, ◌++◌, map, None}
use Rattle.cell_types.specs.declared.geometry.TheConstants.{FIRST_VERSION}
use Rattle.script_events.specs.declared.event.Event.{Event}
use Rattle.script_events.specs.declared.event.Event.TheVariants as event
use Rattle.script_events.specs.declared.event.Schedule.{Schedule}
use Rattle.volume_exercise.specs.Documents.{body_of, identifier_of, up_to, word_of}
use Rattle.volume_exercise.specs.declared.limits.TheConstants.{DISTINCT_WORDS, LISTS}

-- no call fails, and nobody else writes
abbrev pub no_schedule : Schedule
no_schedule = record { stop = None; fail = []; foreign = [] }

-- a volume of the first version, with so many slots
abbrev pub format_event : ℕ → Event
format_event n = event.Format n LISTS FIRST_VERSION no_schedule

-- document i is taken in
abbrev pub ingest_event : ℕ → Event
ingest_event i = event.Ingest (identifier_of i) None (body_of i) no_schedule

-- word k is sought alone
abbrev pub single_event : ℕ → Event
single_event k = event.Find (word_of k ∷ []) no_schedule

-- word k is sought with the next one
abbrev pub pair_event : ℕ → Event
pair_event k = event.Find (word_of k ∷ word_of (k + 1) ∷ []) no_schedule

-- document i is looked up
abbrev pub look_up_event : ℕ → Event
look_up_event i = event.Lookup (identifier_of i) no_schedule

-- the volume is audited
abbrev pub audit_event : Event
audit_event = event.Audit no_schedule

-- each document is taken in
abbrev pub ingests : ℕ → List Event
ingests n = map ingest_event (up_to n)

-- each word is sought alone
abbrev pub singles : List Event
singles = map single_event (up_to DISTINCT_WORDS)

-- each word but the last is sought with the next one
abbrev pub pairs : List Event
pairs = map pair_event (up_to (DISTINCT_WORDS - 1))

-- each document is looked up
abbrev pub look_ups : ℕ → List Event
look_ups n = map look_up_event (up_to n)

-- the events of the exercise with so many documents
abbrev pub exercise_events : ℕ → List Event
exercise_events n =
    format_event n ∷ (ingests n ++ (singles ++ (pairs ++ (look_ups n ++ audit_event ∷ []))))
