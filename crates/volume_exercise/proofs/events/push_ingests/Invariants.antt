-- The events so far stand behind those that stood before.
use Rattle.std.proofs.Common.{◌≡◌, ◌++◌, map}
use Rattle.std.specs.List.{range_with_len}
use Rattle.volume_exercise.specs.Events.{ingest_event}
use Rattle.volume_exercise.proofs.events.push_ingests.Given as goal

abbrev pub invariant-loop-document : goal.invariant-loop-document
invariant-loop-document l =
    l.events.items ≡ l.initial.events.items ++ map ingest_event (range_with_len 0 l.document)
