-- The events so far stand behind those that stood before.
use Rattle.std.proofs.Common.{◌≡◌, ◌++◌, map}
use Rattle.std.specs.List.{range_with_len}
use Rattle.volume_exercise.specs.Events.{single_event}
use Rattle.volume_exercise.proofs.events.push_singles.Given as goal

abbrev pub invariant-loop-number : goal.invariant-loop-number
invariant-loop-number l =
    l.events.items ≡ l.initial.events.items ++ map single_event (range_with_len 0 l.number)
