-- Those so far are counted, and those that are left.
use Rattle.std.proofs.Common.{◌≡◌, ◌≤◌, ◌+◌, drop}
use Rattle.volume_exercise.specs.Tallies.{returned_from}
use Rattle.volume_exercise.proofs.tallies.returned_all.Given as goal

abbrev pub invariant-loop-reply : goal.invariant-loop-reply
invariant-loop-reply l =
    record {
      counted : l.document ≡ l.reply-index;
      small : l.count ≤ l.document;
      all : l.count + returned_from l.document (drop l.reply-index l.replies) ≡ returned_from 0 l.replies;
    }
