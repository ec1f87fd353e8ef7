-- The sum so far; no reply has more than 64 bits can say.
use Rattle.std.proofs.Common.{◌≡◌, ◌≤◌, ◌*◌, ◌^◌, take}
use Rattle.std.specs.List.{sum_by}
use Rattle.volume_exercise.specs.Tallies.{matches_in}
use Rattle.volume_exercise.proofs.tallies.found.Given as goal

abbrev pub invariant-loop-reply : goal.invariant-loop-reply
invariant-loop-reply l =
    record {
      sum : l.total ≡ sum_by matches_in (take l.reply-index l.replies);
      small : l.total ≤ l.reply-index * 2 ^ 64;
    }
