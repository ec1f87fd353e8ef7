-- Those so far are counted.
use Rattle.std.proofs.Common.{◌≡◌, take}
use Rattle.std.specs.List.{count_by}
use Rattle.volume_exercise.specs.Tallies.{is_acknowledged}
use Rattle.volume_exercise.proofs.tallies.acknowledged.Given as goal

abbrev pub invariant-loop-reply : goal.invariant-loop-reply
invariant-loop-reply l = l.count ≡ count_by is_acknowledged (take l.reply-index l.replies)
