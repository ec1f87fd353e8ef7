-- None of those so far was refused.
use Rattle.std.proofs.Common.{◌≡◌, drop}
use Rattle.volume_exercise.specs.Tallies.{first_refusal}
use Rattle.volume_exercise.proofs.tallies.first_refusal.Given as goal

abbrev pub invariant-loop-reply : goal.invariant-loop-reply
invariant-loop-reply l = first_refusal (drop l.reply-index l.replies) ≡ first_refusal l.replies
