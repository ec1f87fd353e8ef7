-- None of those so far says that the volume is sound.
use Rattle.std.proofs.Common.{◌≡◌, drop}
use Rattle.volume_exercise.specs.Tallies.{sound_line}
use Rattle.volume_exercise.proofs.tallies.sound_line.Given as goal

abbrev pub invariant-loop-reply : goal.invariant-loop-reply
invariant-loop-reply l = sound_line (drop l.reply-index l.replies) ≡ sound_line l.replies
