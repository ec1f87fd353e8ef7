-- The slots before this one were asked.
use Rattle.volume_copy.proofs.Walked.{WalkedSoFar}
use Rattle.volume_copy.proofs.walking.done_in.Given as goal

abbrev pub invariant-loop-slot : goal.invariant-loop-slot
invariant-loop-slot g l =
    WalkedSoFar l.volume.geometry (g.V.View.seen l.fn.view) (g.V.View.seen l.view) l.slot l.parts.items
