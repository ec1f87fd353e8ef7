-- So many halvings were made, and the reserve cell before the slots that are left is at hand.
use Rattle.commit_record.proofs.HorizonSoFar.{HorizonSoFar}
use Rattle.commit_record.proofs.log_end.end_of_log.Given as goal

abbrev pub invariant-loop-halving : goal.invariant-loop-halving
invariant-loop-halving g l =
    HorizonSoFar l.geometry l.low l.high l._halving l.last (g.V.View.seen l.fn.view) (g.V.View.seen l.view)
