-- What every call keeps, over the calls before and this one.
use Rattle.zigzag_join.proofs.Joining.{keeps_then}
use Rattle.zigzag_join.proofs.join.all_have.Goals as goal

pub returns-in_err-has-clause-kept : goal.returns-in_err-has-clause-kept
returns-in_err-has-clause-kept g c = keeps_then c.loop-which.invariant.kept c.in_err-has.ensures.kept

pub returns-then-not-branch-clause-kept : goal.returns-then-not-branch-clause-kept
returns-then-not-branch-clause-kept g c = keeps_then c.loop-which.invariant.kept c.in_ok-has.ensures.kept

pub returns-clause-kept : goal.returns-clause-kept
returns-clause-kept g c = keeps_then c.loop-which.invariant.kept c.confirm.ensures.kept
