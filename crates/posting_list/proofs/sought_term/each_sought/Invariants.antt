-- The terms so far.
use Rattle.std.proofs.Common.{◌≡◌, map, take}
use Rattle.posting_list.specs.Terms.{sought_of}
use Rattle.posting_list.proofs.sought_term.each_sought.Given as goal

abbrev pub invariant-loop-term : goal.invariant-loop-term
invariant-loop-term l = l.sought.items ≡ map (sought_of l.lists) (take l.term-index l.terms)
