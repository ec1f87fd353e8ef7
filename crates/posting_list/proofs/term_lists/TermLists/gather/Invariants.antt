-- The slots before this one were gathered.
use Rattle.std.proofs.Common.{◌-◌}
use Rattle.posting_list.specs.Over.{lists_of}
use Rattle.posting_list.proofs.Gathered.{PartsSoFar}
use Rattle.posting_list.proofs.term_lists.TermLists.gather.Given as goal

abbrev pub invariant-loop-from : goal.invariant-loop-from
invariant-loop-from g l = PartsSoFar l.fn.self.reach (lists_of l.fn.self) (lists_of l.self) l.from l.parts.items

abbrev pub decreases-loop-from : goal.decreases-loop-from
decreases-loop-from g l = 16777216 - l.from
