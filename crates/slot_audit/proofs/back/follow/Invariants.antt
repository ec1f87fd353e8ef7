-- The tiles from the cell on follow one another, and those below it are left.
use Rattle.std.specs.Ordering.{nat_cmp}
use Rattle.std.specs.BTreeMap.{get, btree_map_len}
use Rattle.slot_audit.proofs.Following.{Taken}
use Rattle.slot_audit.proofs.back.follow.Given as goal

abbrev pub invariant-loop-target : goal.invariant-loop-target
invariant-loop-target l = Taken (λ t. get nat_cmp l.fn.tiles t) (λ t. get nat_cmp l.left t) l.fn.from l.fn.to l.behind

abbrev pub decreases-loop-target : goal.decreases-loop-target
decreases-loop-target l = btree_map_len l.left
