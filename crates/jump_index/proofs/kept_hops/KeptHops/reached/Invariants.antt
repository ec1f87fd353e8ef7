-- Hops lead to the block that was reached so far.
use Rattle.jump_index.specs.Keeping.{Reaches}
use Rattle.jump_index.proofs.kept_hops.KeptHops.reached.Given as goal

abbrev pub invariant-loop-turn : goal.invariant-loop-turn
invariant-loop-turn l = Reaches l.bounds l.head l.x l.self l.reached
