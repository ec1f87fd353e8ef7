-- The numbers before this turn's were added.
use Rattle.tree_audit.proofs.Gathering.{AddsFirst}
use Rattle.tree_audit.proofs.nodes.unseen.Given as goal

abbrev pub invariant-loop-number : goal.invariant-loop-number
invariant-loop-number l = AddsFirst l.row l.number-index l.initial.seen l.seen l.fresh.items
