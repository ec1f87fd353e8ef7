-- The lists before this turn's have not too many.
use Rattle.term_tags.specs.Listing.{AllFit}
use Rattle.term_tags.proofs.rows.first_over.Given as goal

abbrev pub invariant-loop-list : goal.invariant-loop-list
invariant-loop-list l = AllFit l.counts l.list
