-- The keys before this turn's are counted.
use Rattle.std.proofs.Common.{take}
use Rattle.term_tags.specs.Listing.{AreCounts}
use Rattle.term_tags.proofs.rows.count_each.Given as goal

abbrev pub invariant-loop-key : goal.invariant-loop-key
invariant-loop-key l = AreCounts l.lists (take l.key-index l.keys) l.counts.items
