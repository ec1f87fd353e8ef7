-- The keys before this turn's are counted, and their rows and those of the keys left are all.
use Rattle.std.proofs.Common.{◌≡◌, ◌++◌, take, drop}
use Rattle.term_tags.specs.Listing.{AreCounts, rows_behind, posting_rows}
use Rattle.term_tags.proofs.rows.rows.Given as goal

abbrev pub invariant-loop-key : goal.invariant-loop-key
invariant-loop-key l =
    AreCounts l.lists (take l.key-index l.keys) l.given.items
    × (l.rows.items ++ rows_behind l.keys (take l.key-index l.keys) (drop l.key-index l.keys) ≡ posting_rows l.keys)
