-- The postings before this turn's are listed.
use Rattle.std.proofs.Common.{◌≡◌, map, take}
use Rattle.term_tags.specs.Listing.{listed}
use Rattle.term_tags.proofs.listing.list_all.Given as goal

abbrev pub invariant-loop-posting : goal.invariant-loop-posting
invariant-loop-posting l = l.rows.items ≡ map (listed l.slot) (take l.posting-index l.of_words)
