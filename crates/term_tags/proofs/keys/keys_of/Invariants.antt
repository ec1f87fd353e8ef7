-- The keys of the terms before this turn's.
use Rattle.std.proofs.Common.{◌≡◌, take}
use Rattle.term_tags.specs.Keys.{keys_of}
use Rattle.term_tags.proofs.keys.keys_of.Given as goal

abbrev pub invariant-loop-term : goal.invariant-loop-term
invariant-loop-term l = (l.keys.items ≡ keys_of l.initial.known (take l.term-index l.terms)) × (l.known ≡ l.initial.known)
