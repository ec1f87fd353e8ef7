-- Those that are left tell of all.
use Rattle.std.proofs.Common.{◌≡◌, drop}
use Rattle.std.specs.List.{list_all}
use Rattle.word_reader.specs.Matching.{has_ended}
use Rattle.word_reader.proofs.byte_matcher.have_ended.Given as goal

abbrev pub invariant-loop-one : goal.invariant-loop-one
invariant-loop-one l = list_all has_ended (drop l.one-index l.sought) ≡ list_all has_ended l.sought
