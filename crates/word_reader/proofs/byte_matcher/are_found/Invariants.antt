-- Those that are left tell of all.
use Rattle.std.proofs.Common.{◌≡◌, drop}
use Rattle.std.specs.List.{list_all}
use Rattle.word_reader.specs.Matching.{is_found}
use Rattle.word_reader.proofs.byte_matcher.are_found.Given as goal

abbrev pub invariant-loop-one : goal.invariant-loop-one
invariant-loop-one l = list_all is_found (drop l.one-index l.sought) ≡ list_all is_found l.sought
