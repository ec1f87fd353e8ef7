-- The terms so far are those of the words so far.
use Rattle.std.proofs.Common.{◌≡◌, map}
use Rattle.std.specs.String.{string_bytes}
use Rattle.volume_commands.proofs.Terms.{TermsSoFar}
use Rattle.volume_commands.proofs.find.terms_of.Given as goal

abbrev pub invariant-loop-word : goal.invariant-loop-word
invariant-loop-word l =
    (l.number ≡ l.word-index) × TermsSoFar l.rule (map string_bytes l.words) l.terms.items l.word-index
