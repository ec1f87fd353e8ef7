use Rattle.std.proofs.Common.{◌≡◌, ◌++◌, codes, drop, string_bytes}
use Rattle.script_replies.specs.Lines.{slots_words}
use Rattle.script_replies.proofs.text.found.Given as goal

-- the words so far, and those of the matches that are left
abbrev pub invariant-loop-one : goal.invariant-loop-one
invariant-loop-one l = string_bytes l.text ++ slots_words (drop l.one-index l.matches) ≡ codes "found" ++ slots_words l.matches
