-- The characters so far are put.
use Rattle.std.proofs.Common.{◌≡◌, ◌++◌, take, encode_utf8_all, string_bytes}
use Rattle.word_reader.proofs.folded.push_folded.Given as goal

abbrev pub invariant-loop-one : goal.invariant-loop-one
invariant-loop-one l = string_bytes l.run ≡ string_bytes l.fn.run ++ encode_utf8_all (take l.one-index l.folded)
