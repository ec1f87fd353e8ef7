-- The terms so far, and those of the run and of what is left, are all.
use Rattle.std.proofs.Common.{◌≡◌, ◌++◌, drop}
use Rattle.volume_meaning.specs.Words.{words_from, words_of}
use Rattle.volume_meaning.specs.declared.word_rules.WordRule.TheVariants.{Ascii}
use Rattle.word_reader.proofs.reader.read_bytes.Given as goal

abbrev pub invariant-loop-byte : goal.invariant-loop-byte
invariant-loop-byte l = l.terms.items ++ words_from Ascii l.run.items (drop l.byte-index l.bytes) ≡ words_of Ascii l.bytes
