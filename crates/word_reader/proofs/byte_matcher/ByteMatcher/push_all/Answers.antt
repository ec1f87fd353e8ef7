-- The end of a word that had begun, words within, and the beginning of one; or nothing is left to be known.
use Rattle.std.proofs.Common.{◌++◌, ◌-◌, take, drop, length, subst}
use Rattle.word_reader.specs.Matching.{KnowsBytes}
use Rattle.word_reader.proofs.Rows.{all_known, parts_of}
use Rattle.word_reader.proofs.byte_matcher.ByteMatcher.push_all.Goals as goal

pub returns-then-self : goal.returns-then-self
returns-then-self c = λ terms before h. all_known c.args.self.now terms before c.args.bytes.now c.if-self.true h

pub returns : goal.returns
returns c = λ terms before h.
    let row = c.args.bytes.now in
    let at = c.push_run-begin.result in
    let n = c.push_words.result in
    let begun = before ++ take at row in
    let words = begun ++ take n (take (length row - at) (drop at row)) in
    subst (KnowsBytes c.push_bytes.new.self terms) (parts_of before row at n)
    (c.push_bytes.ensures terms words (c.push_words.ensures.pushed terms begun (c.push_run-begin.ensures.pushed terms before h)))
