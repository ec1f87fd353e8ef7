-- The words that were read are all of them.
use Rattle.std.proofs.Common.{rules, ◌≡◌, ◌∙◌, [], ◌∷◌, length, ap, sym}
use Rattle.volume_meaning.proofs.Words.{words_are_one}
use Rattle.word_reader.proofs.Reading.{are_words, one_item}
use Rattle.word_reader.proofs.reader.single_term.Goals as goal

pub returns-then-len-ne1 : goal.returns-then-len-ne1
returns-then-len-ne1 c = λ term are.
    let one = words_are_one.one c.args.rule c.args.word.now (term ∷ []) are in
    let all : length c.in_ok-terms.terms.items ≡ c.len.result = search rules in
    c.if-len-ne1.true (sym all ∙ ap length (c.in_ok-terms.ensures ∙ sym one))

pub returns : goal.returns
returns c =
    let all : length c.in_ok-terms.terms.items ≡ c.len.result = search rules in
    are_words c.args.rule c.args.word.now (c.remove.result ∷ [])
    (sym (one_item c.in_ok-terms.terms.items c.remove.result (all ∙ c.if-len-ne1.false) c.remove.ensures.value) ∙ c.in_ok-terms.ensures)
