-- What the characters of a folding spell.
use Rattle.std.proofs.Common.{rules, ◌≡◌, ◌<◌, ◌++◌, ◌∙◌, ap, sym, arith, length, encode_utf8, string_bytes}
use Rattle.word_reader.proofs.Folding.{folds, folds_to_itself, is_none, put_more, put_all}
use Rattle.word_reader.proofs.folded.push_folded.Goals as goal

pub returns-then-is_empty : goal.returns-then-is_empty
returns-then-is_empty c = λ ok.
    let none = is_none c.full_folding-folded.result.now (search rules) in
    let itself = folds_to_itself c.args.character (sym c.full_folding-folded.ensures.value ∙ none) in
    rw itself (search rules)

pub loop-one-preserved : goal.loop-one-preserved
loop-one-preserved c =
    let folded = c.full_folding-folded.result.now in
    let more : string_bytes c.push_char-in-loop-one.new.text ≡ string_bytes c.loop-one.run ++ encode_utf8 c.one-item.result = search rules in
    put_more (string_bytes c.args.run.now) folded _ _ c.loop-one.one-index c.one-item.result c.loop-one-test.true c.one-item.is c.loop-one.invariant more

pub returns : goal.returns
returns c = λ ok.
    let folded = c.full_folding-folded.result.now in
    let some : 0 < length folded = search rules in
    let value = c.full_folding-folded.ensures.value in
    put_all (string_bytes c.args.run.now) folded _ c.loop-one.one-index c.loop-one-test.false c.loop-one.invariant
    ∙ ap (λ l. string_bytes c.args.run.now ++ l) (rw value (sym (folds c.args.character (omega (arith, some, ap length value)))))
