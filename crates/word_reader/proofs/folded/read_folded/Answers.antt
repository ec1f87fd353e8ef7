-- What one character more adds, and what is left at the end.
use Rattle.std.proofs.Common.{rules, ◌≡◌, ◌<◌, ◌++◌, ◌∷◌, [], ◌∙◌, length, sym, string_bytes}
use Rattle.volume_meaning.specs.Words.{spelled_one, words_of}
use Rattle.volume_meaning.specs.declared.word_rules.WordRule.TheVariants.{Folded}
use Rattle.word_reader.proofs.Folding.{word_more, word_ends, gap_more, behind, inside, is_none}
use Rattle.word_reader.proofs.folded.read_folded.Goals as goal

pub loop-at-preserved-in-Continue-1 : goal.loop-at-preserved-in-Continue-1
loop-at-preserved-in-Continue-1 c =
    let bytes = c.args.bytes.now in
    let n = c.next_unit-unit in
    let read = behind bytes c.loop-at.at n.result.1 n.result.0 n.ensures.unit in
    let grown : string_bytes c.push_folded.new.run ≡ string_bytes c.loop-at.run ++ spelled_one Folded n.result.0 = search rules in (
      inside bytes c.loop-at.at n.result.1 c.loop-at.invariant.0 n.ensures.most,
      word_more c.loop-at.terms.items (words_of Folded bytes) (string_bytes c.loop-at.run) _ _ n.result.0 read c.loop-at.invariant.1
          (sym c.is_word_character.ensures ∙ c.if-is_word_character.true) _ grown,
    )

pub loop-at-preserved-then-not-is_empty : goal.loop-at-preserved-then-not-is_empty
loop-at-preserved-then-not-is_empty c =
    let bytes = c.args.bytes.now in
    let n = c.next_unit-unit in
    let run = string_bytes c.loop-at.run in
    let read = behind bytes c.loop-at.at n.result.1 n.result.0 n.ensures.unit in
    let some : 0 < length run = search rules in
    let more : c.push.new.items.items ≡ c.loop-at.terms.items ++ run ∷ [] = search rules in
    let fresh : string_bytes c.new-run-then-not-is_empty.result ≡ [] = search rules in (
      inside bytes c.loop-at.at n.result.1 c.loop-at.invariant.0 n.ensures.most,
      rw (more, fresh) (word_ends c.loop-at.terms.items (words_of Folded bytes) run _ _ n.result.0 read c.loop-at.invariant.1
          (sym c.is_word_character.ensures ∙ c.if-is_word_character.false) some),
    )

pub loop-at-preserved : goal.loop-at-preserved
loop-at-preserved c =
    let bytes = c.args.bytes.now in
    let n = c.next_unit-unit in
    let run = string_bytes c.loop-at.run in
    let read = behind bytes c.loop-at.at n.result.1 n.result.0 n.ensures.unit in
    let none : length run ≡ 0 = search rules in (
      inside bytes c.loop-at.at n.result.1 c.loop-at.invariant.0 n.ensures.most,
      gap_more c.loop-at.terms.items (words_of Folded bytes) run _ _ n.result.0 read c.loop-at.invariant.1
          (sym c.is_word_character.ensures ∙ c.if-is_word_character.false) (is_none run none),
    )
