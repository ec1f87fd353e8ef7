-- A word has one term, itself.
use Rattle.std.proofs.Common.{Err, subst, ◌∙◌}
use Rattle.volume_meaning.specs.declared.word_rules.WordRule.TheVariants.{Ascii}
use Rattle.word_reader.specs.Single.{SingleEnds}
use Rattle.word_reader.specs.declared.reader.WordFault.{WordFault}
use Rattle.volume_exercise.proofs.Words.{one_term, only_term}
use Rattle.volume_exercise.proofs.events.term.Goals as goal

pub returns-in-Ok : goal.returns-in-Ok
returns-in-Ok c =
    only_term c.args.number c.requires c.as_bytes.result.now c.in-Ok.term (c.as_bytes.ensures.value ∙ c.in_ok-word.ensures)
    c.in-Ok.ensures

pub unreachable-requires : goal.unreachable-requires
unreachable-requires c =
    one_term c.args.number c.requires c.as_bytes.result.now (c.as_bytes.ensures.value ∙ c.in_ok-word.ensures)
    (subst (λ (fault : WordFault). SingleEnds Ascii c.as_bytes.result.now (Err fault)) c.in-Err-BadWord.field-0-is
    c.in-Err-BadWord.ensures)
