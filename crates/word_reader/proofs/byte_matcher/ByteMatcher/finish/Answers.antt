-- All are found where all match.
use Rattle.std.proofs.Common.{◌∙◌, List, sym, subst}
use Rattle.word_reader.specs.Matching.{SeekAll}
use Rattle.word_reader.specs.declared.byte_matcher.Sought.{Sought}
use Rattle.word_reader.proofs.Seeking.{all_found}
use Rattle.word_reader.proofs.byte_matcher.ByteMatcher.finish.Goals as goal

pub returns : goal.returns
returns c = λ terms bytes h.
    let all = all_found bytes c.deref.result.now terms
    (subst (λ (ss : List Sought). SeekAll ss terms bytes) (sym c.deref.ensures.value) h.knows) in
    (λ e. all.0 (sym c.are_found.ensures ∙ e), λ m. c.are_found.ensures ∙ all.1 m)
