-- Each term has the byte.
use Rattle.std.proofs.Common.{◌≡◌, ◌∙◌, ◌++◌, ◌∷◌, [], true, List, ap, map, sym, subst, length}
use Rattle.std.specs.List.{list_all}
use Rattle.std.proofs.lemmas.List.{with_items_is, length-map}
use Rattle.word_reader.specs.Matching.{SeekAll, has_ended, pushed}
use Rattle.word_reader.specs.declared.byte_matcher.Sought.{Sought}
use Rattle.word_reader.proofs.Reading.{run_gone}
use Rattle.word_reader.proofs.Rows.{all_stays}
use Rattle.word_reader.proofs.Seeking.{all_more, pushed_keeps}
use Rattle.word_reader.proofs.byte_matcher.ByteMatcher.push.Goals as goal

pub returns : goal.returns
returns c = λ terms bytes h.
    let m = c.args.self.now in
    let b = c.args.byte in
    let is = c.push_each.new.sought in
    let moved : is ≡ map (pushed b) m.sought.items =
    c.push_each.ensures ∙ ap (map (pushed b)) c.deref_mut.ensures.value in
    let same = with_items_is m.sought is
    (ap length c.push_each.ensures ∙ length-map c.deref_mut.result.now (pushed b) ∙ c.deref_mut.ensures.len) in
    record {
      knows = subst (λ (ss : List Sought). SeekAll ss terms (bytes ++ b ∷ [])) (sym (same ∙ moved))
          (all_more b bytes m.sought.items terms h.knows);
      between = λ _ off. run_gone b (sym c.is_of_word-self.ensures ∙ off) bytes [];
      all = λ e. subst (λ (ss : List Sought). list_all has_ended ss ≡ true) (sym (same ∙ moved))
          (all_stays (pushed b) (pushed_keeps b) m.sought.items (h.all e));
    }
