-- Each term has the row, which begins and ends between words.
use Rattle.std.proofs.Common.{◌≡◌, ◌∙◌, ◌++◌, true, List, ap, map, sym, subst, length, take}
use Rattle.std.specs.List.{list_all}
use Rattle.std.proofs.lemmas.List.{with_items_is, length-map}
use Rattle.word_reader.specs.Matching.{SeekAll, has_ended, taken}
use Rattle.word_reader.specs.declared.byte_matcher.Sought.{Sought}
use Rattle.word_reader.proofs.Rows.{all_row, run_none}
use Rattle.word_reader.proofs.byte_matcher.ByteMatcher.push_words.Goals as goal

pub returns-clause-pushed : goal.returns-clause-pushed
returns-clause-pushed c = λ terms before h.
    let m = c.args.self.now in
    let row = take c.before_run-end.result c.args.bytes.now in
    let apart = h.between c.if-self-2.false c.if-self.false in
    let ends = c.before_run-end.ensures.gap in
    let is = c.take_each.new.sought in
    let moved : is ≡ map (taken row) m.sought.items =
    c.take_each.ensures ∙ ap (map (taken row)) c.deref_mut.ensures.value in
    let same = with_items_is m.sought is
    (ap length c.take_each.ensures ∙ length-map c.deref_mut.result.now (taken row) ∙ c.deref_mut.ensures.len) in
    record {
      knows = subst (λ (ss : List Sought). SeekAll ss terms (before ++ row)) (sym (same ∙ moved))
          (all_row before row apart ends m.sought.items terms h.knows);
      between = λ _ _. run_none before row apart ends;
      all = λ e. subst (λ (ss : List Sought). list_all has_ended ss ≡ true) c.deref.ensures.value
          (sym c.have_ended-self.ensures ∙ e);
    }
