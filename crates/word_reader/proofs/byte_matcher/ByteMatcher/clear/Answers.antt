-- Each term has forgotten the bytes.
use Rattle.std.proofs.Common.{◌∙◌, [], List, ap, refl, sym, subst, length}
use Rattle.std.proofs.lemmas.List.{with_items_is, length-map}
use Rattle.word_reader.specs.Matching.{SeekAll, cleared}
use Rattle.word_reader.specs.declared.byte_matcher.Sought.{Sought}
use Rattle.word_reader.proofs.Seeking.{all_cleared, true_false}
use Rattle.word_reader.proofs.byte_matcher.ByteMatcher.clear.Goals as goal

pub returns : goal.returns
returns c = λ terms bytes h.
    let old = subst (λ (ss : List Sought). SeekAll ss terms bytes) (sym c.deref_mut.ensures.value) h.knows in
    let new = subst (λ (ss : List Sought). SeekAll ss terms []) (sym c.clear_each.ensures)
    (all_cleared bytes c.deref_mut.result.now terms old) in
    record {
      knows = subst (λ (ss : List Sought). SeekAll ss terms [])
          (sym (with_items_is c.args.self.now.sought c.clear_each.new.sought
          (ap length c.clear_each.ensures ∙ length-map c.deref_mut.result.now cleared ∙ c.deref_mut.ensures.len))) new;
      between = λ e f. refl;
      all = λ e. absurd (true_false (sym e));
    }
