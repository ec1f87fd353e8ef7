-- The postings of the words, and behind them that of the stamp.
use Rattle.std.proofs.Common.{◌++◌, ◌∙◌, ℕ, List, map, ap, sym, subst}
use Rattle.volume_meaning.specs.Postings.{ArePostings}
use Rattle.term_tags.specs.Listing.{listed, time_entries}
use Rattle.term_tags.specs.declared.rows.Posting.{Posting}
use Rattle.term_tags.proofs.Stamps.{with_stamp}
use Rattle.term_tags.proofs.listing.document_postings_by.Goals as goal

pub returns-clause-ok : goal.returns-clause-ok
returns-clause-ok c = λ g body same may words.
    let n = c.args.slot in
    let stamp = c.args.stamp in
    let of_words = map (listed n) c.in_ok-of_words.of_words.items in
    let is = c.in_ok-rows.ensures
    ∙ ap (λ (ps : List Posting). map (listed n) ps ++ time_entries c.lists-lists.result n stamp) c.deref.ensures.value
    ∙ ap (λ (l : ℕ). of_words ++ time_entries l n stamp) (c.lists-lists.ensures.same ∙ sym same) in
    subst (ArePostings g stamp body n) (sym is)
    (with_stamp g body n of_words stamp may (c.in_ok-of_words.ensures.ok g body same words n))
