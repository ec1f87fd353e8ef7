-- The rows of the distinct keys are the postings, where each list's count fits.
use Rattle.std.proofs.Common.{◌≡◌, ◌≤◌, ◌∙◌, ℕ, List, None, map, sym, ap, subst, arith}
use Rattle.volume_meaning.specs.Postings.{ArePostings}
use Rattle.term_tags.specs.Keys.{AreInLists, AreKeys}
use Rattle.term_tags.specs.Listing.{AllFit, AreCounts, IsFirstOver, listed, posting_rows}
use Rattle.term_tags.specs.declared.rows.Posting.{Posting}
use Rattle.term_tags.proofs.Bodies.{few_tags, in_lists, too_many}
use Rattle.term_tags.proofs.RowLaws.{are_postings}
use Rattle.term_tags.proofs.rows.postings_by.Goals as goal

-- the keys' lists are of so many
in_so_many : (known lists : ℕ) (terms : List (List ℕ)) (keys read : List ℕ) → lists ≡ known → 1 ≤ known → read ≡ keys
    → AreKeys known terms keys → AreInLists lists read
in_so_many known lists terms keys read same some is are =
    subst (λ (n : ℕ). AreInLists n read) (sym same) (subst (AreInLists known) (sym is) (in_lists known terms keys some are))

pub count_each-requires-clause-below : goal.count_each-requires-clause-below
count_each-requires-clause-below c =
    in_so_many c.args.known.now c.lists-lists.result c.args.terms.now c.in_ok-keys.keys.items c.deref-2.result.now
    c.lists-lists.ensures.same c.lists-lists.ensures.some c.deref-2.ensures.value c.in_ok-keys.ensures.keys

pub rows-requires-clause-below : goal.rows-requires-clause-below
rows-requires-clause-below c =
    in_so_many c.args.known.now c.lists-lists.result c.args.terms.now c.in_ok-keys.keys.items c.deref-4.result.now
    c.lists-lists.ensures.same c.lists-lists.ensures.some c.deref-4.ensures.value c.in_ok-keys.ensures.keys

pub returns-in-Some-clause-err : goal.returns-in-Some-clause-err
returns-in-Some-clause-err c = λ g body same words.
    let terms = c.args.terms.now in
    let keys = c.in_ok-keys.keys.items in
    let counts = c.in_ok-counts.counts.items in
    let keyed = subst (λ (n : ℕ). AreKeys n terms keys) (sym same) c.in_ok-keys.ensures.keys in
    let so_many = same ∙ sym c.lists-lists.ensures.same in
    let counted = subst (λ (n : ℕ). AreCounts n keys counts) (sym so_many)
    (subst (λ (ks : List ℕ). AreCounts c.lists-lists.result ks counts) c.deref-2.ensures.value c.in_ok-counts.ensures) in
    let over = subst (λ (cs : List ℕ). IsFirstOver cs c.in-Some.list c.in-Some.count) c.deref-3.ensures.value c.in-Some.ensures.over in
    too_many g body terms keys words keyed counts c.in-Some.list c.in-Some.count counted over

pub returns-clause-ok : goal.returns-clause-ok
returns-clause-ok c = λ g body same words n.
    let terms = c.args.terms.now in
    let keys = c.in_ok-keys.keys.items in
    let counts = c.in_ok-counts.counts.items in
    let keyed = subst (λ (n : ℕ). AreKeys n terms keys) (sym same) c.in_ok-keys.ensures.keys in
    let so_many = same ∙ sym c.lists-lists.ensures.same in
    let counted = subst (λ (n : ℕ). AreCounts n keys counts) (sym so_many)
    (subst (λ (ks : List ℕ). AreCounts c.lists-lists.result ks counts) c.deref-2.ensures.value c.in_ok-counts.ensures) in
    let fit = subst (λ (n : ℕ). AllFit counts n) (sym so_many)
    (subst (λ (cs : List ℕ). AllFit cs c.lists-lists.result) c.deref-3.ensures.value c.in_default.ensures.fit) in
    let is = c.in_ok-rows.ensures ∙ ap posting_rows c.deref-4.ensures.value in
    subst (λ (rows : List Posting). ArePostings g None body n (map (listed n) rows)) (sym is)
    (are_postings g body terms keys words keyed
    (in_lists g.lists terms keys (omega (arith, same, c.lists-lists.ensures.some)) keyed) (few_tags g.lists keys counts counted fit) n)
