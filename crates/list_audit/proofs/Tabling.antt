-- Postings that are looked up by all that they say.
use Rattle.std.proofs.Common.{◌≡◌, ◌<◌, ◌≤◌, ◌+◌, ◌⊎◌, ◌++◌, ⊎_elim, inl, inr, ℕ, List, [], ◌∷◌, length, take, get_or, Some, Err, Ordering, Less, Equal, Greater, refl, sym, ◌∙◌, subst, ap, arith}
use Rattle.std.specs.Prelude.{Contains, slice_get}
use Rattle.std.proofs.lemmas.Option.{slice_get_within, get_or_from_slice_get}
use Rattle.std.proofs.lemmas.List.{take_more}
use Rattle.std.specs.Ordering.{nat_cmp}
use Rattle.std.specs.Cmp.Lexicographic.{slice_cmp}
use Rattle.std.specs.Cmp.{IsTotalOrder}
use Rattle.std.specs.List.{HoldsAt}
use Rattle.std.specs.List.Sorted.{IsBinarySearchResult, IsPermutation}
use Rattle.std.proofs.lemmas.Cmp.{nat_cmp_total, nat_list_cmp_total, on_total, then_total, tied_itself}
use Rattle.std.proofs.lemmas.List.Elements.{Contains-append_left, Contains-push, Contains-push_cases}
use Rattle.std.proofs.lemmas.List.Sorted.{Contains-permutation, IsPermutation-sym, searchable_from_sorted}
use Rattle.std.proofs.lemmas.Map.Lookups.{exact_pairs, exact_unsigned, exact_bytes}
use Rattle.volume_meaning.specs.Blocks.{PostingFields}
use Rattle.volume_meaning.specs.Postings.{ListedPosting}
use Rattle.log_audit.proofs.OneMore.{get_before, get_last, get_pushed}
use Rattle.list_audit.specs.Tables.{AddsRow, AddsRows, AreOrderedRows, AreSameRows, FitsRow, HasRow, number_of, row_cmp}

pub same_posting : (a b : PostingFields) → a.key ≡ b.key → a.last ≡ b.last → a.tag ≡ b.tag → a ≡ b
same_posting a b k l t =
    ap (λ (x : ℕ). record { key = x; last = a.last; tag = a.tag }) k
    ∙ ap (λ (x : ℕ). record { key = b.key; last = x; tag = a.tag }) l
    ∙ ap (λ (x : List ℕ). record { key = b.key; last = b.last; tag = x }) t

-- one posting more
pub adds_row : (row : ListedPosting) (old new : List (ℕ × List ℕ)) (number : ℕ) (tag : List ℕ) → FitsRow row.list row.posting
    → number ≡ number_of row.list row.posting.key row.posting.last → tag ≡ row.posting.tag
    → new ≡ old ++ (number, tag) ∷ [] → AddsRow row old new
adds_row row old new number tag fits number_is tag_is more l p few = (
  λ has. ⊎_elim
      (λ (before : Contains old sought). inl before)
      (λ (pair : (number, tag) ≡ sought). inr (same pair))
      (Contains-push_cases old (number, tag) sought (subst (λ (rows : List (ℕ × List ℕ)). Contains rows sought) more has)),
  λ either. subst (λ (rows : List (ℕ × List ℕ)). Contains rows sought) (sym more) (⊎_elim
      (λ (before : Contains old sought). Contains-append_left old ((number, tag) ∷ []) sought before)
      (λ (is : (row.list ≡ l) × (row.posting ≡ p)). subst (Contains (old ++ (number, tag) ∷ [])) (here is) (Contains-push old (number, tag)))
      either),
)
  where
    sought : ℕ × List ℕ
    sought = (number_of l p.key p.last, p.tag)

    here : ((row.list ≡ l) × (row.posting ≡ p)) → (number, tag) ≡ sought
    here is =
        let key : number ≡ number_of l p.key p.last = number_is ∙ ap (λ (n : ℕ). number_of n row.posting.key row.posting.last) is.0
        ∙ ap (λ (q : PostingFields). number_of l q.key q.last) is.1 in
        let mark : tag ≡ p.tag = tag_is ∙ ap (λ (q : PostingFields). q.tag) is.1 in
        ap (λ (n : ℕ). (n, tag)) key ∙ ap (λ (t : List ℕ). (number_of l p.key p.last, t)) mark

    same : (number, tag) ≡ sought → (row.list ≡ l) × (row.posting ≡ p)
    same pair =
        let key : number_of row.list row.posting.key row.posting.last ≡ number_of l p.key p.last = sym number_is ∙ ap (λ (x : ℕ × List ℕ). x.0) pair in
        let mark : row.posting.tag ≡ p.tag = sym tag_is ∙ ap (λ (x : ℕ × List ℕ). x.1) pair in (
          omega (arith, key, fits.list, fits.key, fits.last, few.list, few.key, few.last),
          same_posting row.posting p (omega (arith, key, fits.list, fits.key, fits.last, few.list, few.key, few.last))
              (omega (arith, key, fits.list, fits.key, fits.last, few.list, few.key, few.last)) mark,
        )

-- one posting more of a row of them
pub one_added : (before after : List ListedPosting) (row : ListedPosting) (old mid new : List (ℕ × List ℕ)) → after ≡ before ++ row ∷ []
    → AddsRows before old mid → AddsRow row mid new → AddsRows after old new
one_added before after row old mid new is so_far one = subst (λ (rows : List ListedPosting). AddsRows rows old new) (sym is) (λ l p few.
    let a = so_far l p few in
    let b = one l p few in
    let wanted : ListedPosting = record { list = l; posting = p } in (
      λ has. ⊎_elim
          (λ (mid_has : HasRow mid l p). ⊎_elim
          (λ (old_has : HasRow old l p). inl old_has)
          (λ (at : (i : ℕ) × (slice_get before i ≡ Some wanted)). inr (at.0, get_before before row at.0 (slice_get_within before at.0 wanted at.1) ∙ at.1))
          (a.0 mid_has))
          (λ (same : (row.list ≡ l) × (row.posting ≡ p)). inr (
            length before,
            get_last before row (length before) refl
                ∙ ap (λ (x : ℕ). Some (record { list = x; posting = row.posting })) same.0
                ∙ ap (λ (q : PostingFields). Some (record { list = l; posting = q })) same.1,
          ))
          (b.0 has),
      λ either. ⊎_elim
          (λ (old_has : HasRow old l p). b.1 (inl (a.1 (inl old_has))))
          (λ (at : (i : ℕ) × (slice_get (before ++ row ∷ []) i ≡ Some wanted)). ⊎_elim
          (λ (earlier : slice_get before at.0 ≡ Some wanted). b.1 (inl (a.1 (inr (at.0, earlier)))))
          (λ (last : (at.0 ≡ length before) × (row ≡ wanted)).
          b.1 (inr (ap (λ (r : ListedPosting). r.list) last.1, ap (λ (r : ListedPosting). r.posting) last.1)))
          (get_pushed before row at.0 wanted at.1))
          either,
    ))

-- a row of postings with the next
pub taken : (rows : List ListedPosting) (i : ℕ) (x : ListedPosting) → i < length rows → x ≡ get_or rows i x
    → take (i + 1) rows ≡ take i rows ++ x ∷ []
taken rows i x inside is = take_more rows i x inside ∙ ap (λ (y : ListedPosting). take i rows ++ y ∷ []) (sym is)

-- rows that were sorted are the same
pub same_rows : (old new : List (ℕ × List ℕ)) → IsPermutation old new → AreSameRows old new
same_rows old new moved row =
    (λ has. Contains-permutation new old row (IsPermutation-sym old new moved) has, λ has. Contains-permutation old new row moved has)

-- numbers and tags are in an order in which no two are equal
total : IsTotalOrder row_cmp
total = then_total (on_total (λ (x : ℕ × List ℕ). x.0) nat_cmp_total) (on_total (λ (x : ℕ × List ℕ). x.1) nat_list_cmp_total)

-- what stands at a place is there
pub at_place : (rows : List (ℕ × List ℕ)) (place : ℕ) (sought : ℕ × List ℕ) → slice_get rows place ≡ Some sought → Contains rows sought
at_place rows place sought is = (place, slice_get_within rows place sought is, get_or_from_slice_get rows place sought sought is)

-- what bisection found is there
pub found_row : (rows : List (ℕ × List ℕ)) (sought : ℕ × List ℕ) (place : ℕ) → place < length rows
    → HoldsAt (λ y. row_cmp y sought ≡ Equal) rows place → Contains rows sought
found_row rows sought place within equal =
    (place, within, exact_pairs nat_cmp (slice_cmp nat_cmp) exact_unsigned exact_bytes (get_or rows place sought) sought (equal sought))

-- and what it did not find is not
pub no_row : (rows : List (ℕ × List ℕ)) (sought : ℕ × List ℕ) (place : ℕ) → IsBinarySearchResult (λ y. row_cmp y sought) rows (Err place)
    → AreOrderedRows rows → Contains rows sought → ⊥
no_row rows sought place position ordered among =
    let parts = position (searchable_from_sorted total (λ (x : ℕ × List ℕ). x) rows sought ordered) in
    let itself : row_cmp (get_or rows among.0 sought) sought ≡ Equal = ap (λ (x : ℕ × List ℕ). row_cmp x sought) among.2 ∙ tied_itself total sought in
    ⊎_elim
    (λ (before : among.0 < place). clash_less (row_cmp (get_or rows among.0 sought) sought) (parts.0 among.0 sought (omega arith) before) itself)
    (λ (behind : place ≤ among.0). clash_greater (row_cmp (get_or rows among.0 sought) sought) (parts.1 among.0 sought behind among.1) itself)
    (order among.0 place)
  where
    order : (a b : ℕ) → (a < b) ⊎ (b ≤ a)
    order a b = grind arith

    clash_less : (o : Ordering) → o ≡ Less → o ≡ Equal → ⊥
    clash_less o less equal = let e : Less ≡ Equal = sym less ∙ equal in cc

    clash_greater : (o : Ordering) → o ≡ Greater → o ≡ Equal → ⊥
    clash_greater o greater equal = let e : Greater ≡ Equal = sym greater ∙ equal in cc
