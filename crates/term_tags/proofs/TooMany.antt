-- At most one list is the lowest with too many tags.
use Rattle.std.proofs.Common.{◌≡◌, ◌<◌, ⊎_elim, ℕ, List, length, ap, sym, subst, ◌∙◌, arith}
use Rattle.std.proofs.lemmas.Bool.{cases_lt}
use Rattle.cell_types.specs.Layout.{Layout}
use Rattle.volume_meaning.specs.Postings.{AreTags, HasPostings}
use Rattle.volume_meaning.proofs.Tags.{tags_one}
use Rattle.term_tags.specs.Listing.{GetsTooMany, TooManyIsOne}

module _ (g : Layout) (body : List ℕ) where
  -- few tags of a list are not many
  few : (l count : ℕ) → GetsTooMany g body l count → (tags : List (List ℕ)) → AreTags g body l tags → length tags ≡ count
  few l count h tags are = ap length (tags_one g body l tags h.tags are h.are) ∙ h.number

  -- no list below the lowest has too many
  not_below : (l m count number : ℕ) → GetsTooMany g body l count → GetsTooMany g body m number → l < m → ⊥
  not_below l m count number a b less =
      let low = b.lowest l less in
      omega (arith, few l count a low.0 low.1, low.2, a.many)

  lists_same : (l m count number : ℕ) → GetsTooMany g body l count → GetsTooMany g body m number → l ≡ m
  lists_same l m count number a b = ⊎_elim
      (λ (less : l < m). absurd (not_below l m count number a b less))
      (λ most. ⊎_elim
      (λ (less : m < l). absurd (not_below m l number count b a less))
      (λ least. omega (arith, most, least))
      (cases_lt m l))
      (cases_lt l m)

  counts_same : (l m count number : ℕ) → l ≡ m → GetsTooMany g body l count → GetsTooMany g body m number → count ≡ number
  counts_same l m count number same a b =
      sym (few l count a b.tags (subst (λ (k : ℕ). AreTags g body k b.tags) (sym same) b.are)) ∙ b.number

  none : (l count : ℕ) → GetsTooMany g body l count → HasPostings g body → ⊥
  none l count a has =
      let fits = has.each l a.below in
      omega (arith, few l count a fits.0 fits.1, fits.2, a.many)

pub too_many_is_one : TooManyIsOne
too_many_is_one = record {
  one = λ g body l m count number a b.
      let same = lists_same g body l m count number a b in (same, counts_same g body l m count number same a b);
  none = none;
}
