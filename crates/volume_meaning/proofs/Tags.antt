-- A body has one list of tags in a list.
use Rattle.std.proofs.Common.{◌≡◌, ◌≤◌, ◌<◌, ◌+◌, ◌/◌, ⊎_elim, ℕ, suc, zero, List, [], ◌∷◌, Option, Some, length, refl, ap, arith}
use Rattle.std.specs.Prelude.{slice_get}
use Rattle.std.proofs.lemmas.Option.{slice_get_within}
use Rattle.byteorder.specs.Endian.{big_number}
use Rattle.cell_types.specs.Layout.{Layout}
use Rattle.volume_meaning.proofs.Lists.{Rising, one_list}
use Rattle.volume_meaning.specs.Postings.{AreTags, HasPostings, IsPostingOf, IsWordPosting}
use Rattle.volume_meaning.specs.Blocks.{PostingFields}

-- the number that tags rise by
abbrev number : List ℕ → ℕ
number tag = big_number 6 tag

-- tags that rise by their places rise one after another
rising : (from : ℕ) (tags : List (List ℕ)) → ((i : ℕ) (a : List ℕ) → slice_get tags i ≡ Some a → from ≤ number a)
    → ((i j : ℕ) (a b : List ℕ) → i < j → slice_get tags i ≡ Some a → slice_get tags j ≡ Some b → number a < number b)
    → Rising number from tags
rising from [] low rise = tt
rising from (tag ∷ tags) low rise = (
  low zero tag refl,
  rising (number tag + 1) tags
      (λ i a is. let h : number tag < number a = rise zero (suc i) tag a (omega arith) refl is in omega arith)
      (λ i j a b less p q. rise (suc i) (suc j) a b (omega arith) p q),
)

pub tags_one : (g : Layout) (body : List ℕ) (l : ℕ) (one other : List (List ℕ)) → AreTags g body l one
    → AreTags g body l other → one ≡ other
tags_one g body l one other a b =
    one_list number 0 one other (rising 0 one (λ i x is. omega arith) a.rise)
    (rising 0 other (λ i x is. omega arith) b.rise)
    (λ x has. b.all x (a.each x has)) (λ x has. a.all x (b.each x has))

-- a posting of a list of words is one of a word
pub of_word : (g : Layout) (stamp : Option ℕ) (body : List ℕ) (n l : ℕ) (p : PostingFields) → l < g.lists
    → IsPostingOf g stamp body n l p → IsWordPosting g body n l p
of_word g stamp body n l p list is = ⊎_elim (λ word. word) (λ t. absurd (omega (arith, list, t.2))) is

-- and its key says of which slot it is
pub word_slot : (g : Layout) (body : List ℕ) (n l : ℕ) (p : PostingFields) → HasPostings g body
    → IsWordPosting g body n l p → p.key / 256 ≡ n
word_slot g body n l p has is =
    let fits = has.each l is.list in
    let same = tags_one g body l is.tags fits.0 is.are fits.1 in
    let below = slice_get_within is.tags is.ordinal p.tag is.here in
    omega (arith, is.key, below, ap length same, fits.2)
