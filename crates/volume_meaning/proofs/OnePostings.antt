-- A slot's document, with its stamp, has one list of postings, and each of them has a cell.
use Rattle.std.proofs.Common.{◌≡◌, ◌<◌, ◌≤◌, ◌+◌, ◌*◌, ⊎_elim, ℕ, List, [], ◌∷◌, length, Option, Some, zero, suc, refl, ap, sym, arith}
use Rattle.std.specs.Prelude.{Contains, slice_get}
use Rattle.std.specs.Option.{unwrap_or}
use Rattle.std.proofs.Math.Nat.{mul-le-mul_right}
use Rattle.std.proofs.lemmas.Option.{get_or_from_slice_get, slice_get_read, slice_get_within}
use Rattle.cell_types.specs.Layout.{Layout}
use Rattle.volume_meaning.proofs.Lists.{Rising, one_list}
use Rattle.volume_meaning.specs.Blocks.{PostingFields}
use Rattle.volume_meaning.specs.OnePostings.{KeysFit, PostingsAreOne}
use Rattle.volume_meaning.specs.Postings.{ListedPosting, ArePostings, IsWordPosting, time_posting}
use Rattle.volume_meaning.proofs.Tags.{tags_one}

at_place : (xs : List ListedPosting) (x : ListedPosting) → Contains xs x → (i : ℕ) × (slice_get xs i ≡ Some x)
at_place xs x (i, below, is) = (i, slice_get_read xs (length xs) i x refl below (sym is))

member : (xs : List ListedPosting) (i : ℕ) (x : ListedPosting) → slice_get xs i ≡ Some x → Contains xs x
member xs i x p = (i, slice_get_within xs i x p, get_or_from_slice_get xs i x x p)

module _ (g : Layout) (stamp : Option ℕ) (body : List ℕ) (n : ℕ) where
  -- more than each key
  abbrev most : ℕ
  most = 256 * (n + 1) + unwrap_or stamp 0 + 1

  -- by list and key
  abbrev number : ListedPosting → ℕ
  number a = a.list * most + a.posting.key

  small : (rows : List ListedPosting) → ArePostings g stamp body n rows → (i : ℕ) (a : ListedPosting)
      → slice_get rows i ≡ Some a → a.posting.key < most
  small rows are i a at = ⊎_elim
      (λ (is : IsWordPosting g body n a.list a.posting).
      let t = are.exist.each a.list is.list in
      let same : is.tags ≡ t.0 = tags_one g body a.list is.tags t.0 is.are t.1 in
      let below = slice_get_within is.tags is.ordinal a.posting.tag is.here in
      omega (arith, is.key, below, ap length same, t.2))
      (λ (t : (seconds : ℕ) × (stamp ≡ Some seconds) × (a.list ≡ g.lists) × (a.posting ≡ time_posting n seconds)).
      omega (arith, ap (λ (s : Option ℕ). unwrap_or s 0) t.1, ap (λ (q : PostingFields). q.key) t.3))
      (are.each i a at).1

  greater : (rows : List ListedPosting) → ArePostings g stamp body n rows → (i j : ℕ) (a b : ListedPosting) → i < j
      → slice_get rows i ≡ Some a → slice_get rows j ≡ Some b → number a < number b
  greater rows are i j a b less p q = ⊎_elim
      (λ (low : a.list < b.list).
      let more : (a.list + 1) * most ≤ b.list * most =
      mul-le-mul_right most (omega (arith, low)) in
      omega (arith, more, small rows are i a p))
      (λ (s : (a.list ≡ b.list) × (a.posting.key < b.posting.key)).
      let same : a.list * most ≡ b.list * most = ap (λ (l : ℕ). l * most) s.0 in
      omega (arith, same, s.1))
      (are.order i j a b less p q)

  rising : (from : ℕ) (rows : List ListedPosting)
      → ((i : ℕ) (a : ListedPosting) → slice_get rows i ≡ Some a → from ≤ number a)
      → ((i j : ℕ) (a b : ListedPosting) → i < j → slice_get rows i ≡ Some a → slice_get rows j ≡ Some b
      → number a < number b)
      → Rising number from rows
  rising from [] low rise = tt
  rising from (a ∷ rows) low rise = (
    low zero a refl,
    rising (number a + 1) rows
        (λ i b is. let h : number a < number b = rise zero (suc i) a b (omega arith) refl is in omega (arith, h))
        (λ i j b c less p q. rise (suc i) (suc j) b c (omega (arith, less)) p q),
  )

  within : (first second : List ListedPosting) → ArePostings g stamp body n first → ArePostings g stamp body n second
      → (x : ListedPosting) → Contains first x → Contains second x
  within first second a b x has =
      let here = at_place first x has in
      let is = a.each here.0 x here.1 in
      let there = b.all x.list x.posting is.0 is.1 in
      member second there.0 x there.1

  -- a document's postings are one row
  pub one_rows : (first second : List ListedPosting) → ArePostings g stamp body n first
      → ArePostings g stamp body n second
      → first ≡ second
  one_rows first second a b = one_list number 0 first second
      (rising 0 first (λ i x is. omega arith) (greater first a))
      (rising 0 second (λ i x is. omega arith) (greater second b))
      (within first second a b) (within second first b a)

pub postings_one : PostingsAreOne
postings_one = one_rows

pub keys_fit : KeysFit
keys_fit g stamp body n l p has is = ⊎_elim
    (λ (w : IsWordPosting g body n l p).
    let t = has.each l w.list in
    let same : w.tags ≡ t.0 = tags_one g body l w.tags t.0 w.are t.1 in
    let below = slice_get_within w.tags w.ordinal p.tag w.here in
    (omega (arith, w.key, w.last, below, ap length same, t.2), omega (arith, w.last, ap length same, t.2)))
    (λ (t : (seconds : ℕ) × (stamp ≡ Some seconds) × (l ≡ g.lists) × (p ≡ time_posting n seconds)).
    let last : p.last ≡ 255 = ap (λ (q : PostingFields). q.last) t.3 in
    (omega (arith, last), omega (arith, last)))
    is
