-- The tags of a list among keys: one for each key of the list, in the keys' order.
use Rattle.std.proofs.Common.{◌≡◌, ◌≢◌, ◌≤◌, ◌<◌, ◌+◌, ◌⊎◌, ◌∙◌, ℕ, zero, suc, Bool, true, false, nat_eq, List, [], ◌∷◌, ◌++◌, Some, length, take, get_or, refl, sym, ap, subst, inl, inr, if◌then◌else◌, arith}
use Rattle.std.specs.Prelude.{Contains, slice_get}
use Rattle.std.specs.List.Sorted.{IsStrictlyIncreasing}
use Rattle.std.proofs.lemmas.Bool.{cases_lt}
use Rattle.std.proofs.lemmas.Bool.Decides.{nat_tests}
use Rattle.std.proofs.lemmas.List.{take_all}
use Rattle.std.proofs.lemmas.List.Kept.{AllPairs-from_increasing}
use Rattle.std.proofs.lemmas.Option.{none-some, same_Some, slice_get_within, slice_get-get_or, get_or_from_slice_get}
use Rattle.byteorder.specs.Endian.{big_number}
use Rattle.term_tags.specs.Keys.{list_in, tag_in, tags_at}
use Rattle.term_tags.proofs.KeyLaws.{number_back}

-- a test answers one or the other
bool_cases : (c : Bool) → (c ≡ true) ⊎ (c ≡ false)
bool_cases true = inl refl
bool_cases false = inr refl

equal_passes : (m n : ℕ) → m ≡ n → nat_eq m n ≡ true
equal_passes m n e = grind (arith, nat_tests)

passed_equal : (m n : ℕ) → nat_eq m n ≡ true → m ≡ n
passed_equal m n e = grind (arith, nat_tests)

truth : true ≡ false → ⊥
truth e = cc

-- numbers that do not pass differ
pub other : (m n : ℕ) → nat_eq m n ≡ false → n ≢ m
other m n e same = truth (sym (equal_passes m n (sym same)) ∙ e)

-- a key is of the list or not
pub in_list : (l key : ℕ) → (list_in key ≡ l) ⊎ (nat_eq (list_in key) l ≡ false)
in_list l key = elim (bool_cases (nat_eq (list_in key) l)) [
  | inl e ↦ inl (passed_equal (list_in key) l e)
  | inr e ↦ inr e
]

module _ (l key : ℕ) (keys : List ℕ) where
  -- a key of the list gives its tag
  pub here : list_in key ≡ l → tags_at l (key ∷ keys) ≡ tag_in key ∷ tags_at l keys
  here e =
      ap (λ (b : Bool). if b then tag_in key ∷ tags_at l keys else tags_at l keys) (equal_passes (list_in key) l e)

  -- and another gives none
  pub there : nat_eq (list_in key) l ≡ false → tags_at l (key ∷ keys) ≡ tags_at l keys
  there e = ap (λ (b : Bool). if b then tag_in key ∷ tags_at l keys else tags_at l keys) e

-- the tags of two rows of keys
pub both : (l : ℕ) (xs ys : List ℕ) → tags_at l (xs ++ ys) ≡ tags_at l xs ++ tags_at l ys
both l [] ys = refl
both l (x ∷ xs) ys = elim (in_list l x) [
  | inl y ↦ here l x (xs ++ ys) y ∙ ap (λ (ts : List (List ℕ)). tag_in x ∷ ts) (both l xs ys)
      ∙ ap (λ (ts : List (List ℕ)). ts ++ tags_at l ys) (sym (here l x xs y))
  | inr n ↦ there l x (xs ++ ys) n ∙ both l xs ys ∙ ap (λ (ts : List (List ℕ)). ts ++ tags_at l ys) (sym (there l x xs n))
]

-- a list has no more tags than there are keys
pub at_most : (l : ℕ) (keys : List ℕ) → length (tags_at l keys) ≤ length keys
at_most l [] = omega arith
at_most l (x ∷ keys) = elim (in_list l x) [
  | inl y ↦ let less = at_most l keys in omega (arith, ap length (here l x keys y), less)
  | inr n ↦ let less = at_most l keys in omega (arith, ap length (there l x keys n), less)
]

-- a key at a place of the keys, whose tag is this one, with so many of its list before it
pub record KeyAt (l : ℕ) (keys : List ℕ) (before : ℕ) (tag : List ℕ) : Type 0 where
  pub place : ℕ
  pub key : ℕ
  pub stands : slice_get keys place ≡ Some key
  pub of_list : list_in key ≡ l
  pub tag_is : tag_in key ≡ tag
  pub count : length (tags_at l (take place keys)) ≡ before

-- one key more in front, of the list
more_here : (l x : ℕ) (keys : List ℕ) (o : ℕ) (tag : List ℕ) → list_in x ≡ l → KeyAt l keys o tag
    → KeyAt l (x ∷ keys) (suc o) tag
more_here l x keys o tag y r = record {
  place = suc r.place;
  key = r.key;
  stands = r.stands;
  of_list = r.of_list;
  tag_is = r.tag_is;
  count = ap length (here l x (take r.place keys) y) ∙ ap suc r.count;
}

-- and one that is not of it
more_there : (l x : ℕ) (keys : List ℕ) (o : ℕ) (tag : List ℕ) → nat_eq (list_in x) l ≡ false → KeyAt l keys o tag
    → KeyAt l (x ∷ keys) o tag
more_there l x keys o tag n r = record {
  place = suc r.place;
  key = r.key;
  stands = r.stands;
  of_list = r.of_list;
  tag_is = r.tag_is;
  count = ap length (there l x (take r.place keys) n) ∙ r.count;
}

-- each tag of the list is that of a key
pub key_at : (l : ℕ) (keys : List ℕ) (o : ℕ) (tag : List ℕ) → slice_get (tags_at l keys) o ≡ Some tag
    → KeyAt l keys o tag
key_at l [] o tag p = absurd (none-some tag p)
key_at l (x ∷ keys) zero tag p = elim (in_list l x) [
  | inl y ↦ record {
    place = zero;
    key = x;
    stands = refl;
    of_list = y;
    tag_is = same_Some (tag_in x) tag (subst (λ (ts : List (List ℕ)). slice_get ts zero ≡ Some tag) (here l x keys y) p);
    count = refl;
  }
  | inr n ↦ more_there l x keys zero tag n
      (key_at l keys zero tag (subst (λ (ts : List (List ℕ)). slice_get ts zero ≡ Some tag) (there l x keys n) p))
]
key_at l (x ∷ keys) (suc o) tag p = elim (in_list l x) [
  | inl y ↦ more_here l x keys o tag y
      (key_at l keys o tag (subst (λ (ts : List (List ℕ)). slice_get ts (suc o) ≡ Some tag) (here l x keys y) p))
  | inr n ↦ more_there l x keys (suc o) tag n
      (key_at l keys (suc o) tag (subst (λ (ts : List (List ℕ)). slice_get ts (suc o) ≡ Some tag) (there l x keys n) p))
]

-- a key's tag stands behind those of its list before it
pub tag_at : (l : ℕ) (keys : List ℕ) (i key : ℕ) → slice_get keys i ≡ Some key → list_in key ≡ l
    → slice_get (tags_at l keys) (length (tags_at l (take i keys))) ≡ Some (tag_in key)
tag_at l [] i key p e = absurd (none-some key p)
tag_at l (x ∷ keys) zero key p e =
    let same : x ≡ key = same_Some x key p in
    ap (λ (ts : List (List ℕ)). slice_get ts zero) (here l x keys (ap list_in same ∙ e)) ∙ ap (λ (k : ℕ). Some (tag_in k)) same
tag_at l (x ∷ keys) (suc i) key p e = elim (in_list l x) [
  | inl y ↦
      ap (λ (ts : List (List ℕ)). slice_get (tags_at l (x ∷ keys)) (length ts)) (here l x (take i keys) y)
      ∙ ap (λ (ts : List (List ℕ)). slice_get ts (suc (length (tags_at l (take i keys))))) (here l x keys y)
      ∙ tag_at l keys i key p e
  | inr n ↦
      ap (λ (ts : List (List ℕ)). slice_get (tags_at l (x ∷ keys)) (length ts)) (there l x (take i keys) n)
      ∙ ap (λ (ts : List (List ℕ)). slice_get ts (length (tags_at l (take i keys)))) (there l x keys n)
      ∙ tag_at l keys i key p e
]

-- behind a key of the list there is one tag more
pub one_more : (l : ℕ) (keys : List ℕ) (i key j : ℕ) → slice_get keys i ≡ Some key → list_in key ≡ l → i < j
    → length (tags_at l (take i keys)) + 1 ≤ length (tags_at l (take j keys))
one_more l keys i key zero p e less = absurd (omega (arith, less))
one_more l [] i key (suc j) p e less = absurd (none-some key p)
one_more l (x ∷ keys) zero key (suc j) p e less =
    omega (arith, ap length (here l x (take j keys) (ap list_in (same_Some x key p) ∙ e)))
one_more l (x ∷ keys) (suc i) key (suc j) p e less = elim (in_list l x) [
  | inl y ↦
      let rest = one_more l keys i key j p e (omega (arith, less)) in
      omega (arith, rest, ap length (here l x (take i keys) y), ap length (here l x (take j keys) y))
  | inr n ↦
      let rest = one_more l keys i key j p e (omega (arith, less)) in
      omega (arith, rest, ap length (there l x (take i keys) n), ap length (there l x (take j keys) n))
]

-- and so there is among all
pub one_of_all : (l : ℕ) (keys : List ℕ) (i key : ℕ) → slice_get keys i ≡ Some key → list_in key ≡ l
    → length (tags_at l (take i keys)) + 1 ≤ length (tags_at l keys)
one_of_all l keys i key p e =
    subst (λ (ks : List ℕ). length (tags_at l (take i keys)) + 1 ≤ length (tags_at l ks)) (take_all (length keys) keys (omega arith))
    (one_more l keys i key (length keys) p e (slice_get_within keys i key p))

-- keys that rise, by their places
pub keys_rise : (keys : List ℕ) → IsStrictlyIncreasing keys → (i j a b : ℕ) → i < j → slice_get keys i ≡ Some a
    → slice_get keys j ≡ Some b → a < b
keys_rise keys rise i j a b less p q =
    let far : get_or keys i a < get_or keys j a = AllPairs-from_increasing keys rise i j a less (slice_get_within keys j b q) in
    omega (arith, far, get_or_from_slice_get keys i a a p, get_or_from_slice_get keys j b a q)

-- where the tag stands earlier, its key does
earlier : (l : ℕ) (keys : List ℕ) (i j : ℕ) (a b : List ℕ) (p : KeyAt l keys i a) (q : KeyAt l keys j b) → i < j
    → p.place < q.place
earlier l keys i j a b p q less = elim (cases_lt p.place q.place) [
  | inl h ↦ h
  | inr back ↦ elim (cases_lt q.place p.place) [
    | inl h ↦ absurd (omega (arith, less, p.count, q.count, one_more l keys q.place q.key p.place q.stands q.of_list h))
    | inr forth ↦
        let same : p.place ≡ q.place = omega (arith, back, forth) in
        absurd (omega (arith, less, sym p.count ∙ ap (λ (n : ℕ). length (tags_at l (take n keys))) same ∙ q.count))
  ]
]

-- of two keys of a list the smaller has the smaller tag
tag_less : (l a b : ℕ) → list_in a ≡ l → list_in b ≡ l → a < b → big_number 6 (tag_in a) < big_number 6 (tag_in b)
tag_less l a b p q less = omega (arith, p, q, less, number_back a, number_back b)

-- the tags of a list rise as the keys do
pub tags_rise : (l : ℕ) (keys : List ℕ) → IsStrictlyIncreasing keys → (i j : ℕ) (a b : List ℕ) → i < j
    → slice_get (tags_at l keys) i ≡ Some a → slice_get (tags_at l keys) j ≡ Some b → big_number 6 a < big_number 6 b
tags_rise l keys rise i j a b less p q =
    let first = key_at l keys i a p in
    let second = key_at l keys j b q in
    let keys_less = keys_rise keys rise first.place second.place first.key second.key
    (earlier l keys i j a b first second less) first.stands second.stands in
    omega (
      arith,
      tag_less l first.key second.key first.of_list second.of_list keys_less,
      ap (big_number 6) first.tag_is,
      ap (big_number 6) second.tag_is,
    )

-- a member stands at a place
pub at_place : {A : Type 0} → (xs : List A) (x : A) → Contains xs x → (i : ℕ) × (slice_get xs i ≡ Some x)
at_place {A} xs x (i, low, is) = (i, subst (λ (y : A). slice_get xs i ≡ Some y) is (slice_get-get_or xs i x low))

-- and what stands at a place is a member
pub member : {A : Type 0} → (xs : List A) (i : ℕ) (x : A) → slice_get xs i ≡ Some x → Contains xs x
member xs i x p = (i, slice_get_within xs i x p, get_or_from_slice_get xs i x x p)
