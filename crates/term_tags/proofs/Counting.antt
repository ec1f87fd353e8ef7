-- Counting the keys of each list, one key after another.
use Rattle.std.proofs.Common.{◌≡◌, ◌<◌, ◌+◌, ◌∙◌, ℕ, List, [], ◌∷◌, ◌++◌, length, replicate, set, slice_index, get_or, take, drop, false, nat_eq, refl, sym, ap, subst, inl, inr, arith, length-append}
use Rattle.std.specs.Prelude.{◌≤◌}
use Rattle.std.proofs.lemmas.List.{append-nil, drop_more, get_or_read, take_more, length-set, length-take-le, get_or-replicate, get_or-set_other, get_or-set_same, length-replicate}
use Rattle.std.proofs.lemmas.List.Elements.{Contains-get_or}
use Rattle.std.proofs.lemmas.Option.{slice_get-get_or}
use Rattle.term_tags.specs.Keys.{list_in, tags_at, AreInLists}
use Rattle.term_tags.specs.Listing.{AllFit, AreCounts, posting_row, rows_behind}
use Rattle.term_tags.specs.declared.rows.Posting.{Posting}
use Rattle.term_tags.proofs.TagsAt.{at_most, both, here, in_list, one_of_all, other, there}

-- no key yet
pub none_counted : (lists : ℕ) → AreCounts lists [] (replicate lists 0)
none_counted lists = record {
  long = length-replicate lists 0;
  each = λ l less. get_or-replicate lists l 0 0 less;
}

-- one key more of a list
counted : (l : ℕ) (keys : List ℕ) (key : ℕ) → list_in key ≡ l
    → length (tags_at l (keys ++ key ∷ [])) ≡ length (tags_at l keys) + 1
counted l keys key e =
    ap length (both l keys (key ∷ [])) ∙ length-append (tags_at l keys) (tags_at l (key ∷ []))
    ∙ ap (λ (ts : List (List ℕ)). length (tags_at l keys) + length ts) (here l key [] e)

-- and of another
passed : (l : ℕ) (keys : List ℕ) (key : ℕ) → nat_eq (list_in key) l ≡ false
    → length (tags_at l (keys ++ key ∷ [])) ≡ length (tags_at l keys)
passed l keys key e =
    ap length (both l keys (key ∷ []) ∙ ap (λ (ts : List (List ℕ)). tags_at l keys ++ ts) (there l key [] e)
    ∙ append-nil (tags_at l keys))

-- the counts with one key more
pub more_counted : (lists : ℕ) (keys counts : List ℕ) (key count : ℕ) → AreCounts lists keys counts → list_in key < lists
    → count ≡ slice_index counts (list_in key) + 1 → AreCounts lists (keys ++ key ∷ []) (set counts (list_in key) count)
more_counted lists keys counts key count are below is = record {
  long = length-set counts (list_in key) count ∙ are.long;
  each = each;
}
  where
    each : (l : ℕ) → l < lists → slice_index (set counts (list_in key) count) l ≡ length (tags_at l (keys ++ key ∷ []))
    each l less = elim (in_list l key) [
      | inl y ↦
          ap (λ (m : ℕ). slice_index (set counts (list_in key) count) m) (sym y)
          ∙ get_or-set_same counts (list_in key) count 0 (omega (arith, below, are.long)) ∙ is
          ∙ ap (λ (m : ℕ). slice_index counts m + 1) y ∙ ap (λ (m : ℕ). m + 1) (are.each l less)
          ∙ sym (counted l keys key y)
      | inr n ↦
          get_or-set_other counts (list_in key) l count 0 (other (list_in key) l n) ∙ are.each l less
          ∙ sym (passed l keys key n)
    ]

module _ {lists : ℕ} {keys counts : List ℕ} {at value : ℕ} (i : ℕ) (are : AreCounts lists (take i keys) counts)
    (in_lists : AreInLists lists keys) (less : i < length keys) (is : at ≡ list_in (slice_index keys i))
    (read : value ≡ get_or counts at value) where
  -- the list of the key at a place
  pub below : list_in (slice_index keys i) < lists
  below = in_lists.each (slice_index keys i) (Contains-get_or keys i 0 less)

  -- its count that is read
  pub value_is : value ≡ slice_index counts (list_in (slice_index keys i))
  value_is =
      get_or_read counts at value (omega (arith, is, below, are.long)) read 0 ∙ ap (λ (n : ℕ). slice_index counts n) is

  -- the counts with this key
  pub step : AreCounts lists (take (i + 1) keys) (set counts at (value + 1))
  step =
      subst (λ (ks : List ℕ). AreCounts lists ks (set counts at (value + 1))) (sym (take_more keys i 0 less))
      (subst (λ (n : ℕ). AreCounts lists (take i keys ++ slice_index keys i ∷ []) (set counts n (value + 1))) (sym is)
      (more_counted lists (take i keys) counts (slice_index keys i) (value + 1) are below (ap (λ (n : ℕ). n + 1) value_is)))

  -- it counts fewer keys than there are
  pub fewer : value < length keys
  fewer =
      omega (
        arith,
        less,
        value_is,
        are.each (list_in (slice_index keys i)) below,
        at_most (list_in (slice_index keys i)) (take i keys),
        length-take-le i keys (omega (arith, less)),
      )

  -- and where the list's count of all keys fits, fewer than that
  pub room : (all : List ℕ) → AreCounts lists keys all → AllFit all lists
      → (value + 1 ≤ slice_index all at) × (slice_index all at ≤ 256)
  room all counted fit =
      let same : slice_index all at ≡ slice_index all (list_in (slice_index keys i)) = ap (λ (n : ℕ). slice_index all n) is in (
        omega (
          arith,
          same,
          value_is,
          counted.each (list_in (slice_index keys i)) below,
          are.each (list_in (slice_index keys i)) below,
          one_of_all (list_in (slice_index keys i)) keys i (slice_index keys i) (slice_get-get_or keys i 0 less) refl,
        ),
        omega (arith, same, fit.each (list_in (slice_index keys i)) below),
      )

-- the row of a key is next
pub next_row : (keys : List ℕ) (i : ℕ) → i < length keys → rows_behind keys (take i keys) (drop i keys)
    ≡ posting_row keys (take i keys) (slice_index keys i) ∷ rows_behind keys (take (i + 1) keys) (drop (i + 1) keys)
next_row keys i less =
    ap (rows_behind keys (take i keys)) (drop_more keys i 0 less)
    ∙ ap (λ (ks : List ℕ). posting_row keys (take i keys) (slice_index keys i) ∷ rows_behind keys ks (drop (i + 1) keys))
    (sym (take_more keys i 0 less))

-- a posting by its parts
abbrev made : ℕ → ℕ → ℕ → List ℕ → Posting
made l o last tag = record { list = l; ordinal = o; last = last; tag = tag }

pub made_same : (l m o q s t : ℕ) (a b : List ℕ) → l ≡ m → o ≡ q → s ≡ t → a ≡ b → made l o s a ≡ made m q t b
made_same l m o q s t a b x y z e =
    ap (λ (n : ℕ). made n o s a) x ∙ ap (λ (n : ℕ). made m n s a) y ∙ ap (λ (n : ℕ). made m q n a) z
    ∙ ap (λ (n : List ℕ). made m q t n) e
