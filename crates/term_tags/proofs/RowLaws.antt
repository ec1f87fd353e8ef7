-- The rows of the keys of a body's words are the postings of its document.
use Rattle.std.proofs.Common.{◌≡◌, ◌≤◌, ◌<◌, ◌+◌, ◌∙◌, ℕ, zero, suc, List, [], ◌∷◌, ◌++◌, Some, None, ⊎_elim, length, map, take, refl, sym, ap, subst, inl, inr, arith}
use Rattle.std.specs.Prelude.{slice_get}
use Rattle.std.proofs.lemmas.Bool.{cases_lt}
use Rattle.std.proofs.lemmas.List.{append_assoc, append-nil}
use Rattle.std.proofs.lemmas.Option.{none-some, same_Some}
use Rattle.cell_types.specs.Layout.{Layout, all_lists}
use Rattle.volume_meaning.specs.Words.{AreWords, rule_of}
use Rattle.volume_meaning.specs.Postings.{IsPostingOf, IsWordPosting, ListedPosting, ComesBefore, ArePostings}
use Rattle.volume_meaning.specs.Blocks.{PostingFields}
use Rattle.volume_meaning.proofs.Tags.{tags_one}
use Rattle.term_tags.specs.Keys.{list_in, tag_in, tags_at, AreInLists, AreKeys}
use Rattle.term_tags.specs.Listing.{listed, posting_row, rows_behind, posting_rows}
use Rattle.term_tags.proofs.Bodies.{are_tags}
use Rattle.term_tags.proofs.TagsAt.{key_at, keys_rise, member, one_more, one_of_all, tag_at}

-- the posting of a key at a place, as one of slot n
abbrev entry : ℕ → List ℕ → List ℕ → ℕ → ListedPosting
entry n all before key = listed n (posting_row all before key)

-- each key gives its row
to_row : (n : ℕ) (all before keys : List ℕ) (i key : ℕ) → slice_get keys i ≡ Some key
    → slice_get (map (listed n) (rows_behind all before keys)) i ≡ Some (entry n all (before ++ take i keys) key)
to_row n all before [] i key p = absurd (none-some key p)
to_row n all before (x ∷ keys) zero key p =
    ap (λ (k : ℕ). Some (entry n all before k)) (same_Some x key p)
    ∙ ap (λ (ks : List ℕ). Some (entry n all ks key)) (sym (append-nil before))
to_row n all before (x ∷ keys) (suc i) key p =
    to_row n all (before ++ x ∷ []) keys i key p
    ∙ ap (λ (ks : List ℕ). Some (entry n all ks key)) (append_assoc before (x ∷ []) (take i keys))

-- and each row is a key's
from_row : (n : ℕ) (all before keys : List ℕ) (i : ℕ) (a : ListedPosting)
    → slice_get (map (listed n) (rows_behind all before keys)) i ≡ Some a
    → (key : ℕ) × (slice_get keys i ≡ Some key)
from_row n all before [] i a p = absurd (none-some a p)
from_row n all before (x ∷ keys) zero a p = (x, refl)
from_row n all before (x ∷ keys) (suc i) a p = from_row n all (before ++ x ∷ []) keys i a p

-- a row of all keys: its key, and what it says
record RowAt (n : ℕ) (keys : List ℕ) (i : ℕ) (a : ListedPosting) : Type 0 where
  key : ℕ
  stands : slice_get keys i ≡ Some key
  is : entry n keys (take i keys) key ≡ a

row_at : (n : ℕ) (keys : List ℕ) (i : ℕ) (a : ListedPosting) → slice_get (map (listed n) (posting_rows keys)) i ≡ Some a
    → RowAt n keys i a
row_at n keys i a p =
    let k = from_row n keys [] keys i a p in
    record {
      key = k.0;
      stands = k.1;
      is = same_Some (entry n keys (take i keys) k.0) a (sym (to_row n keys [] keys i k.0 k.1) ∙ p);
    }

-- a posting by its parts
abbrev made : ℕ → ℕ → ℕ → List ℕ → ListedPosting
made l k last tag = record { list = l; posting = record { key = k; last = last; tag = tag } }

made_same : (l m k j s t : ℕ) (a b : List ℕ) → l ≡ m → k ≡ j → s ≡ t → a ≡ b → made l k s a ≡ made m j t b
made_same l m k j s t a b p q r e =
    ap (λ (x : ℕ). made x k s a) p ∙ ap (λ (x : ℕ). made m x s a) q ∙ ap (λ (x : ℕ). made m j x a) r
    ∙ ap (λ (x : List ℕ). made m j t x) e

-- of two rows the earlier comes before
comes : (n : ℕ) (keys : List ℕ) (i j a b : ℕ) → i < j → a < b → slice_get keys i ≡ Some a → slice_get keys j ≡ Some b
    → ComesBefore (entry n keys (take i keys) a) (entry n keys (take j keys) b)
comes n keys i j a b less rise p q = elim (cases_lt (list_in a) (list_in b)) [
  | inl lower ↦ inl lower
  | inr most ↦
      let same : list_in a ≡ list_in b = omega (arith, most, rise) in
      let more = one_more (list_in b) keys i a j p same less in
      let counts = ap (λ (l : ℕ). length (tags_at l (take i keys))) same in
      inr (same, omega (arith, more, counts))
]

no_stamp : (seconds : ℕ) → None ≡ Some seconds → ⊥
no_stamp seconds e = cc

module _ (g : Layout) (body : List ℕ) (terms : List (List ℕ)) (keys : List ℕ) (words : AreWords (rule_of g.version) body terms)
    (are : AreKeys g.lists terms keys)
    (below : AreInLists g.lists keys) (fit : (l : ℕ) → l < g.lists → length (tags_at l keys) ≤ 256) (n : ℕ) where
  -- the row of a key is a posting of the document
  is_posting : (i key : ℕ) → slice_get keys i ≡ Some key
      → IsWordPosting g body n (list_in key) (entry n keys (take i keys) key).posting
  is_posting i key p = record {
    list = below.each key (member keys i key p);
    tags = tags_at (list_in key) keys;
    are = are_tags g body terms keys words are (list_in key);
    ordinal = length (tags_at (list_in key) (take i keys));
    here = tag_at (list_in key) keys i key p refl;
    key = refl;
    last = omega (arith, one_of_all (list_in key) keys i key p refl);
  }

  -- and each posting of the document is the row of a key
  has_row : (l : ℕ) (p : PostingFields) → IsWordPosting g body n l p
      → (i : ℕ) × (slice_get (map (listed n) (posting_rows keys)) i ≡ Some (record { list = l; posting = p }))
  has_row l p h =
      let all : h.tags ≡ tags_at l keys =
      tags_one g body l h.tags (tags_at l keys) h.are (are_tags g body terms keys words are l) in
      let found = key_at l keys h.ordinal p.tag
      (subst (λ (ts : List (List ℕ)). slice_get ts h.ordinal ≡ Some p.tag) all h.here) in
      let ordinal : length (tags_at (list_in found.key) (take found.place keys)) ≡ h.ordinal =
      ap (λ (m : ℕ). length (tags_at m (take found.place keys))) found.of_list ∙ found.count in
      let count : length (tags_at (list_in found.key) keys) ≡ p.last + 1 =
      ap (λ (m : ℕ). length (tags_at m keys)) found.of_list ∙ ap length (sym all) ∙ sym h.last in (
        found.place,
        to_row n keys [] keys found.place found.key found.stands
            ∙ ap (λ (a : ListedPosting). Some a)
            (made_same (list_in found.key) l _ p.key _ p.last (tag_in found.key) p.tag found.of_list
            (omega (arith, ordinal, h.key)) (omega (arith, count)) found.tag_is),
      )

  -- so the rows are the postings
  pub are_postings : ArePostings g None body n (map (listed n) (posting_rows keys))
  are_postings = record {
    exist = record { each = λ l less. (tags_at l keys, are_tags g body terms keys words are l, fit l less) };
    order = λ i j a b less p q.
        let first = row_at n keys i a p in
        let second = row_at n keys j b q in
        let rise = keys_rise keys are.rise i j first.key second.key less first.stands second.stands in
        subst (λ (x : ListedPosting). ComesBefore x b) first.is
        (subst (λ (y : ListedPosting). ComesBefore (entry n keys (take i keys) first.key) y) second.is
        (comes n keys i j first.key second.key less rise first.stands second.stands));
    each = λ i a p.
        let row = row_at n keys i a p in
        subst (λ (x : ListedPosting). (x.list < all_lists g) × IsPostingOf g None body n x.list x.posting) row.is
        (omega (arith, below.each row.key (member keys i row.key row.stands)), inl (is_posting i row.key row.stands));
    all = λ l p less h. ⊎_elim (λ word. has_row l p word) (λ t. absurd (no_stamp t.0 t.1)) h;
  }
