-- A document of the exercise has few words: so it has few postings, no list gets too many of its tags, and its stored bytes
-- take few cells. And its identifier is no other document's.
use Rattle.std.proofs.Common.{◌≡◌, ◌≤◌, ◌<◌, ◌+◌, ◌⊎◌, ⊎_elim, inl, inr, ℕ, suc, zero, List, [], ◌∷◌, length, get_or, Some, None, refl, sym, ap, ◌∙◌, subst, arith}
use Rattle.std.specs.Prelude.{Contains, slice_get}
use Rattle.std.proofs.lemmas.List.FromFn.{length-map-range_with_len}
use Rattle.std.proofs.lemmas.Option.{none-some}
use Rattle.byteorder.specs.Endian.{big_number}
use Rattle.cell_types.specs.Layout.{Layout}
use Rattle.volume_meaning.specs.Documents.{stored_bytes}
use Rattle.volume_meaning.specs.Slots.{cells_for}
use Rattle.volume_meaning.specs.Words.{HasWord, rule_of}
use Rattle.volume_meaning.specs.declared.word_rules.WordRule.{WordRule}
use Rattle.volume_meaning.specs.declared.word_rules.WordRule.TheVariants.{Ascii}
use Rattle.volume_meaning.proofs.Words.{words_are_one}
use Rattle.volume_meaning.proofs.Tags.{tags_one}
use Rattle.volume_meaning.specs.Postings.{ArePostings, AreTags, IsWordPosting, ListedPosting, list_of, tag_of}
use Rattle.volume_exercise.specs.Documents.{body_of, digit_of, document_words, identifier_of, word_at, word_of}
use Rattle.volume_exercise.proofs.EventsOn.{body_short}
use Rattle.volume_exercise.proofs.Words.{document_has_words}

-- Where each of a row has a member of another for itself, the row is not longer: the other without one member.
without : {B : Type 0} → ℕ → List B → List B
without p [] = []
without zero (y ∷ ys) = ys
without (suc p) (y ∷ ys) = y ∷ without p ys

without_length : {B : Type 0} (p : ℕ) (ys : List B) → p < length ys → length (without p ys) + 1 ≡ length ys
unfolding without
without_length p [] below = absurd (omega (arith, below))
without_length zero (y ∷ ys) below = omega arith
without_length (suc p) (y ∷ ys) below = omega (arith, without_length p ys (omega (arith, below)))

-- a member stays, unless it is the one that goes
without_in : {B : Type 0} (p : ℕ) (ys : List B) (x : B) → Contains ys x
    → Contains (without p ys) x ⊎ ((d : B) → get_or ys p d ≡ x)
unfolding without
without_in p [] x (q, low, is) = absurd (omega (arith, low))
without_in zero (y ∷ ys) x (zero, low, is) = inr (λ d. is)
without_in zero (y ∷ ys) x (suc q, low, is) = inl (q, omega (arith, low), is)
without_in (suc p) (y ∷ ys) x (zero, low, is) = inl (zero, omega arith, is)
without_in (suc p) (y ∷ ys) x (suc q, low, is) = ⊎_elim
    (λ (c : Contains (without p ys) x). inl (suc c.0, omega (arith, c.1), c.2))
    (λ (h : (d : _) → get_or ys p d ≡ x). inr h)
    (without_in p ys x (q, omega (arith, low), is))

module _ {A B : Type 0} (R : A → B → Type 0) where
  -- each has a member for itself
  pub record HaveTheirs (rows : List A) (ys : List B) : Type 0 where
    pub each : (a : A) → Contains rows a → (b : B) × Contains ys b × R a b
    pub apart : (i j : ℕ) (a c : A) (b : B) → i < j → slice_get rows i ≡ Some a → slice_get rows j ≡ Some c
        → R a b → R c b → ⊥

  at_place : (rows : List A) (a : A) → Contains rows a → (i : ℕ) × (slice_get rows i ≡ Some a)
  at_place [] a (k, low, is) = absurd (omega (arith, low))
  at_place (r ∷ rows) a (zero, low, is) = (zero, ap Some is)
  at_place (r ∷ rows) a (suc k, low, is) =
      let rest = at_place rows a (k, omega (arith, low), is) in (suc rest.0, rest.1)

  the_place : (ys : List B) (b : B) (c : Contains ys b) (d : B) → get_or ys c.0 d ≡ b
  the_place [] b (k, low, is) d = absurd (omega (arith, low))
  the_place (y ∷ ys) b (zero, low, is) d = is
  the_place (y ∷ ys) b (suc k, low, is) d = the_place ys b (k, omega (arith, low), is) d

  pub not_longer : (rows : List A) (ys : List B) → HaveTheirs rows ys → length rows ≤ length ys
  not_longer [] ys have = omega arith
  not_longer (a ∷ rows) ys have =
      let one = have.each a (zero, omega arith, refl) in
      let p = one.1.0 in
      let rest = not_longer rows (without p ys) (record {
        each = λ c among.
            let other = have.each c (suc among.0, omega (arith, among.1), among.2) in
            ⊎_elim (λ (stays : Contains (without p ys) other.0). (other.0, stays, other.2))
            (λ (same : (d : B) → get_or ys p d ≡ other.0). absurd (
            let at = at_place rows c among in
            let is : one.0 ≡ other.0 = sym (the_place ys one.0 one.1 one.0) ∙ same one.0 in
            have.apart 0 (suc at.0) a c other.0 (omega arith) refl at.1 (subst (λ (b : B). R a b) is one.2) other.2))
            (without_in p ys other.0 other.1);
        apart = λ i j c e b less here there. have.apart (suc i) (suc j) c e b (omega (arith, less)) here there;
      }) in
      omega (arith, rest, without_length p ys one.1.1)

-- the words of a document of the exercise
words_many : (i : ℕ) → length (document_words i) ≡ 20
words_many i = length-map-range_with_len (λ j. word_of (word_at i j)) 0 20

word_among : (i : ℕ) (rule : WordRule) → rule ≡ Ascii → (word : List ℕ) → HasWord rule (body_of i) word
    → Contains (document_words i) word
word_among i rule is word has =
    let ascii = subst (λ (r : WordRule). HasWord r (body_of i) word) is has in
    subst (λ (l : List (List ℕ)). Contains l word)
    (words_are_one.one Ascii (body_of i) ascii.words ascii.are
    ∙ sym (words_are_one.one Ascii (body_of i) (document_words i) (document_has_words i))) ascii.among

module _ (g : Layout) (rule : rule_of g.version ≡ Ascii) (i : ℕ) where
  -- no list gets more tags than there are words
  pub few_tags : (list : ℕ) (tags : List (List ℕ)) → AreTags g (body_of i) list tags → length tags ≤ 20
  few_tags list tags are =
      omega (
        arith,
        words_many i,
        not_longer (λ tag word. tag_of word ≡ tag) tags (document_words i) (record {
          each = λ tag among. let has = are.each tag among in
              (has.word, word_among i (rule_of g.version) rule has.word has.among, has.same);
          apart = λ p q a c word less here there first second.
              let rises = are.rise p q a c less here there in
              let same : a ≡ c = sym first ∙ second in
              let numbers : big_number 6 a ≡ big_number 6 c = ap (λ (t : List ℕ). big_number 6 t) same in
              omega (arith, rises, numbers);
        }),
      )

  -- nor has the document more postings
  pub record IsOfWord (n : ℕ) (a : ListedPosting) (word : List ℕ) : Type 0 where
    pub posting : IsWordPosting g (body_of i) n a.list a.posting
    pub list : list_of g.lists word ≡ a.list
    pub tag : tag_of word ≡ a.posting.tag

  place_among : {A : Type 0} (l : List A) (k : ℕ) (x : A) → slice_get l k ≡ Some x → Contains l x
  place_among [] k x is = absurd (none-some x is)
  place_among (y ∷ ys) zero x is = (zero, omega arith, (let same : Some y ≡ Some x = is in cc))
  place_among (y ∷ ys) (suc k) x is = let c = place_among ys k x is in (suc c.0, omega (arith, c.1), c.2)

  word_of_posting : (n : ℕ) (rows : List ListedPosting) → ArePostings g None (body_of i) n rows → (a : ListedPosting)
      → (k : ℕ) → slice_get rows k ≡ Some a → (word : List ℕ) × Contains (document_words i) word × IsOfWord n a word
  word_of_posting n rows are a k here = ⊎_elim
      (λ (p : IsWordPosting g (body_of i) n a.list a.posting).
      let has = p.are.each a.posting.tag (place_among p.tags p.ordinal a.posting.tag p.here) in (
        has.word,
        word_among i (rule_of g.version) rule has.word has.among,
        record { posting = p; list = has.list; tag = has.same },
      ))
      (λ timed. absurd (none-some timed.0 timed.1))
      (are.each k a here).1

  pub few_postings : (n : ℕ) (rows : List ListedPosting) → ArePostings g None (body_of i) n rows → length rows ≤ 20
  few_postings n rows are =
      omega (
        arith,
        words_many i,
        not_longer (IsOfWord n) rows (document_words i) (record {
          each = λ a among. let at = at_place (IsOfWord n) rows a among in word_of_posting n rows are a at.0 at.1;
          apart = λ p q a c word less here there first second. ⊎_elim
              (λ (lower : a.list < c.list). omega (arith, lower, first.list, second.list))
              (λ (same : (a.list ≡ c.list) × (a.posting.key < c.posting.key)).
              keys_apart n a c word first second same.0 same.1)
              (are.order p q a c less here there);
        }),
      )
    where
      -- of one tag there is one ordinal
      one_ordinal : (tags : List (List ℕ)) (list : ℕ) → AreTags g (body_of i) list tags → (p q : ℕ) (t : List ℕ)
          → slice_get tags p ≡ Some t → slice_get tags q ≡ Some t → p < q → ⊥
      one_ordinal tags list are_tags p q t here there less =
          let rises = are_tags.rise p q t t less here there in omega (arith, rises)

      keys_apart : (n : ℕ) (a c : ListedPosting) (word : List ℕ) → IsOfWord n a word → IsOfWord n c word
          → a.list ≡ c.list → a.posting.key < c.posting.key → ⊥
      keys_apart n a c word first second lists keys =
          let p = first.posting in
          let q = second.posting in
          let tags_same : p.tags ≡ q.tags = tags_one g (body_of i) a.list p.tags q.tags p.are
          (subst (λ (l : ℕ). AreTags g (body_of i) l q.tags) (sym lists) q.are) in
          let tag_same : c.posting.tag ≡ a.posting.tag = sym second.tag ∙ first.tag in
          one_ordinal p.tags a.list p.are p.ordinal q.ordinal a.posting.tag p.here
          (ap (λ (l : List (List ℕ)). slice_get l q.ordinal) tags_same ∙ q.here ∙ ap Some tag_same)
          (omega (arith, p.key, q.key, keys))

-- its stored bytes take at most eight cells
pub few_cells : (i : ℕ) → cells_for (length (stored_bytes (identifier_of i) (body_of i))) ≤ 8
few_cells i =
    let short = body_short i in
    let long : length (stored_bytes (identifier_of i) (body_of i)) ≡ 8 + length (body_of i) = omega arith in
    omega (arith, short, long)

-- identifiers differ
pub same_identifier : (i k : ℕ) → i < 2000 → k < 2000 → identifier_of i ≡ identifier_of k → i ≡ k
same_identifier i k below small same =
    let thousands : digit_of i 1000 ≡ digit_of k 1000 = ap (λ (l : List ℕ). get_or l 3 0) same in
    let hundreds : digit_of i 100 ≡ digit_of k 100 = ap (λ (l : List ℕ). get_or l 4 0) same in
    let tens : digit_of i 10 ≡ digit_of k 10 = ap (λ (l : List ℕ). get_or l 5 0) same in
    let ones : digit_of i 1 ≡ digit_of k 1 = ap (λ (l : List ℕ). get_or l 6 0) same in
    omega (arith, below, small, thousands, hundreds, tens, ones)
