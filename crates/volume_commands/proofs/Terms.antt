-- The terms of the first words of a query, as they are read one after another.
use Rattle.std.proofs.Common.{◌≡◌, ◌+◌, ◌<◌, ◌≤◌, ◌⊎◌, ℕ, List, [], ◌∷◌, ◌++◌, String, Some, length, length-append, map, refl, sym, ap, ◌∙◌, subst, inl, inr, ⊎_elim, arith}
use Rattle.std.proofs.lemmas.Bool.{cases_lt}
use Rattle.std.proofs.lemmas.List.Elements.{Contains-append_left, Contains-append_right, Contains-push, Contains-push_cases}
use Rattle.std.proofs.lemmas.Option.{get_or_from_slice_get, slice_get-map, slice_get_read, slice_get_within}
use Rattle.std.specs.Global.{Global}
use Rattle.std.specs.Option.{option_map}
use Rattle.std.specs.Prelude.{Contains, get_or, slice_get}
use Rattle.std.specs.String.{string_bytes}
use Rattle.volume_meaning.specs.declared.word_rules.WordRule.{WordRule}
use Rattle.volume_commands.specs.Finding.{AreTermsOf, IsFirstBadWord, IsOneTerm, StandOnce}

-- the terms are those of the first n words
pub record TermsSoFar (rule : WordRule) (asked terms : List (List ℕ)) (n : ℕ) : Type 0 where
  pub all : (j : ℕ) (word : List ℕ) → j < n → slice_get asked j ≡ Some word
      → (term : List ℕ) × IsOneTerm rule word term × Contains terms term
  pub only : (term : List ℕ) → Contains terms term
      → (j : ℕ) × (word : List ℕ) × (j < n) × (slice_get asked j ≡ Some word) × IsOneTerm rule word term
  pub once : StandOnce terms
  pub few : length terms ≤ n

-- the word that was read is the one of its place
pub word_at : (words : List (String Global)) (n : ℕ) (word : String Global) → n < length words
    → word ≡ get_or words n word → slice_get (map string_bytes words) n ≡ Some (string_bytes word)
word_at words n word less is =
    slice_get-map string_bytes words n
    ∙ ap (option_map string_bytes) (slice_get_read words (length words) n word refl less is)

pub no_terms : (rule : WordRule) (asked : List (List ℕ)) → TermsSoFar rule asked [] 0
no_terms rule asked = record {
  all = λ j word less at. absurd (omega (arith, less));
  only = λ term among. absurd (omega (arith, among.1));
  once = tt;
  few = omega arith;
}

-- one more that is not among them stands once, too
once_more : (terms : List (List ℕ)) (last : List ℕ) → StandOnce terms → (Contains terms last → ⊥)
    → StandOnce (terms ++ last ∷ [])
once_more [] last once new = (λ among. absurd (omega (arith, among.1)), tt)
once_more (first ∷ rest) last once new = (
  λ among. ⊎_elim (λ (old : Contains rest first). once.0 old)
      (λ (same : last ≡ first). new (0, omega arith, sym same)) (Contains-push_cases rest last first among),
  once_more rest last once.1 (λ among. new (Contains-append_right (first ∷ []) rest last among)),
)

some_is : (a b : List ℕ) → Some a ≡ Some b → a ≡ b
some_is a b e = cc

module _ {rule : WordRule} {asked terms : List (List ℕ)} {n : ℕ} (so_far : TermsSoFar rule asked terms n) where
  -- where a word does not hold exactly one term, and all before it do, it is the first
  pub first_bad : (word : List ℕ) → slice_get asked n ≡ Some word
      → ((term : List ℕ) → IsOneTerm rule word term → ⊥) → IsFirstBadWord rule asked (n + 1)
  first_bad word at bad = record {
    word = word;
    from = omega arith;
    at = ap (slice_get asked) (omega arith) ∙ at;
    bad = λ one. bad one.term one.is;
    before = λ j other less stands.
        let one = so_far.all j other (omega (arith, less)) stands in record { term = one.0; is = one.1 };
  }

  -- where all words were read, the terms are theirs
  pub are_terms : n ≡ length asked → AreTermsOf rule asked terms
  are_terms whole = record {
    all = λ word among.
        so_far.all among.0 word (omega (arith, among.1, whole))
        (slice_get_read asked (length asked) among.0 word refl among.1 (sym among.2));
    only = λ term among.
        let from = so_far.only term among in
        let at : Contains asked from.1 = (
          from.0,
          slice_get_within asked from.0 from.1 from.3,
          get_or_from_slice_get asked from.0 from.1 from.1 from.3,
        ) in
        (from.1, at, from.4);
    once = so_far.once;
    few = omega (arith, so_far.few, whole);
  }

  -- one word more: its term is among those that more are
  module _ (more : List (List ℕ)) (word term : List ℕ) (at : slice_get asked n ≡ Some word)
      (is : IsOneTerm rule word term)
      (grows : (t : List ℕ) → Contains terms t → Contains more t) (among : Contains more term)
      (only : (t : List ℕ) → Contains more t → Contains terms t ⊎ (term ≡ t)) (once : StandOnce more)
      (few : length more ≤ n + 1) where
    all_more : (j : ℕ) (other : List ℕ) → slice_get asked j ≡ Some other → (j < n) ⊎ (n ≤ j) → j < n + 1
        → (t : List ℕ) × IsOneTerm rule other t × Contains more t
    all_more j other stands (inl less) below =
        let one = so_far.all j other less stands in (one.0, one.1, grows one.0 one.2)
    all_more j other stands (inr past) below =
        let last : j ≡ n = omega (arith, past, below) in
        let same = some_is word other (sym at ∙ ap (slice_get asked) (sym last) ∙ stands) in
        (term, subst (λ (w : List ℕ). IsOneTerm rule w term) same is, among)

    only_more : (t : List ℕ) → Contains terms t ⊎ (term ≡ t)
        → (j : ℕ) × (w : List ℕ) × (j < n + 1) × (slice_get asked j ≡ Some w) × IsOneTerm rule w t
    only_more t (inl old) =
        let from = so_far.only t old in (from.0, from.1, omega (arith, from.2), from.3, from.4)
    only_more t (inr new) = (n, word, omega arith, at, subst (λ (t : List ℕ). IsOneTerm rule word t) new is)

    terms_more : TermsSoFar rule asked more (n + 1)
    terms_more = record {
      all = λ j other less stands. all_more j other stands (cases_lt j n) less;
      only = λ t has. only_more t (only t has);
      once = once;
      few = few;
    }

  module _ (word term : List ℕ) (at : slice_get asked n ≡ Some word) (is : IsOneTerm rule word term) where
    -- its term is there already
    pub term_again : Contains terms term → TermsSoFar rule asked terms (n + 1)
    term_again among = terms_more terms word term at is (λ t has. has) among (λ t has. inl has) so_far.once
        (omega (arith, so_far.few))

    -- its term comes behind, where it is not there yet
    pub term_new : (Contains terms term → ⊥) → TermsSoFar rule asked (terms ++ term ∷ []) (n + 1)
    term_new new = terms_more (terms ++ term ∷ []) word term at is
        (λ t has. Contains-append_left terms (term ∷ []) t has) (Contains-push terms term)
        (λ t has. Contains-push_cases terms term t has) (once_more terms term so_far.once new)
        (omega (arith, so_far.few, length-append terms (term ∷ [])))
