-- A term is one of the words that end within a row exactly where it stands somewhere in it.
use Rattle.std.proofs.Common.{◌≡◌, ◌<◌, ◌≤◌, ◌+◌, nat_eq, ℕ, zero, suc, true, false, List, [], ◌∷◌, ◌++◌, length, take, drop, slice_index, refl, sym, ap, ◌∙◌, inl, inr, subst, ⊎_elim, arith}
use Rattle.std.specs.Prelude.{Contains}
use Rattle.std.proofs.lemmas.Bool.{and_parts, cases_lt}
use Rattle.std.proofs.lemmas.List.{append_assoc, take_all, take-append-drop, length-append, get_or_append_left}
use Rattle.std.proofs.lemmas.List.Elements.{Contains-append_left, Contains-append_right, Contains-append_cases}
use Rattle.std.proofs.Math.Seq.{get_or-append_seam}
use Rattle.volume_meaning.specs.Words.{is_word_byte, lowered, ended}
use Rattle.word_reader.specs.RowWords.{SpellsAt, StandsAt, are_same, ended_after, has_word, is_behind, is_one_of, run_after}
use Rattle.word_reader.proofs.Reading.{bool_cases, ended_end, ended_last, ended_more, ended_on, run_end, run_gone, run_last, run_on}
use Rattle.word_reader.proofs.Seeking.{and_of, carried, ended_has, has_ended, is_nat_eq, nat_eq_is, or_left, or_parts, or_right, take_more_of, true_false}

-- bytes that are the same by the test are equal
same_is : (xs ys : List ℕ) → are_same xs ys ≡ true → xs ≡ ys
same_is [] [] e = refl
same_is [] (y ∷ ys) e = absurd (true_false (sym e))
same_is (x ∷ xs) [] e = absurd (true_false (sym e))
same_is (x ∷ xs) (y ∷ ys) e =
    let p = and_parts (nat_eq x y) (are_same xs ys) e in
    ap (λ (l : List ℕ). x ∷ l) (same_is xs ys p.1) ∙ ap (λ (z : ℕ). z ∷ ys) (nat_eq_is x y p.0)

is_same : (xs : List ℕ) → are_same xs xs ≡ true
is_same [] = refl
is_same (x ∷ xs) = and_of (nat_eq x x) (are_same xs xs) (is_nat_eq x x refl) (is_same xs)

-- one of the words by the test is among them
pub one_is : (words : List (List ℕ)) (term : List ℕ) → is_one_of words term ≡ true → Contains words term
one_is [] term e = absurd (true_false (sym e))
one_is (word ∷ words) term e =
    ⊎_elim (λ (here : are_same word term ≡ true). (0, omega arith, same_is word term here))
    (λ (behind : is_one_of words term ≡ true).
    let k = one_is words term behind in (suc k.0, omega (arith, k.1), k.2))
    (or_parts (are_same word term) (is_one_of words term) e)

-- and one that is among them is one of the words by the test
pub is_one : (words : List (List ℕ)) (term : List ℕ) → Contains words term → is_one_of words term ≡ true
is_one [] term (k, low, is) = absurd (omega (arith, low))
is_one (word ∷ words) term (zero, low, is) =
    or_left (are_same word term) (is_one_of words term)
    (subst (λ (t : List ℕ). are_same word t ≡ true) is (is_same word))
is_one (word ∷ words) term (suc k, low, is) =
    or_right (are_same word term) (is_one_of words term) (is_one words term (k, omega (arith, low), is))

-- the run behind bytes that follow others
pub run_append : (xs ys run : List ℕ) → run_after run (xs ++ ys) ≡ run_after (run_after run xs) ys
run_append [] ys run = refl
run_append (a ∷ xs) ys run = elim (bool_cases (is_word_byte a)) [
  | inl on ↦ run_on run (xs ++ ys) a on ∙ run_append xs ys (run ++ lowered a ∷ [])
      ∙ ap (λ (r : List ℕ). run_after r ys) (sym (run_on run xs a on))
  | inr off ↦ run_end run (xs ++ ys) a off ∙ run_append xs ys []
      ∙ ap (λ (r : List ℕ). run_after r ys) (sym (run_end run xs a off))
]

-- and the words that have ended behind them
pub ended_append : (xs ys run : List ℕ)
    → ended_after run (xs ++ ys) ≡ ended_after run xs ++ ended_after (run_after run xs) ys
ended_append [] ys run = refl
ended_append (a ∷ xs) ys run = elim (bool_cases (is_word_byte a)) [
  | inl on ↦ ended_on run (xs ++ ys) a on ∙ ended_append xs ys (run ++ lowered a ∷ [])
      ∙ ap (λ (l : List (List ℕ)). l ++ ended_after (run_after (run ++ lowered a ∷ []) xs) ys) (sym (ended_on run xs a on))
      ∙ ap (λ (r : List ℕ). ended_after run (a ∷ xs) ++ ended_after r ys) (sym (run_on run xs a on))
  | inr off ↦ ended_end run (xs ++ ys) a off ∙ ap (λ (l : List (List ℕ)). ended run ++ l) (ended_append xs ys [])
      ∙ sym (append_assoc (ended run) (ended_after [] xs) (ended_after (run_after [] xs) ys))
      ∙ ap (λ (l : List (List ℕ)). l ++ ended_after (run_after [] xs) ys) (sym (ended_end run xs a off))
      ∙ ap (λ (r : List ℕ). ended_after run (a ∷ xs) ++ ended_after r ys) (sym (run_end run xs a off))
]

-- a run that ends at a place of a row began at this one
record IsRun (row : List ℕ) (start n : ℕ) (run : List ℕ) : Type 0 where
  sum : start + length run ≡ n
  apart : is_behind row start ≡ false
  spells : SpellsAt row start run

next : (n : ℕ) → n + 1 ≡ suc n
next n = omega arith

-- a front of a row with one byte more
more_of : (row : List ℕ) (n : ℕ) → n < length row → take (suc n) row ≡ take n row ++ slice_index row n ∷ []
more_of row n less = ap (λ (m : ℕ). take m row) (sym (next n)) ∙ take_more_of row n less

-- the run with one byte more
run_grows : (row run : List ℕ) (start n : ℕ) → IsRun row start n run → is_word_byte (slice_index row n) ≡ true
    → IsRun row start (suc n) (run ++ lowered (slice_index row n) ∷ [])
run_grows row run start n is on = record {
  sum = omega (arith, is.sum, length-append run (lowered (slice_index row n) ∷ []));
  apart = is.apart;
  spells = λ k less. elim (cases_lt k (length run)) [
    | inl before ↦
        let old = is.spells k before in record {
          of_word = old.of_word;
          same = old.same ∙ sym (get_or_append_left run (lowered (slice_index row n) ∷ []) 0 k before);
        }
    | inr last ↦
        let here : k ≡ length run = omega (arith, last, less, length-append run (lowered (slice_index row n) ∷ [])) in
        let place : start + k ≡ n = omega (arith, here, is.sum) in record {
          of_word = subst (λ (p : ℕ). is_word_byte (slice_index row p) ≡ true) (sym place) on;
          same = ap (λ (p : ℕ). lowered (slice_index row p)) place
              ∙ sym (get_or-append_seam run (lowered (slice_index row n)) [] 0)
              ∙ ap (λ (p : ℕ). slice_index (run ++ lowered (slice_index row n) ∷ []) p) (sym here);
        }
  ];
}

-- where the run began that has not ended at a place of a row
runs : (row : List ℕ) (n : ℕ) → n ≤ length row → (start : ℕ) × IsRun row start n (run_after [] (take n row))
runs row zero low = (0, record { sum = refl; apart = refl; spells = λ k less. absurd (omega (arith, less)) })
runs row (suc n) low =
    let less : n < length row = omega (arith, low) in
    let b = slice_index row n in
    elim (bool_cases (is_word_byte b)) [
      | inl on ↦
          let old = runs row n (omega (arith, low)) in (
            old.0,
            subst (IsRun row old.0 (suc n))
                (sym (ap (run_after []) (more_of row n less) ∙ run_last b on (take n row) []))
                (run_grows row (run_after [] (take n row)) old.0 n old.1 on),
          )
      | inr off ↦ (
        suc n,
        subst (IsRun row (suc n) (suc n))
            (sym (ap (run_after []) (more_of row n less) ∙ run_gone b off (take n row) []))
            (record { sum = omega arith; apart = off; spells = λ k less. absurd (omega (arith, less)) }),
      )
    ]

-- a run that ends within the row stands in it
stands_run : (row run term : List ℕ) (start n : ℕ) → n < length row → is_word_byte (slice_index row n) ≡ false
    → IsRun row start n run → run ≡ term → 1 ≤ length run → StandsAt row start term
stands_run row run term start n less off is same some = subst (StandsAt row start) same (record {
  some = some;
  inside = omega (arith, is.sum, less);
  apart = is.apart;
  spells = is.spells;
  ends = subst (λ (p : ℕ). is_word_byte (slice_index row p) ≡ false) (sym is.sum) off;
})

-- a word that ends within a front of a row stands in it
stands_to : (row term : List ℕ) (n : ℕ) → n ≤ length row → Contains (ended_after [] (take n row)) term
    → (at : ℕ) × StandsAt row at term
stands_to row term zero low has = absurd (omega (arith, has.1))
stands_to row term (suc n) low has =
    let less : n < length row = omega (arith, low) in
    let b = slice_index row n in
    let front = take n row in
    let now = carried term (ap (ended_after []) (more_of row n less)) has in
    elim (bool_cases (is_word_byte b)) [
      | inl on ↦ stands_to row term n (omega (arith, low)) (carried term (ended_last b on front []) now)
      | inr off ↦ ⊎_elim (λ (c : Contains (ended_after [] front) term). stands_to row term n (omega (arith, low)) c)
          (λ (c : Contains (ended (run_after [] front)) term).
          let is = ended_has (run_after [] front) term c in
          let run = runs row n (omega (arith, low)) in
          (run.0, stands_run row (run_after [] front) term run.0 n less off run.1 is.0 is.1))
          (Contains-append_cases (ended_after [] front) (ended (run_after [] front)) term
          (carried term (ended_more b off front []) now))
    ]

-- one of the words that end within a row stands in it
pub stands : (row term : List ℕ) → has_word row term ≡ true → (at : ℕ) × StandsAt row at term
stands row term e =
    stands_to row term (length row) (omega arith)
    (carried term (ap (ended_after []) (sym (take_all (length row) row (omega arith)))) (one_is (ended_after [] row) term e))

-- what ends within a front of a row ends within the row
ended_on_to : (row term : List ℕ) (n : ℕ) → Contains (ended_after [] (take n row)) term → Contains (ended_after [] row) term
ended_on_to row term n has =
    carried term (sym (ended_append (take n row) (drop n row) []) ∙ ap (ended_after []) (take-append-drop n row))
    (Contains-append_left (ended_after [] (take n row)) (ended_after (run_after [] (take n row)) (drop n row)) term has)

-- where no byte of a word stands before a place, no run has begun before it
pub none_begun : (row : List ℕ) (n : ℕ) → n ≤ length row → is_behind row n ≡ false → run_after [] (take n row) ≡ []
none_begun row zero low off = refl
none_begun row (suc n) low off =
    ap (run_after []) (more_of row n (omega (arith, low))) ∙ run_gone (slice_index row n) off (take n row) []

-- Where a term stands in a row.
module _ (row term : List ℕ) (at : ℕ) (is : StandsAt row at term) where
  -- behind so many bytes of it the run is a front of it
  front_of : (k : ℕ) → k ≤ length term → run_after [] (take (at + k) row) ≡ take k term
  front_of zero low =
      ap (λ (n : ℕ). run_after [] (take n row)) (let none : at + 0 ≡ at = omega arith in none)
      ∙ none_begun row at (omega (arith, is.inside)) is.apart
  front_of (suc k) low =
      let this = is.spells k (omega (arith, low)) in
      let b = slice_index row (at + k) in
      let place : at + suc k ≡ suc (at + k) = omega arith in
      ap (λ (n : ℕ). run_after [] (take n row)) place
      ∙ ap (run_after []) (more_of row (at + k) (omega (arith, is.inside, low)))
      ∙ run_last b this.of_word (take (at + k) row) []
      ∙ ap (λ (l : List ℕ). l ++ lowered b ∷ []) (front_of k (omega (arith, low)))
      ∙ ap (λ (x : ℕ). take k term ++ x ∷ []) this.same
      ∙ sym (more_of term k (omega (arith, low)))

  -- so it is one of the words that end within the row
  pub is_word : has_word row term ≡ true
  is_word =
      let n = at + length term in
      let b = slice_index row n in
      let run : run_after [] (take n row) ≡ term =
      front_of (length term) (omega arith) ∙ take_all (length term) term (omega arith) in
      is_one (ended_after [] row) term (ended_on_to row term (suc n)
      (carried term (sym (ap (ended_after []) (more_of row n is.inside) ∙ ended_more b is.ends (take n row) []))
      (Contains-append_right (ended_after [] (take n row)) (ended (run_after [] (take n row))) term
      (has_ended (run_after [] (take n row)) term run (omega (arith, ap length run, is.some))))))

-- a term that stands nowhere is none of the words
pub is_none : (row term : List ℕ) → ((at : ℕ) → StandsAt row at term → ⊥) → has_word row term ≡ false
is_none row term none = elim (bool_cases (has_word row term)) [
  | inl e ↦ let s = stands row term e in absurd (none s.0 s.1)
  | inr e ↦ e
]
