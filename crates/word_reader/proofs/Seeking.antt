-- What one more byte does to a term that is sought.
use Rattle.std.proofs.Common.{if◌then◌else◌, ◌≡◌, ◌<◌, ◌≤◌, ◌+◌, ◌⊎◌, ◌↔◌, ◌&&◌, ◌||◌, nat_lt, nat_eq, ℕ, Bool, true, false, List, [], ◌∷◌, ◌++◌, length, take, map, slice_index, refl, sym, ap, ◌∙◌, inl, inr, subst, ⊎_elim, arith, suc, zero}
use Rattle.std.specs.Prelude.{Contains}
use Rattle.std.specs.List.{list_all}
use Rattle.std.proofs.lemmas.Bool.{and_parts}
use Rattle.std.proofs.lemmas.List.{append_assoc, append-nil, take_all, take_more, length-take-le, length-append}
use Rattle.std.proofs.lemmas.List.Elements.{Contains-append_left, Contains-append_right, Contains-append_cases}
use Rattle.std.proofs.lemmas.Bool.Decides.{nat_tests}
use Rattle.std.proofs.Math.ListN.{get_or}
use Rattle.std.proofs.Math.Seq.{get_or-append_seam}
use Rattle.volume_meaning.specs.Words.{is_word_byte, lowered, ended, words_of, HasWord, Matches}
use Rattle.volume_meaning.specs.declared.word_rules.WordRule.TheVariants.{Ascii}
use Rattle.word_reader.specs.Matching.{Seeks, SeekAll, Tracks, is_found, cleared, goes_on, pushed}
use Rattle.word_reader.specs.RowWords.{run_after, ended_after}
use Rattle.word_reader.specs.declared.byte_matcher.Sought.{Sought}
use Rattle.word_reader.proofs.Reading.{bool_cases, chosen, passed, run_last, ended_last, run_gone, ended_more, split, has_word}

-- a test answers one thing
pub true_false : true ≡ false → ⊥
true_false e = cc

-- what passes one test or the other
pub or_parts : (a b : Bool) → (a || b) ≡ true → (a ≡ true) ⊎ (b ≡ true)
or_parts true b e = inl refl
or_parts false b e = inr e

-- the first test suffices
pub or_left : (a b : Bool) → a ≡ true → (a || b) ≡ true
or_left true b e = refl
or_left false b e = absurd (true_false (sym e))

-- and so does the second
pub or_right : (a b : Bool) → b ≡ true → (a || b) ≡ true
or_right true b e = refl
or_right false b e = e

-- what passes both tests
pub and_of : (a b : Bool) → a ≡ true → b ≡ true → (a && b) ≡ true
and_of true b e f = f
and_of false b e f = absurd (true_false (sym e))

-- the tests of numbers mean what they say
nat_lt_is : (m n : ℕ) → nat_lt m n ≡ true → m < n
nat_lt_is m n e = grind (arith, nat_tests)

is_nat_lt : (m n : ℕ) → m < n → nat_lt m n ≡ true
is_nat_lt m n e = grind (arith, nat_tests)

pub nat_eq_is : (m n : ℕ) → nat_eq m n ≡ true → m ≡ n
nat_eq_is m n e = grind (arith, nat_tests)

pub is_nat_eq : (m n : ℕ) → m ≡ n → nat_eq m n ≡ true
is_nat_eq m n e = grind (arith, nat_tests)

-- a front with one byte more
pub take_more_of : (xs : List ℕ) (i : ℕ) → i < length xs → take (i + 1) xs ≡ take i xs ++ slice_index xs i ∷ []
take_more_of xs i less = take_more xs i 0 less

-- a list of one has one member
only_one : (x t : List ℕ) → Contains (x ∷ []) t → x ≡ t
only_one x t (zero, below, is) = is
only_one x t (suc k, below, is) = absurd (omega (arith, below))

-- a run that ends is the term only where it has a byte
pub ended_has : (run t : List ℕ) → Contains (ended run) t → (run ≡ t) × (1 ≤ length run)
ended_has [] t (k, below, is) = absurd (omega (arith, below))
ended_has (r ∷ run) t has = (only_one (r ∷ run) t has, omega arith)

-- and there it is
pub has_ended : (run t : List ℕ) → run ≡ t → 1 ≤ length run → Contains (ended run) t
has_ended [] t is some = absurd (omega (arith, some))
has_ended (r ∷ run) t is some = (0, omega arith, is)

-- the front is the whole term
abbrev is_all : List ℕ → Bool → ℕ → Bool
is_all term on at = on && (nat_lt 0 at && nat_eq at (length term))

-- a member of a list is one of an equal list
pub carried : {xs ys : List (List ℕ)} → (t : List ℕ) → xs ≡ ys → Contains xs t → Contains ys t
carried t e has = subst (λ (l : List (List ℕ)). Contains l t) e has

-- a step that leaves the term and what was found
abbrev pub Keeps : (Sought → Sought) → Type 0
Keeps f = (s : Sought) → ((f s).bytes.items ≡ s.bytes.items) × (s.found ≡ true → (f s).found ≡ true)

-- What one term is known of, after these bytes.
module _ (term : List ℕ) (found on : Bool) (at : ℕ) (bytes : List ℕ) (s : Seeks term found on at bytes) where
  -- where the front is the whole term, the run is the term
  whole : is_all term on at ≡ true → Contains (ended (run_after [] bytes)) term
  whole e =
      let a = and_parts on (nat_lt 0 at && nat_eq at (length term)) e in
      let b = and_parts (nat_lt 0 at) (nat_eq at (length term)) a.1 in
      let some : 0 < at = nat_lt_is 0 at b.0 in
      let all : at ≡ length term = nat_eq_is at (length term) b.1 in
      let is : run_after [] bytes ≡ term = s.front_is a.0 ∙ take_all at term (omega (arith, all)) in
      has_ended (run_after [] bytes) term is (omega (arith, ap length is, some, all))

  -- and only there
  whole_back : Contains (ended (run_after [] bytes)) term → is_all term on at ≡ true
  whole_back has =
      let is = ended_has (run_after [] bytes) term has in
      elim (bool_cases on) [
        | inl e ↦
            let count : at ≡ length term = omega (arith, ap length (s.front_is e), ap length is.0, length-take-le at term s.most) in
            let some : 0 < at = omega (arith, is.1, ap length is.0, count) in
            and_of on (nat_lt 0 at && nat_eq at (length term)) e
            (and_of (nat_lt 0 at) (nat_eq at (length term)) (is_nat_lt 0 at some) (is_nat_eq at (length term) count))
        | inr e ↦ absurd (s.left_it e [] (append-nil (run_after [] bytes) ∙ is.0))
      ]

  -- it is among the words
  pub found_now : ((found || is_all term on at) ≡ true) ↔ Contains (words_of Ascii bytes) term
  found_now = (
    λ e. carried term (sym (split bytes)) (⊎_elim
        (λ (f : found ≡ true). Contains-append_left (ended_after [] bytes) (ended (run_after [] bytes)) term (s.found_is.0 f))
        (λ w. Contains-append_right (ended_after [] bytes) (ended (run_after [] bytes)) term (whole w))
        (or_parts found _ e)),
    λ has. ⊎_elim
        (λ (c : Contains (ended_after [] bytes) term). or_left found _ (s.found_is.1 c))
        (λ (c : Contains (ended (run_after [] bytes)) term). or_right found _ (whole_back c))
        (Contains-append_cases (ended_after [] bytes) (ended (run_after [] bytes)) term
        (carried term (split bytes) has)),
  )

  -- a byte between words
  pub seeks_gap : (b : ℕ) → is_word_byte b ≡ false → Seeks term (found || is_all term on at) true 0 (bytes ++ b ∷ [])
  seeks_gap b off = record {
    most = omega arith;
    found_is = (
      λ e. carried term (split bytes ∙ sym (ended_more b off bytes [])) (found_now.0 e),
      λ has. found_now.1 (carried term (ended_more b off bytes [] ∙ sym (split bytes)) has),
    );
    front_is = λ e. run_gone b off bytes [];
    left_it = λ e. absurd (true_false e);
  }

  -- the next byte of the term
  pub seeks_on : (b : ℕ) → is_word_byte b ≡ true → on ≡ true → at < length term → slice_index term at ≡ lowered b
      → Seeks term found on (at + 1) (bytes ++ b ∷ [])
  seeks_on b is_term e less same = record {
    most = omega (arith, less);
    found_is = (
      λ f. carried term (sym (ended_last b is_term bytes [])) (s.found_is.0 f),
      λ has. s.found_is.1 (carried term (ended_last b is_term bytes []) has),
    );
    front_is = λ f.
        run_last b is_term bytes [] ∙ ap (λ (l : List ℕ). l ++ lowered b ∷ []) (s.front_is e)
        ∙ ap (λ (x : ℕ). take at term ++ x ∷ []) (sym same) ∙ sym (take_more_of term at less);
    left_it = λ f. absurd (true_false (sym e ∙ f));
  }

  -- another byte
  pub seeks_off : (b : ℕ) → is_word_byte b ≡ true
      → (on ≡ true → at < length term → slice_index term at ≡ lowered b → ⊥)
      → Seeks term found false at (bytes ++ b ∷ [])
  seeks_off b is_term differs = record {
    most = s.most;
    found_is = (
      λ f. carried term (sym (ended_last b is_term bytes [])) (s.found_is.0 f),
      λ has. s.found_is.1 (carried term (ended_last b is_term bytes []) has),
    );
    front_is = λ f. absurd (true_false (sym f));
    left_it = λ f rest e.
        let run = run_after [] bytes in
        let behind : run ++ (lowered b ∷ rest) ≡ term =
        sym (append_assoc run (lowered b ∷ []) rest)
        ∙ ap (λ (l : List ℕ). l ++ rest) (sym (run_last b is_term bytes [])) ∙ e in
        elim (bool_cases on) [
          | inl g ↦
              let count : length run ≡ at = ap length (s.front_is g) ∙ length-take-le at term s.most in
              differs g
              (omega (arith, count, ap length behind, length-append run (lowered b ∷ rest)))
              (ap (λ (l : List ℕ). slice_index l at) (sym behind)
              ∙ ap (λ (n : ℕ). get_or (run ++ (lowered b ∷ rest)) n 0) (sym count)
              ∙ get_or-append_seam run (lowered b) rest 0)
          | inr g ↦ s.left_it g (lowered b ∷ rest) behind
        ];
  }

-- what is sought is tracked
pub of_seeks : (t : List ℕ) (found on : Bool) (at : ℕ) (bytes : List ℕ) → Seeks t found on at bytes → Tracks t found on at bytes
of_seeks t found on at bytes s = record { ended = λ e. s.found_is.0 e; seeks = λ e. s }

-- a word that has ended stays among them
ended_stays : (t bytes : List ℕ) (b : ℕ) → Contains (ended_after [] bytes) t → Contains (ended_after [] (bytes ++ b ∷ [])) t
ended_stays t bytes b has = elim (bool_cases (is_word_byte b)) [
  | inl on ↦ carried t (sym (ended_last b on bytes [])) has
  | inr off ↦ carried t (sym (ended_more b off bytes [])) (Contains-append_left (ended_after [] bytes) (ended (run_after [] bytes)) t has)
]

-- what was found is tracked, whatever comes
pub found_stays : (t : List ℕ) (found on later : Bool) (at k : ℕ) (bytes : List ℕ) (b : ℕ) → Tracks t found on at bytes
    → found ≡ true → (next : Bool) → next ≡ true → Tracks t next later k (bytes ++ b ∷ [])
found_stays t found on later at k bytes b h e next is = record {
  ended = λ f. ended_stays t bytes b (h.ended e);
  seeks = λ f. absurd (true_false (sym is ∙ f));
}

-- one of the terms, after one more byte
seeks_more : (t : List ℕ) (b : ℕ) (x : Sought) (bytes : List ℕ) → x.bytes.items ≡ t
    → Seeks t x.found x.agrees x.front bytes
    → Seeks t (pushed b x).found (pushed b x).agrees (pushed b x).front (bytes ++ b ∷ [])
seeks_more t b x bytes same s =
    let term = x.bytes.items in
    let front : Sought = record { bytes = x.bytes; found = x.found; agrees = x.agrees; front = x.front + 1 } in
    let left : Sought = record { bytes = x.bytes; found = x.found; agrees = false; front = x.front } in
    let gap : Sought = record { bytes = x.bytes; found = is_found x; agrees = true; front = 0 } in
    let After = λ (y : Sought). Seeks t y.found y.agrees y.front (bytes ++ b ∷ []) in
    let ours : Seeks term x.found x.agrees x.front bytes =
    subst (λ (l : List ℕ). Seeks l x.found x.agrees x.front bytes) (sym same) s in
    let back : (y : Sought) → Seeks term y.found y.agrees y.front (bytes ++ b ∷ []) → After y =
    λ y h. subst (λ (l : List ℕ). Seeks l y.found y.agrees y.front (bytes ++ b ∷ [])) same h in
    elim (bool_cases (is_word_byte b)) [
      | inr off ↦
          subst After (sym (passed (is_word_byte b) (if goes_on b x then front else left) gap off))
          (back gap (seeks_gap term x.found x.agrees x.front bytes ours b off))
      | inl is_term ↦
          subst After (sym (chosen (is_word_byte b) (if goes_on b x then front else left) gap is_term))
          (elim (bool_cases (goes_on b x)) [
            | inl goes ↦
                let p = and_parts x.agrees (nat_lt x.front (length term) && nat_eq (slice_index term x.front) (lowered b)) goes in
                let q = and_parts (nat_lt x.front (length term)) (nat_eq (slice_index term x.front) (lowered b)) p.1 in
                subst After (sym (chosen (goes_on b x) front left goes))
                (back front (seeks_on term x.found x.agrees x.front bytes ours b is_term p.0 (nat_lt_is _ _ q.0) (nat_eq_is _ _ q.1)))
            | inr stops ↦
                subst After (sym (passed (goes_on b x) front left stops))
                (back left (seeks_off term x.found x.agrees x.front bytes ours b is_term (λ on less is.
                true_false (sym (and_of x.agrees _ on
                (and_of (nat_lt x.front (length term)) _ (is_nat_lt _ _ less) (is_nat_eq _ _ is))) ∙ stops))))
          ])
    ]

-- a byte leaves the term that is sought
bytes_stay : (b : ℕ) (s y : Sought) → y ≡ pushed b s → y.bytes.items ≡ s.bytes.items
bytes_stay b s y e = elim (bool_cases (is_word_byte b)) [
  | inr off ↦ ap (λ (z : Sought). z.bytes.items) (e ∙ passed (is_word_byte b) _ _ off)
  | inl on ↦ elim (bool_cases (goes_on b s)) [
    | inl goes ↦
        ap (λ (z : Sought). z.bytes.items) (e ∙ chosen (is_word_byte b) _ _ on ∙ chosen (goes_on b s) _ _ goes)
    | inr stops ↦
        ap (λ (z : Sought). z.bytes.items) (e ∙ chosen (is_word_byte b) _ _ on ∙ passed (goes_on b s) _ _ stops)
  ]
]

-- and what was found stays so
found_on : (b : ℕ) (s : Sought) → s.found ≡ true → (pushed b s).found ≡ true
found_on b s e = elim (bool_cases (is_word_byte b)) [
  | inr off ↦ ap (λ (z : Sought). z.found) (passed (is_word_byte b) _ _ off) ∙ or_left s.found _ e
  | inl on ↦ elim (bool_cases (goes_on b s)) [
    | inl goes ↦ ap (λ (z : Sought). z.found) (chosen (is_word_byte b) _ _ on ∙ chosen (goes_on b s) _ _ goes) ∙ e
    | inr stops ↦ ap (λ (z : Sought). z.found) (chosen (is_word_byte b) _ _ on ∙ passed (goes_on b s) _ _ stops) ∙ e
  ]
]

tracks_more : (t : List ℕ) (b : ℕ) (x : Sought) (bytes : List ℕ) → x.bytes.items ≡ t
    → Tracks t x.found x.agrees x.front bytes
    → Tracks t (pushed b x).found (pushed b x).agrees (pushed b x).front (bytes ++ b ∷ [])
tracks_more t b x bytes same h = elim (bool_cases x.found) [
  | inl e ↦ found_stays t x.found x.agrees (pushed b x).agrees x.front (pushed b x).front bytes b h e (pushed b x).found (found_on b x e)
  | inr e ↦ of_seeks t (pushed b x).found (pushed b x).agrees (pushed b x).front (bytes ++ b ∷ []) (seeks_more t b x bytes same (h.seeks e))
]

-- a sought term stays the same, and stays found
pub pushed_keeps : (b : ℕ) → Keeps (pushed b)
pushed_keeps b s = (bytes_stay b s (pushed b s) refl, found_on b s)

-- each of the terms, after one more byte
pub all_more : (b : ℕ) (bytes : List ℕ) (ss : List Sought) (ts : List (List ℕ)) → SeekAll ss ts bytes
    → SeekAll (map (pushed b) ss) ts (bytes ++ b ∷ [])
all_more b bytes [] [] all = tt
all_more b bytes [] (t ∷ ts) all = all
all_more b bytes (s ∷ ss) [] all = all
all_more b bytes (s ∷ ss) (t ∷ ts) all = (
  bytes_stay b s (pushed b s) refl ∙ all.0,
  tracks_more t b s bytes all.0 all.1,
  all_more b bytes ss ts all.2,
)

-- the body matches one term more where it has that one too
matches_more : (bytes t : List ℕ) (ts : List (List ℕ)) → HasWord Ascii bytes t → Matches Ascii bytes ts → Matches Ascii bytes (t ∷ ts)
matches_more bytes t ts here rest term (zero, low, is) = subst (HasWord Ascii bytes) is here
matches_more bytes t ts here rest term (suc k, low, is) = rest term (k, omega (arith, low), is)

-- what is tracked is found where it is among the words
tracked_now : (t : List ℕ) (found on : Bool) (at : ℕ) (bytes : List ℕ) → Tracks t found on at bytes
    → ((found || is_all t on at) ≡ true) ↔ Contains (words_of Ascii bytes) t
tracked_now t found on at bytes h = elim (bool_cases found) [
  | inl e ↦ (
    λ f. carried t (sym (split bytes)) (Contains-append_left (ended_after [] bytes) (ended (run_after [] bytes)) t (h.ended e)),
    λ has. or_left found _ e,
  )
  | inr e ↦ found_now t found on at bytes (h.seeks e)
]

-- all are found where all match
pub all_found : (bytes : List ℕ) (ss : List Sought) (ts : List (List ℕ)) → SeekAll ss ts bytes
    → (list_all is_found ss ≡ true) ↔ Matches Ascii bytes ts
all_found bytes [] [] all = (λ e term has. absurd (omega (arith, has.1)), λ m. refl)
all_found bytes [] (t ∷ ts) all = absurd all
all_found bytes (s ∷ ss) [] all = absurd all
all_found bytes (s ∷ ss) (t ∷ ts) all =
    let same : (is_found s ≡ true) ↔ Contains (words_of Ascii bytes) t =
    subst (λ (l : List ℕ). ((s.found || is_all l s.agrees s.front) ≡ true) ↔ Contains (words_of Ascii bytes) t)
    (sym all.0) (tracked_now t s.found s.agrees s.front bytes all.1) in
    let rest = all_found bytes ss ts all.2 in (
      λ e.
          let p = and_parts (is_found s) (list_all is_found ss) e in
          matches_more bytes t ts ((has_word bytes t).0 (same.0 p.0)) (rest.0 p.1),
      λ m. and_of (is_found s) (list_all is_found ss)
          (same.1 ((has_word bytes t).1 (m t (0, omega arith, refl))))
          (rest.1 (λ term has. m term (suc has.0, omega (arith, has.1), has.2))),
    )

-- nothing was pushed yet
pub seeks_none : (t : List ℕ) → Seeks t false true 0 []
seeks_none t = record {
  most = omega arith;
  found_is = (λ e. absurd (true_false (sym e)), λ has. absurd (omega (arith, has.1)));
  front_is = λ e. refl;
  left_it = λ e. absurd (true_false e);
}

-- and it is tracked so
pub tracks_none : (t : List ℕ) → Tracks t false true 0 []
tracks_none t = of_seeks t false true 0 [] (seeks_none t)

-- one term more
pub all_last : (ss : List Sought) (ts : List (List ℕ)) (s : Sought) (t : List ℕ) → SeekAll ss ts [] → s.bytes.items ≡ t
    → Tracks t s.found s.agrees s.front [] → SeekAll (ss ++ s ∷ []) (ts ++ t ∷ []) []
all_last [] [] s t all same seeks = (same, seeks, tt)
all_last [] (u ∷ ts) s t all same seeks = absurd all
all_last (r ∷ ss) [] s t all same seeks = absurd all
all_last (r ∷ ss) (u ∷ ts) s t all same seeks = (all.0, all.1, all_last ss ts s t all.2 same seeks)

-- a matcher that forgets its bytes seeks the same terms
pub all_cleared : (bytes : List ℕ) (ss : List Sought) (ts : List (List ℕ)) → SeekAll ss ts bytes
    → SeekAll (map cleared ss) ts []
all_cleared bytes [] [] all = tt
all_cleared bytes [] (t ∷ ts) all = all
all_cleared bytes (s ∷ ss) [] all = all
all_cleared bytes (s ∷ ss) (t ∷ ts) all = (all.0, tracks_none t, all_cleared bytes ss ts all.2)
