-- That a search which tells of just the documents with its terms tells of as many as there are.
use Rattle.std.proofs.Common.{◌≡◌, ◌≤◌, ◌+◌, ◌⊎◌, ⊎_elim, inl, inr, if◌then◌else◌, cond, ℕ, suc, zero, Bool, true, false, List, [], ◌∷◌, length, refl, sym, ap, ◌∙◌, subst, arith}
use Rattle.std.specs.Prelude.{Contains}
use Rattle.std.specs.List.{count_by, list_all, list_any}
use Rattle.std.specs.Str.{bytes_eq}
use Rattle.std.proofs.lemmas.Bool.{and_from, and_parts, cases_Bool, cond-false, cond-true, cond_both, false≢true, or_cases, or_left, or_right}
use Rattle.std.proofs.lemmas.List.Sums.{sum_by-cons}
use Rattle.std.proofs.lemmas.Slice.Eq.{bytes_eq-Decides}
use Rattle.volume_meaning.specs.Documents.{Document, Rise}
use Rattle.volume_meaning.specs.Words.{HasWord, words_of}
use Rattle.volume_meaning.specs.declared.word_rules.WordRule.TheVariants.{Ascii}
use Rattle.volume_meaning.proofs.Lists.{Rising, one_list}
use Rattle.volume_meaning.proofs.Words.{words_are_one}
use Rattle.record_query.specs.Finding.{MatchesRise}
use Rattle.record_query.specs.declared.found.Match.{Match}
use Rattle.volume_exercise.specs.Telling.{TermsAreWords}

-- a member is the first, or one of the rest
in_cons : {A : Type 0} (x : A) (xs : List A) (y : A) → Contains (x ∷ xs) y → (x ≡ y) ⊎ Contains xs y
in_cons x xs y (zero, low, is) = inl is
in_cons x xs y (suc k, low, is) = inr (k, omega (arith, low), is)

first_in : {A : Type 0} (x : A) (xs : List A) → Contains (x ∷ xs) x
first_in x xs = (zero, omega arith, refl)

rest_in : {A : Type 0} (x : A) (xs : List A) (y : A) → Contains xs y → Contains (x ∷ xs) y
rest_in x xs y (k, low, is) = (suc k, omega (arith, low), is)

none_in : {A : Type 0} {R : Type 0} (y : A) → Contains [] y → R
none_in y c = absurd (omega (arith, c.1))

-- tests of members
any_in : (t : List ℕ) (ws : List (List ℕ)) → Contains ws t → list_any (bytes_eq t) ws ≡ true
any_in t [] c = none_in t c
any_in t (w ∷ ws) c = ⊎_elim
    (λ (same : w ≡ t). or_left (bytes_eq t w) (list_any (bytes_eq t) ws) ((bytes_eq-Decides t w).1 (sym same)))
    (λ (later : Contains ws t). or_right (bytes_eq t w) (list_any (bytes_eq t) ws) (any_in t ws later))
    (in_cons w ws t c)

in_any : (t : List ℕ) (ws : List (List ℕ)) → list_any (bytes_eq t) ws ≡ true → Contains ws t
in_any t [] is = absurd (false≢true is)
in_any t (w ∷ ws) is = ⊎_elim
    (λ (here : bytes_eq t w ≡ true).
    subst (λ (v : List ℕ). Contains (w ∷ ws) v) (sym ((bytes_eq-Decides t w).0 here)) (first_in w ws))
    (λ (later : list_any (bytes_eq t) ws ≡ true). rest_in w ws t (in_any t ws later))
    (or_cases (bytes_eq t w) (list_any (bytes_eq t) ws) is)

all_at : {A : Type 0} (f : A → Bool) (xs : List A) → list_all f xs ≡ true → (x : A) → Contains xs x → f x ≡ true
all_at f [] is x c = none_in x c
all_at {A} f (y ∷ ys) is x c =
    let both = and_parts (f y) (list_all f ys) is in
    ⊎_elim (λ (same : y ≡ x). subst (λ (z : A). f z ≡ true) same both.0)
    (λ (later : Contains ys x). all_at f ys both.1 x later)
    (in_cons y ys x c)

all_from : {A : Type 0} (f : A → Bool) (xs : List A) → ((x : A) → Contains xs x → f x ≡ true) → list_all f xs ≡ true
all_from f [] each = refl
all_from f (y ∷ ys) each =
    and_from (f y) (list_all f ys) (each y (first_in y ys)) (all_from f ys (λ x c. each x (rest_in y ys x c)))

pub terms_are_words : TermsAreWords
terms_are_words terms body = (
  λ has term among. record {
    words = words_of Ascii body;
    are = words_are_one.read Ascii body;
    among = in_any term (words_of Ascii body)
        (all_at (λ (t : List ℕ). list_any (bytes_eq t) (words_of Ascii body)) terms has term among);
  },
  λ matches. all_from (λ (t : List ℕ). list_any (bytes_eq t) (words_of Ascii body)) terms
      (λ term among. let h : HasWord Ascii body term = matches term among in
      any_in term (words_of Ascii body)
      (subst (λ (l : List (List ℕ)). Contains l term) (words_are_one.one Ascii body h.words h.are) h.among)),
)

-- numbers that rise from one rise from each lower one

lower : (from to : ℕ) (ns : List ℕ) → to ≤ from → Rising (λ (n : ℕ). n) from ns → Rising (λ (n : ℕ). n) to ns
lower from to [] le rising = tt
lower from to (n ∷ ns) le rising = (omega (arith, le, rising.0), rising.1)

-- the slots of the documents that pass a test
module _ (p : Document → Bool) where
  slots_with : List Document → List ℕ
  slots_with [] = []
  slots_with (d ∷ ds) = if p d then d.slot ∷ slots_with ds else slots_with ds

  slots_count : (ds : List Document) → length (slots_with ds) ≡ count_by p ds
  unfolding slots_with
  slots_count [] = refl
  slots_count (d ∷ ds) =
      let rest = slots_count ds in
      let all : count_by p (d ∷ ds) ≡ cond (p d) 1 0 + count_by p ds = sum_by-cons (λ (e : Document). cond (p e) 1 0) d ds in
      ⊎_elim
      (λ (is : p d ≡ true). ap (λ (l : List ℕ). length l) (cond-true (p d) (d.slot ∷ slots_with ds) (slots_with ds) is)
      ∙ (let one : ◌≡◌ {A = ℕ} (cond (p d) 1 0) 1 = ap (λ (b : Bool). cond b 1 0) is in omega (arith, rest, all, one)))
      (λ (is : p d ≡ false). ap (λ (l : List ℕ). length l) (cond-false (p d) (d.slot ∷ slots_with ds) (slots_with ds) is)
      ∙ (let no : ◌≡◌ {A = ℕ} (cond (p d) 1 0) 0 = ap (λ (b : Bool). cond b 1 0) is in omega (arith, rest, all, no)))
      (cases_Bool (p d))

  slots_rise : (from : ℕ) (ds : List Document) → Rise from ds → Rising (λ (n : ℕ). n) from (slots_with ds)
  unfolding slots_with
  slots_rise from [] rise = tt
  slots_rise from (d ∷ ds) rise =
      let rest = slots_rise (d.slot + 1) ds rise.1 in
      cond_both (p d) (d.slot ∷ slots_with ds) (slots_with ds) (λ (l : List ℕ). Rising (λ (n : ℕ). n) from l)
      (λ yes. (rise.0, rest)) (λ no. lower (d.slot + 1) from (slots_with ds) (omega (arith, rise.0)) rest)

  in_slots : (ds : List Document) (d : Document) → Contains ds d → p d ≡ true → Contains (slots_with ds) d.slot
  unfolding slots_with
  in_slots [] d c is = none_in d c
  in_slots (e ∷ ds) d c is =
      cond_both (p e) (e.slot ∷ slots_with ds) (slots_with ds) (λ (l : List ℕ). Contains l d.slot)
      (λ yes. ⊎_elim
      (λ (same : e ≡ d). subst (λ (f : Document). Contains (e.slot ∷ slots_with ds) f.slot) same
      (first_in e.slot (slots_with ds)))
      (λ (later : Contains ds d). rest_in e.slot (slots_with ds) d.slot (in_slots ds d later is))
      (in_cons e ds d c))
      (λ no. ⊎_elim
      (λ (same : e ≡ d). absurd (false≢true (sym no ∙ ap p same ∙ is)))
      (λ (later : Contains ds d). in_slots ds d later is)
      (in_cons e ds d c))

  record IsSlotOf (ds : List Document) (n : ℕ) : Type 0 where
    pub document : Document
    pub among : Contains ds document
    pub passes : p document ≡ true
    pub slot_is : document.slot ≡ n

  rest_slot : (e : Document) (ds : List Document) (n : ℕ) → IsSlotOf ds n → IsSlotOf (e ∷ ds) n
  rest_slot e ds n s = record {
    document = s.document;
    among = rest_in e ds s.document s.among;
    passes = s.passes;
    slot_is = s.slot_is;
  }

  slot_of : (ds : List Document) (n : ℕ) → Contains (slots_with ds) n → IsSlotOf ds n
  unfolding slots_with
  slot_of [] n = λ c. none_in n c
  slot_of (e ∷ ds) n =
      cond_both (p e) (e.slot ∷ slots_with ds) (slots_with ds) (λ (l : List ℕ). Contains l n → IsSlotOf (e ∷ ds) n)
      (λ yes c. ⊎_elim
      (λ (same : e.slot ≡ n). record { document = e; among = first_in e ds; passes = yes; slot_is = same })
      (λ (later : Contains (slots_with ds) n). rest_slot e ds n (slot_of ds n later))
      (in_cons e.slot (slots_with ds) n c))
      (λ no c. rest_slot e ds n (slot_of ds n c))

-- the slots of matches
found_slots : List Match → List ℕ
found_slots [] = []
found_slots (m ∷ ms) = m.slot ∷ found_slots ms

found_count : (ms : List Match) → length (found_slots ms) ≡ length ms
unfolding found_slots
found_count [] = refl
found_count (m ∷ ms) = ap suc (found_count ms)

found_rise : (from : ℕ) (ms : List Match) → MatchesRise from ms → Rising (λ (n : ℕ). n) from (found_slots ms)
unfolding found_slots
found_rise from [] rise = tt
found_rise from (m ∷ ms) rise = (rise.0, found_rise (m.slot + 1) ms rise.1)

in_found : (ms : List Match) (m : Match) → Contains ms m → Contains (found_slots ms) m.slot
unfolding found_slots
in_found [] m c = none_in m c
in_found (e ∷ ms) m c = ⊎_elim
    (λ (same : e ≡ m). subst (λ (f : Match). Contains (e.slot ∷ found_slots ms) f.slot) same (first_in e.slot (found_slots ms)))
    (λ (later : Contains ms m). rest_in e.slot (found_slots ms) m.slot (in_found ms m later))
    (in_cons e ms m c)

record IsFoundSlot (ms : List Match) (n : ℕ) : Type 0 where
  pub found : Match
  pub among : Contains ms found
  pub slot_is : found.slot ≡ n

found_of : (ms : List Match) (n : ℕ) → Contains (found_slots ms) n → IsFoundSlot ms n
unfolding found_slots
found_of [] n c = none_in n c
found_of (e ∷ ms) n c = ⊎_elim
    (λ (same : e.slot ≡ n). record { found = e; among = first_in e ms; slot_is = same })
    (λ (later : Contains (found_slots ms) n).
    let f = found_of ms n later in
    record { found = f.found; among = rest_in e ms f.found f.among; slot_is = f.slot_is })
    (in_cons e.slot (found_slots ms) n c)

-- As many matches as documents that pass the test, where both rise and are of the same slots.
pub as_many_found : (p : Document → Bool) (ds : List Document) (ms : List Match) → Rise 0 ds → MatchesRise 0 ms
    → ((d : Document) → Contains ds d → p d ≡ true → (m : Match) × Contains ms m × (m.slot ≡ d.slot))
    → ((m : Match) → Contains ms m → (d : Document) × Contains ds d × (p d ≡ true) × (d.slot ≡ m.slot))
    → length ms ≡ count_by p ds
as_many_found p ds ms rise rises all only =
    sym (found_count ms)
    ∙ ap (λ (l : List ℕ). length l) (one_list (λ (n : ℕ). n) 0 (found_slots ms) (slots_with p ds) (found_rise 0 ms rises)
    (slots_rise p 0 ds rise)
    (λ n c. let f = found_of ms n c in let d = only f.found f.among in
    subst (λ (k : ℕ). Contains (slots_with p ds) k) (d.3 ∙ f.slot_is) (in_slots p ds d.0 d.1 d.2))
    (λ n c. let s = slot_of p ds n c in let m = all s.document s.among s.passes in
    subst (λ (k : ℕ). Contains (found_slots ms) k) (m.2 ∙ s.slot_is) (in_found ms m.0 m.1)))
    ∙ slots_count p ds
