-- The events of the exercise are events of the grammar, on a device of any size.
use Rattle.std.proofs.Common.{◌+◌, ◌*◌, ◌%◌, ◌/◌, ◌<◌, ◌≤◌, ℕ, suc, zero, List, [], ◌∷◌, ◌++◌, length, map, refl, sym, subst, arith, get_or}
use Rattle.std.proofs.lemmas.Fmt.{length-decimal-le}
use Rattle.std.proofs.lemmas.List.{length-append}
use Rattle.std.proofs.lemmas.List.Elements.{All-append}
use Rattle.std.proofs.lemmas.List.FromFn.{get_or-map-range_with_len, length-map-range_with_len}
use Rattle.std.specs.Prelude.{decimal, slice_index}
use Rattle.std.specs.List.{All, flat_map, range_with_len}
use Rattle.script_events.specs.Events.{AreEventsOn, IsEventOn, IsPlanOn, IsTermOfWord}
use Rattle.volume_meaning.specs.Documents.{IsBody, IsIdentifier}
use Rattle.volume_meaning.specs.declared.word_rules.WordRule.TheVariants.{Ascii}
use Rattle.hostile_replay.specs.Undisturbed.{IsPlain, PlansNothing}
use Rattle.volume_exercise.specs.Documents.{body_of, identifier_of, word_at, word_of}
use Rattle.volume_exercise.specs.Events.{audit_event, exercise_events, format_event, ingest_event, ingests, look_up_event, look_ups, no_schedule, pair_event, pairs, single_event, singles}
use Rattle.volume_exercise.proofs.Words.{AreDigits, decimal_digits, word_is_one}

-- what holds of each number of a row holds of what is made of it
pub each_of : {A : Type 0} (P : A → Type 0) (f : ℕ → A) (n : ℕ) → ((i : ℕ) → i < n → P (f i))
    → All P (map f (range_with_len 0 n))
each_of P f n is = λ k d below.
    let inside : k < n = omega (arith, below, length-map-range_with_len f 0 n) in
    subst P (sym (get_or-map-range_with_len f 0 n k k d inside (omega arith))) (is k inside)

-- each is less than 256
AreSmall : List ℕ → Type 0
AreSmall [] = Unit {0}
AreSmall (b ∷ bs) = (b < 256) × AreSmall bs

small_both : (bs cs : List ℕ) → AreSmall bs → AreSmall cs → AreSmall (bs ++ cs)
unfolding AreSmall
small_both [] cs first second = second
small_both (b ∷ bs) cs first second = (first.0, small_both bs cs first.1 second)

small_digits : (bs : List ℕ) → AreDigits bs → AreSmall bs
unfolding AreSmall
small_digits [] are = tt
small_digits (b ∷ bs) are = (omega (arith, are.1), small_digits bs are.2)

each_small : (bs : List ℕ) → AreSmall bs → (i : ℕ) → slice_index bs i < 256
unfolding AreSmall
each_small [] are i = omega arith
each_small (b ∷ bs) are zero = are.0
each_small (b ∷ bs) are (suc i) = each_small bs are.1 i

-- a word has at most four bytes
word_small : (k : ℕ) → k < 200 → AreSmall (word_of k)
unfolding AreSmall
word_small k small = (omega arith, small_digits (decimal k) (decimal_digits k (omega (arith, small))))

word_short : (k : ℕ) → k < 200 → length (word_of k) ≤ 4
word_short k small =
    let digits : length (decimal k) ≤ 3 = length-decimal-le 3 k (omega arith) (omega (arith, small)) (omega (arith, small)) in
    omega (arith, digits)

module _ (f : ℕ → ℕ) (small : (j : ℕ) → f j < 200) where
  behind_small : (at n : ℕ) → AreSmall (flat_map (λ j. 32 ∷ word_of (f j)) (range_with_len at n))
  unfolding AreSmall
  behind_small at zero = tt
  behind_small at (suc n) =
      small_both (32 ∷ word_of (f at)) (flat_map (λ j. 32 ∷ word_of (f j)) (range_with_len (at + 1) n))
      (omega arith, word_small (f at) (small at)) (behind_small (at + 1) n)

  behind_short : (at n : ℕ) → length (flat_map (λ j. 32 ∷ word_of (f j)) (range_with_len at n)) ≤ 5 * n
  behind_short at zero = omega arith
  behind_short at (suc n) =
      omega (
        arith,
        length-append (32 ∷ word_of (f at)) (flat_map (λ j. 32 ∷ word_of (f j)) (range_with_len (at + 1) n)),
        word_short (f at) (small at),
        behind_short (at + 1) n,
      )

-- a body has at most 99 bytes
pub body_short : (i : ℕ) → length (body_of i) ≤ 99
body_short i =
    let at : (j : ℕ) → word_at i j < 200 = λ j. omega arith in
    let rest = flat_map (λ j. 32 ∷ word_of (word_at i j)) (range_with_len 1 19) in
    omega (
      arith,
      length-append (word_of (word_at i 0)) rest,
      word_short (word_at i 0) (at 0),
      behind_short (word_at i) at 1 19,
    )

pub body_is_body : (i : ℕ) → IsBody (body_of i)
body_is_body i =
    let at : (j : ℕ) → word_at i j < 200 = λ j. omega arith in
    let rest = flat_map (λ j. 32 ∷ word_of (word_at i j)) (range_with_len 1 19) in
    record {
      bytes = record {
        each = each_small (body_of i) (small_both (word_of (word_at i 0)) rest (word_small (word_at i 0) (at 0))
            (behind_small (word_at i) at 1 19));
      };
      most = omega (
        arith,
        length-append (word_of (word_at i 0)) rest,
        word_short (word_at i 0) (at 0),
        behind_short (word_at i) at 1 19,
      );
    }

-- a digit is printed
digit_printed : (x : ℕ) → (0x21 ≤ 48 + x % 10) × (48 + x % 10 ≤ 0x7E)
digit_printed x = (omega arith, omega arith)

pub identifier_is_identifier : (i : ℕ) → IsIdentifier (identifier_of i)
identifier_is_identifier i = record { some = omega arith; most = omega arith; each = each }
  where
    each : (k : ℕ) → k < 7 → (0x21 ≤ slice_index (identifier_of i) k) × (slice_index (identifier_of i) k ≤ 0x7E)
    each zero below = (omega arith, omega arith)
    each (suc zero) below = digit_printed (i / 100000)
    each (suc (suc zero)) below = digit_printed (i / 10000)
    each (suc (suc (suc zero))) below = digit_printed (i / 1000)
    each (suc (suc (suc (suc zero)))) below = digit_printed (i / 100)
    each (suc (suc (suc (suc (suc zero))))) below = digit_printed (i / 10)
    each (suc (suc (suc (suc (suc (suc zero)))))) below = digit_printed (i / 1)
    each (suc (suc (suc (suc (suc (suc (suc k))))))) below = absurd (omega (arith, below))

no_plan_on : (cells : ℕ) → IsPlanOn cells no_schedule
no_plan_on cells = record {
  stop = tt;
  few_fail = omega arith;
  each_fails = λ k d below. absurd (omega (arith, below));
  few_foreign = omega arith;
  each_foreign = λ k d below. absurd (omega (arith, below));
}

-- rows of one and of two
pub all_one : {A : Type 0} (P : A → Type 0) (x : A) → P x → All P (x ∷ [])
all_one P x is = λ k d below. by_place k d below
  where
    by_place : (k : ℕ) (d : _) → k < 1 → P (get_or (x ∷ []) k d)
    by_place zero d below = is
    by_place (suc k) d below = absurd (omega (arith, below))

all_two : {A : Type 0} (P : A → Type 0) (x y : A) → P x → P y → All P (x ∷ y ∷ [])
all_two P x y first second = All-append P (x ∷ []) (y ∷ []) (all_one P x first) (all_one P y second)

pub exercise_events_on : (cells n : ℕ) → 1 ≤ n → n ≤ 2000 → AreEventsOn cells (exercise_events n)
exercise_events_on cells n some most =
    let On = IsEventOn cells in
    let plan = no_plan_on cells in
    All-append On (format_event n ∷ []) (ingests n ++ (singles ++ (pairs ++ (look_ups n ++ audit_event ∷ []))))
    (all_one On (format_event n) (some, omega (arith, most), omega arith, omega arith, omega arith, omega arith, plan))
    (All-append On (ingests n) (singles ++ (pairs ++ (look_ups n ++ audit_event ∷ [])))
    (each_of On ingest_event n (λ i below. (identifier_is_identifier i, tt, body_is_body i, plan)))
    (All-append On singles (pairs ++ (look_ups n ++ audit_event ∷ []))
    (each_of On single_event 200 (λ k below. (
      omega arith,
      omega arith,
      all_one IsTermOfWord (word_of k) (Ascii, word_of k, word_is_one k below),
      plan,
    )))
    (All-append On pairs (look_ups n ++ audit_event ∷ [])
    (each_of On pair_event 199 (λ k below. (
      omega arith,
      omega arith,
      all_two IsTermOfWord (word_of k) (word_of (k + 1)) (Ascii, word_of k, word_is_one k (omega (arith, below)))
          (Ascii, word_of (k + 1), word_is_one (k + 1) (omega (arith, below))),
      plan,
    )))
    (All-append On (look_ups n) (audit_event ∷ [])
    (each_of On look_up_event n (λ i below. (identifier_is_identifier i, plan)))
    (all_one On audit_event plan)))))

-- and nothing befalls them
pub plain_schedule : PlansNothing no_schedule
plain_schedule = record { stop = refl; fail = refl; foreign = refl }

pub exercise_events_plain : (n : ℕ) → All IsPlain (exercise_events n)
exercise_events_plain n =
    All-append IsPlain (format_event n ∷ []) (ingests n ++ (singles ++ (pairs ++ (look_ups n ++ audit_event ∷ []))))
    (all_one IsPlain (format_event n) plain_schedule)
    (All-append IsPlain (ingests n) (singles ++ (pairs ++ (look_ups n ++ audit_event ∷ [])))
    (each_of IsPlain ingest_event n (λ i below. plain_schedule))
    (All-append IsPlain singles (pairs ++ (look_ups n ++ audit_event ∷ []))
    (each_of IsPlain single_event 200 (λ k below. plain_schedule))
    (All-append IsPlain pairs (look_ups n ++ audit_event ∷ [])
    (each_of IsPlain pair_event 199 (λ k below. plain_schedule))
    (All-append IsPlain (look_ups n) (audit_event ∷ [])
    (each_of IsPlain look_up_event n (λ i below. plain_schedule))
    (all_one IsPlain audit_event plain_schedule)))))
