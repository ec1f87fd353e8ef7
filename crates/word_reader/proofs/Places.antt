-- What places of a row are passed at once.
use Rattle.std.proofs.Common.{◌≡◌, ◌<◌, ◌≤◌, ◌+◌, ◌-◌, ◌&&◌, eqb, nat_le, ℕ, Bool, true, false, not, cond, List, length, map, refl, sym, ap, ◌∙◌, subst, arith, inl, inr}
use Rattle.std.proofs.Math.ListN.{get_or}
use Rattle.std.proofs.lemmas.Bool.{and_parts, cases_lt, eq-eqb, eqb-true}
use Rattle.std.proofs.lemmas.Bool.Decides.{nat_tests}
use Rattle.std.proofs.lemmas.List.{get_or-map, get_or_past, length-map}
use Rattle.std.proofs.lemmas.List.Folds.{list_all_at}
use Rattle.std.proofs.lemmas.List.FromFn.{get_or-range_with_len, length-range_with_len}
use Rattle.std.proofs.lemmas.Nat.Bits.{bit_at-zero}
use Rattle.std.proofs.lemmas.Simd.{bit_mask_l, get_or-chunk, get_or-zip2, length-chunk, length-zip2}
use Rattle.std.specs.Int.Bits.{bit_or, bit_xor, xor_self}
use Rattle.std.specs.Int.{bit_at}
use Rattle.std.specs.List.{list_all, range_with_len}
use Rattle.std.specs.Prelude.{slice_index}
use Rattle.std.specs.Simd.Lanes.{chunk, mask_l, zip2}
use Rattle.volume_meaning.specs.Words.{lowered}
use Rattle.word_reader.specs.RowWords.{IsFrontOf, StandsAt, StandsAtNone}
use Rattle.word_reader.specs.declared.row_words.TermFront.{TermFront}
use Rattle.word_reader.proofs.Reading.{bool_cases, passed}
use Rattle.word_reader.proofs.Seeking.{true_false}

-- how two bytes differ but for the bit of case
abbrev pub difference : ℕ → ℕ → ℕ
difference byte x = bit_xor (bit_or x 32) (bit_or byte 32)

-- a byte and its small letter agree but for that bit
abbrev agrees : ℕ → Bool
agrees b = eqb (bit_or (lowered b) 32) (bit_or b 32)

capitals_agree : list_all agrees (range_with_len 65 26) ≡ true
capitals_agree = refl

nat_le_is : (m n : ℕ) → nat_le m n ≡ true → m ≤ n
nat_le_is m n e = grind (arith, nat_tests)

capital_agrees : (b : ℕ) → 65 ≤ b → b ≤ 90 → agrees b ≡ true
capital_agrees b low high = elim (bool_cases (agrees b)) [
  | inl e ↦ e
  | inr e ↦
      let less : b - 65 < 26 = omega (arith, low, high) in
      let here : get_or (range_with_len 65 26) (b - 65) 0 ≡ b =
      get_or-range_with_len 65 26 (b - 65) 0 less ∙ (let back : 65 + (b - 65) ≡ b = omega (arith, low) in back) in
      absurd (true_false (sym capitals_agree ∙ list_all_at agrees (range_with_len 65 26) (b - 65) 0
      (omega (arith, less, length-range_with_len 65 26)) (ap agrees here ∙ e)))
]

small_agrees : (b : ℕ) → bit_or (lowered b) 32 ≡ bit_or b 32
small_agrees b = elim (bool_cases (nat_le 0x41 b && nat_le b 0x5A)) [
  | inl e ↦
      let p = and_parts (nat_le 0x41 b) (nat_le b 0x5A) e in
      eqb-true _ _ (capital_agrees b (nat_le_is 0x41 b p.0) (nat_le_is b 0x5A p.1))
  | inr e ↦ ap (λ (x : ℕ). bit_or x 32) (passed (nat_le 0x41 b && nat_le b 0x5A) (b + 0x20) b e)
]

-- so it does not differ from it
no_difference : (b byte : ℕ) → lowered b ≡ byte → difference byte b ≡ 0
no_difference b byte same =
    ap (λ (x : ℕ). bit_xor (bit_or b 32) x) (ap (λ (x : ℕ). bit_or x 32) (sym same) ∙ small_agrees b)
    ∙ xor_self (bit_or b 32)

-- Of sixteen places of a row, how the bytes there differ from one, and those so many bytes behind from another.
module _ (row : List ℕ) (at behind first second : ℕ) (ones others : List ℕ) (room : at + behind + 16 ≤ length row)
    (ones_are : ones ≡ map (difference first) (chunk at 16 row))
    (others_are : others ≡ map (difference second) (chunk (at + behind) 16 row)) where
  long_ones : length ones ≡ 16
  long_ones = ap length ones_are ∙ length-map (chunk at 16 row) (difference first) ∙ length-chunk at 16 row (omega (arith, room))

  long_others : length others ≡ 16
  long_others =
      ap length others_are ∙ length-map (chunk (at + behind) 16 row) (difference second)
      ∙ length-chunk (at + behind) 16 row (omega (arith, room))

  pub long : length (zip2 bit_or ones others) ≡ 16
  long = length-zip2 bit_or ones others (long_ones ∙ sym long_others) ∙ long_ones

  lane_of : (byte from k : ℕ) → from + 16 ≤ length row → k < 16
      → get_or (map (difference byte) (chunk from 16 row)) k 0 ≡ difference byte (slice_index row (from + k))
  lane_of byte from k inside less =
      get_or-map (difference byte) (chunk from 16 row) k 0 0 (omega (arith, less, length-chunk from 16 row inside))
      ∙ ap (difference byte) (get_or-chunk from 16 row k 0 less)

  -- where both stand no bit is set
  both_stand : (k : ℕ) → k < 16 → lowered (slice_index row (at + k)) ≡ first
      → lowered (slice_index row (at + behind + k)) ≡ second → get_or (zip2 bit_or ones others) k 0 ≡ 0
  both_stand k less one other =
      get_or-zip2 bit_or ones others k 0 0 0 (omega (arith, less, long_ones)) (omega (arith, less, long_others))
      ∙ ap (λ (x : ℕ). bit_or x (get_or others k 0))
      (ap (λ (l : List ℕ). get_or l k 0) ones_are ∙ lane_of first at k (omega (arith, room)) less
      ∙ no_difference (slice_index row (at + k)) first one)
      ∙ ap (λ (l : List ℕ). get_or l k 0) others_are ∙ lane_of second (at + behind) k room less
      ∙ no_difference (slice_index row (at + behind + k)) second other

  -- so the bit of that place is set
  pub both_found : (k : ℕ) → k < 16 → lowered (slice_index row (at + k)) ≡ first
      → lowered (slice_index row (at + behind + k)) ≡ second
      → bit_at (mask_l (map (λ x. eqb x 0) (zip2 bit_or ones others))) k ≡ 1
  both_found k less one other =
      bit_mask_l (map (λ x. eqb x 0) (zip2 bit_or ones others)) k
      ∙ ap (λ (b : Bool). cond b 1 0)
      (get_or-map (λ x. eqb x 0) (zip2 bit_or ones others) k 0 false (omega (arith, less, long))
      ∙ eq-eqb (get_or (zip2 bit_or ones others) k 0) 0 (both_stand k less one other))

  -- and no bit of a place behind them
  pub none_behind : (k : ℕ) → 16 ≤ k → bit_at (mask_l (map (λ x. eqb x 0) (zip2 bit_or ones others))) k ≡ 0
  none_behind k behind_all =
      bit_mask_l (map (λ x. eqb x 0) (zip2 bit_or ones others)) k
      ∙ ap (λ (b : Bool). cond b 1 0)
      (get_or_past (map (λ x. eqb x 0) (zip2 bit_or ones others)) k false
      (omega (arith, behind_all, length-map (zip2 bit_or ones others) (λ x. eqb x 0), long)))

-- where no bit is set, the two bytes stand at none of the places
pub none_set : (found : ℕ) → found ≡ 0 → (k : ℕ) → bit_at found k ≡ 1 → ⊥
none_set found none k set =
    let clear : bit_at found k ≡ 0 = ap (λ (n : ℕ). bit_at n k) none ∙ bit_at-zero k in
    omega (arith, clear, set)

-- what is not false is true
pub shown : (b : Bool) → not b ≡ false → b ≡ true
shown true e = refl
shown false e = absurd (true_false e)

-- they stand at none of so many places, and at none of sixteen behind those
pub none_past : (row : List ℕ) (at behind first second count : ℕ)
    → ((k : ℕ) → k < count → lowered (slice_index row (at + k)) ≡ first → lowered (slice_index row (at + behind + k)) ≡ second → ⊥)
    → ((k : ℕ) → k < 16 → lowered (slice_index row (at + count + k)) ≡ first
    → lowered (slice_index row (at + count + behind + k)) ≡ second → ⊥)
    → (k : ℕ) → k < count + 16 → lowered (slice_index row (at + k)) ≡ first
    → lowered (slice_index row (at + behind + k)) ≡ second → ⊥
none_past row at behind first second count before after k less one other = elim (cases_lt k count) [
  | inl earlier ↦ before k earlier one other
  | inr later ↦
      let here : at + k ≡ at + count + (k - count) = omega (arith, later) in
      let there : at + behind + k ≡ at + count + behind + (k - count) = omega (arith, later) in
      after (k - count) (omega (arith, less, later))
      (subst (λ (p : ℕ). lowered (slice_index row p) ≡ first) here one)
      (subst (λ (p : ℕ). lowered (slice_index row p) ≡ second) there other)
]

-- a term with this front does not stand where the front's bytes do not
pub not_front : (row term : List ℕ) (at n : ℕ) (front : TermFront) → IsFrontOf term front
    → ((k : ℕ) → k < n → lowered (slice_index row (at + front.offset + k)) ≡ front.first
    → lowered (slice_index row (at + front.offset + front.behind + k)) ≡ front.second → ⊥)
    → (k : ℕ) → k < n → StandsAt row (at + k) term → ⊥
not_front row term at n front is none k less stands =
    let one : at + k + front.offset ≡ at + front.offset + k = omega arith in
    let other : at + k + (front.offset + front.behind) ≡ at + front.offset + front.behind + k = omega arith in
    none k less
    (subst (λ (p : ℕ). lowered (slice_index row p) ≡ slice_index term front.offset) one
    (stands.spells front.offset (omega (arith, is.inside))).same ∙ is.first)
    (subst (λ (p : ℕ). lowered (slice_index row p) ≡ slice_index term (front.offset + front.behind)) other
    (stands.spells (front.offset + front.behind) is.inside).same ∙ is.second)

-- a term that stands at no place up to one, and at none of so many from it on
pub none_to : (row term : List ℕ) (from at count : ℕ) → StandsAtNone row from at term
    → ((k : ℕ) → k < count → StandsAt row (at + k) term → ⊥) → StandsAtNone row from (at + count) term
none_to row term from at count before behind place low less is = elim (cases_lt place at) [
  | inl earlier ↦ before place low earlier is
  | inr later ↦
      let back : place ≡ at + (place - at) = omega (arith, later) in
      behind (place - at) (omega (arith, less, later)) (subst (λ (p : ℕ). StandsAt row p term) back is)
]

-- at none up to one, and at none from there up to another
pub none_on : (row term : List ℕ) (from at to : ℕ) → StandsAtNone row from at term → StandsAtNone row at to term
    → StandsAtNone row from to term
none_on row term from at to before behind place low less is = elim (cases_lt place at) [
  | inl earlier ↦ before place low earlier is
  | inr later ↦ behind place later less is
]

-- and not at the next
pub none_at : (row term : List ℕ) (from at : ℕ) → StandsAtNone row from at term → (StandsAt row at term → ⊥)
    → StandsAtNone row from (at + 1) term
none_at row term from at before not place low less is = elim (cases_lt place at) [
  | inl earlier ↦ before place low earlier is
  | inr later ↦
      let same : place ≡ at = omega (arith, later, less) in
      not (subst (λ (p : ℕ). StandsAt row p term) same is)
]
