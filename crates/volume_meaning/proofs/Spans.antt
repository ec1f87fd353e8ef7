-- Spans: a key lies in one of them, and each greater key lies in one.
use Rattle.std.proofs.Common.{◌≡◌, ◌<◌, ◌≤◌, ◌+◌, ◌-◌, ◌*◌, ◌/◌, ◌^◌, ℕ, suc, zero, ⊎_elim, arith, subst, sym}
use Rattle.std.proofs.lemmas.Bool.{cases_order, cases_lt}
use Rattle.std.proofs.Math.Nat.{le-div_iff_mul-le, div-lt_iff_lt-mul, div-mul-le_self, lt-div-mul-add, pow-le-pow_right, one-le-pow, pow-succ', mul-le-mul_right}
use Rattle.volume_meaning.specs.Blocks.{InSpan}

-- a level's digits end where the next level begins
pub wide : (i m : ℕ) → i < m → 16 * 16 ^ i ≤ 16 ^ m
wide i m below =
    let up : 16 ^ (suc i) ≤ 16 ^ m = pow-le-pow_right (omega arith) (omega arith) in
    omega (arith, up, pow-succ' 16 i)

-- keys of a lower level are smaller
pub lower_is_less : (l i j k m n k' : ℕ) → InSpan l i j k → InSpan l m n k' → i < m → k < k'
lower_is_less l i j k m n k' s t below =
    let w = wide i m below in
    let digits : j * 16 ^ i ≤ 15 * 16 ^ i = mul-le-mul_right (16 ^ i) s.digits in
    let first : 1 * 16 ^ m ≤ n * 16 ^ m = mul-le-mul_right (16 ^ m) t.some in
    omega (arith, w, digits, first, s.high, t.low)

-- keys of a lower digit of one level are smaller
pub lower_digit_is_less : (l i j k n k' : ℕ) → InSpan l i j k → InSpan l i n k' → j < n → k < k'
lower_digit_is_less l i j k n k' s t below =
    let next : (j + 1) * 16 ^ i ≤ n * 16 ^ i = mul-le-mul_right (16 ^ i) (omega arith) in
    omega (arith, next, s.high, t.low)

-- one level, one digit
one_level : (l k i j m n : ℕ) → InSpan l i j k → InSpan l m n k → i ≡ m
one_level l k i j m n s t =
    ⊎_elim
    (λ same. same)
    (λ differ. ⊎_elim
    (λ below. absurd (omega (arith, lower_is_less l i j k m n k s t below)))
    (λ above. absurd (omega (arith, lower_is_less l m n k i j k t s above)))
    differ)
    (cases_order i m)

one_digit : (l k i j n : ℕ) → InSpan l i j k → InSpan l i n k → j ≡ n
one_digit l k i j n s t =
    ⊎_elim
    (λ same. same)
    (λ differ. ⊎_elim
    (λ below. absurd (omega (arith, lower_digit_is_less l i j k n k s t below)))
    (λ above. absurd (omega (arith, lower_digit_is_less l i n k j k t s above)))
    differ)
    (cases_order j n)

pub apart : (l k i j m n : ℕ) → InSpan l i j k → InSpan l m n k → (i ≡ m) × (j ≡ n)
apart l k i j m n s t =
    let level = one_level l k i j m n s t in
    let P : ℕ → Type 0 = λ x. InSpan l x n k in
    (level, one_digit l k i j n s (subst P (sym level) t))

-- the span of a distance that has its first digit at this level
pub span_of : (l k i : ℕ) → i < 8 → 16 ^ i ≤ k - l → k - l < 16 * 16 ^ i → l ≤ k → InSpan l i ((k - l) / 16 ^ i) k
span_of l k i level low high le =
    let some : 0 < 16 ^ i = one-le-pow i 16 (omega arith) in
    record {
      levels = level;
      some = (le-div_iff_mul-le {x = 1} some).1 (omega arith);
      digits = omega (arith, (div-lt_iff_lt-mul {y = 16} some).1 high);
      low = omega (arith, div-mul-le_self (k - l) (16 ^ i));
      high = omega (arith, lt-div-mul-add {a = k - l} some);
    }

-- each distance has its first digit at some level
pub level_of : (n d : ℕ) → 1 ≤ d → d < 16 ^ n → (i : ℕ) × (i < n) × (16 ^ i ≤ d) × (d < 16 * 16 ^ i)
level_of zero d some below = absurd (omega arith)
level_of (suc n) d some below =
    ⊎_elim
    (λ less. let h = level_of n d some less in (h.0, omega (arith, h.1), h.2, h.3))
    (λ more. (n, omega arith, more, omega (arith, pow-succ' 16 n)))
    (cases_lt d (16 ^ n))

pub cover : (l k : ℕ) → l < k → k < 2 ^ 32 → (i : ℕ) × (j : ℕ) × InSpan l i j k
cover l k less below =
    let h = level_of 8 (k - l) (omega arith) (omega arith) in
    (h.0, (k - l) / 16 ^ h.0, span_of l k h.0 h.1 h.2 h.3 (omega arith))

-- a key of a span is greater than the key that it is counted from
pub span_above : {l i j k : ℕ} → InSpan l i j k → l < k
span_above {l} {i} {j} s =
    let some : 1 ≤ 16 ^ i = one-le-pow i 16 (omega arith) in
    let first : 1 * 16 ^ i ≤ j * 16 ^ i = mul-le-mul_right (16 ^ i) s.some in
    omega (arith, some, first, s.low)
