-- As signed numbers none of these wraps.
use Rattle.std.proofs.Common.{◌≡◌, ◌≤◌, ◌<◌, ◌+◌, ◌*◌, ◌^◌, ◌∙◌, ◌+ℤ◌, ◌-ℤ◌, ◌*ℤ◌, ◌≤ℤ◌, ℕ, ℤ, FitsSigned, ap, arith, int_le, neg_ℤ, negsuc, pos, subst, true, w64}
use Rattle.std.specs.Int.{cast_signed, cast_unsigned}
use Rattle.std.proofs.lemmas.Int.{ints, to_z-of_z}
use Rattle.commit_record.proofs.slot_bytes.has_room.Goals as goal

in_order : (a b : ℤ) → int_le a b ≡ true → a ≤ℤ b
in_order a b is = omega (arith, ints)

-- a number of 64 bits, as it is read back
abbrev read : ℤ → ℤ
read z = cast_signed w64 (cast_unsigned w64 z)

-- one that is known keeps its value
kept : (z y : ℤ) → z ≡ y → FitsSigned w64 y → read z ≡ y
kept z y e f = ap read e ∙ to_z-of_z w64 y f

fit : (n : ℕ) → n < 2 ^ 32 → FitsSigned w64 (pos n)
fit n less = record { sfits = omega (arith, less) }

fit_more : (n : ℕ) → n < 2 ^ 32 → FitsSigned w64 (pos n +ℤ pos 15)
fit_more n less = record { sfits = omega (arith, less) }

bounded : (z : ℤ) → z ≤ℤ pos 100000000000 → neg_ℤ (pos 100000000000) ≤ℤ z → FitsSigned w64 z
bounded (pos n) above below = record { sfits = omega (arith, ints, above) }
bounded (negsuc n) above below = record { sfits = omega (arith, ints, below) }

fit_less : (m n : ℕ) → m < 2 ^ 32 → n < 2 ^ 32 → FitsSigned w64 (pos m -ℤ pos n)
fit_less m n p q = bounded (pos m -ℤ pos n) (omega (arith, ints, p, q)) (omega (arith, ints, p, q))

fit_times : (m n : ℕ) → m < 2 ^ 32 → n < 2 ^ 32 → FitsSigned w64 (pos 15 *ℤ (pos m -ℤ pos n))
fit_times m n p q =
    bounded (pos 15 *ℤ (pos m -ℤ pos n)) (omega (arith, ints, p, q)) (omega (arith, ints, p, q))

numbers : (size cells more : ℕ) → (pos size +ℤ pos 15) ≤ℤ (pos 15 *ℤ (pos cells -ℤ pos more))
    → size + 15 + 15 * more ≤ 15 * cells
numbers size cells more less = omega (arith, ints, less)

pub returns : goal.returns
returns c = λ same.
    let s : ℕ = c.args.size in
    let m : ℕ = c.args.cells in
    let n : ℕ = c.args.more in
    let ks = kept c.from-3.result (pos s) c.from-3.ensures (fit s c.ranges.size.fits) in
    let km = kept c.from.result (pos m) c.from.ensures (fit m c.ranges.cells.fits) in
    let kn = kept c.from-2.result (pos n) c.from-2.ensures (fit n c.ranges.more.fits) in
    let left = kept _ (pos s +ℤ pos 15) (ap (λ (x : ℤ). x +ℤ pos 15) ks) (fit_more s c.ranges.size.fits) in
    let room = kept _ (pos m -ℤ pos n) (ap (λ (x : ℤ). x -ℤ read c.from-2.result) km ∙ ap (λ (x : ℤ). pos m -ℤ x) kn)
    (fit_less m n c.ranges.cells.fits c.ranges.more.fits) in
    let right = kept _ (pos 15 *ℤ (pos m -ℤ pos n)) (ap (λ (x : ℤ). pos 15 *ℤ x) room)
    (fit_times m n c.ranges.cells.fits c.ranges.more.fits) in
    numbers s m n (subst (λ (x : ℤ). x ≤ℤ (pos 15 *ℤ (pos m -ℤ pos n))) left
    (subst (λ (y : ℤ). read (read c.from-3.result +ℤ pos 15) ≤ℤ y) right (in_order _ _ same)))
