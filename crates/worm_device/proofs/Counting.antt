-- Counts over one span of time after another.
use Rattle.std.proofs.Common.{◌≡◌, ◌≤◌, ℕ, subst, arith}
use Rattle.worm_device.specs.Counts.{Rose, IsStill}

-- a count that did not rise over two spans did not rise over the first
pub still_first : {a b c : ℕ} → a ≤ b → b ≤ c → IsStill a c → IsStill a b
still_first {a} {b} {c} p q h = record { same = omega (arith, p, q, h.same); below = h.below }

-- nor over the second
pub still_second : {a b c : ℕ} → a ≤ b → b ≤ c → IsStill a c → IsStill b c
still_second {a} {b} {c} p q h = record { same = omega (arith, p, q, h.same); below = omega (arith, p, q, h.same, h.below) }

-- a count that rose has risen later too
pub rose_later : (a b c : ℕ) → Rose a b → b ≤ c → Rose a c
rose_later a b c p q = omega (arith, p, q)

-- a count that rose from where it still stood has risen
pub rose_from : (a b c : ℕ) → b ≡ a → Rose b c → Rose a c
rose_from a b c e p = subst (λ (n : ℕ). Rose n c) e p

-- a count does not both rise and stand still
pub rose_or_still : (a b : ℕ) → Rose a b → IsStill a b → ⊥
rose_or_still a b p q = omega (arith, p, q.same, q.below)
