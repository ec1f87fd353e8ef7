-- Counts over one call after another.
use Rattle.std.proofs.Common.{◌≤◌, ℕ, arith}
use Rattle.worm_device.specs.Counts.{Rose}

-- a count that rose later rose since before
pub rose_later : (a b c : ℕ) → a ≤ b → Rose b c → Rose a c
rose_later a b c le rose = omega arith
