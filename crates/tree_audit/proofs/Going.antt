-- Pointer places by levels and digits, and rule 10 by blocks.
use Rattle.std.proofs.Common.{◌≡◌, ◌<◌, ◌+◌, ◌-◌, ◌*◌, ◌/◌, ◌%◌, ℕ, subst, arith}
use Rattle.cell_types.specs.Image.{Image}
use Rattle.cell_types.specs.Layout.{Layout}
use Rattle.volume_meaning.specs.Nodes.{IsBlockOf}
use Rattle.tamper_rules.specs.Rules.{Pointers, PointerRule, LeadsWell, IsPlace}
use Rattle.list_audit.proofs.Ordered.{is_place}
use Rattle.tree_audit.specs.Leading.{PointerAsks}

-- the level and the digit of a pointer place, counted from the first
abbrev pub level_of : ℕ → ℕ
level_of k = k / 15

abbrev pub digit_of : ℕ → ℕ
digit_of k = k % 15 + 1

-- what is asked of each place is asked by level and digit
pub by_digits : (g : Layout) (image : Image) (l block cell : ℕ)
    → ((k : ℕ) → k < 120 → cell ≡ block + (128 + k) → LeadsWell g image l block (level_of k) (digit_of k)) → PointerAsks g image l block cell
by_digits g image l block cell each level digit levels some digits at =
    let k = 15 * level + (digit - 1) in
    let same_level : level_of k ≡ level = omega (arith, some, digits) in
    let same_digit : digit_of k ≡ digit = omega (arith, some, digits) in
    subst (λ (n : ℕ). LeadsWell g image l block n digit) same_level
    (subst (LeadsWell g image l block (level_of k)) same_digit
    (each k (omega (arith, levels, some, digits)) (omega (arith, at, some))))

-- and the other way round
pub at_digits : (g : Layout) (image : Image) (l block k : ℕ) → k < 120 → PointerAsks g image l block (block + (128 + k))
    → LeadsWell g image l block (level_of k) (digit_of k)
at_digits g image l block k few asks = asks (level_of k) (digit_of k) (omega (arith, few)) (omega arith) (omega arith) (omega arith)

-- a pointer place is a place of the rule
pub pointer_place : (g : Layout) (image : Image) (l block k : ℕ) → IsBlockOf g image l block → k < 120
    → IsPlace g Pointers (block + (128 + k))
pointer_place g image l block k is few = is_place g image l block (128 + k) is (omega (arith, few))

-- where each block is content with a cell, rule 10 is kept there, and the other way round
pub rule_asks : (g : Layout) (image : Image) (cell : ℕ) → ((l block : ℕ) → IsBlockOf g image l block → PointerAsks g image l block cell)
    → PointerRule g image cell
rule_asks g image cell each l block level digit is levels some digits at = each l block is level digit levels some digits at

pub block_asks : (g : Layout) (image : Image) (cell : ℕ) → PointerRule g image cell → (l block : ℕ) → IsBlockOf g image l block
    → PointerAsks g image l block cell
block_asks g image cell rule l block is level digit levels some digits at = rule l block level digit is levels some digits at
