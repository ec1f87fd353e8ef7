-- Blocks of lists by numbers.
use Rattle.std.specs.Prelude.{◌≡◌, ◌<◌, ◌≤◌, ◌+◌, ◌*◌, ℕ, true}
use Rattle.std.specs.Ordering.{nat_cmp}
use Rattle.std.specs.BTreeSet.{BTreeSet, contains}
use Rattle.list_audit.specs.declared.listed.TheConstants.{BLOCK_STEP, LIST_STEP}

-- the number of list l and a block below 2^32, which no other block and list have
abbrev pub block_number : ℕ → ℕ → ℕ
block_number l block = l * LIST_STEP + block

-- another of these, next to those of the other lists that have the block
abbrev pub neighbour_number : ℕ → ℕ → ℕ
neighbour_number l block = block * BLOCK_STEP + l

-- two numbers of the set lie from one up to another
pub record HasTwoBetween (numbers : BTreeSet ℕ) (from behind : ℕ) : Type 0 where
  pub first : ℕ
  pub last : ℕ
  pub rises : first < last
  pub low : from ≤ first
  pub high : last < behind
  pub has_first : contains nat_cmp numbers first ≡ true
  pub has_last : contains nat_cmp numbers last ≡ true
