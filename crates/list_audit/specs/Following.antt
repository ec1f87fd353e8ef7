-- Blocks whose pointers were followed.
use Rattle.std.specs.Prelude.{◌≡◌, ◌<◌, ◌≤◌, ◌+◌, ◌^◌, ◌⊎◌, ℕ, Bool, IsTrue, List, Option, Some, None, true}
use Rattle.std.specs.Ordering.{nat_cmp}
use Rattle.std.specs.BTreeSet.{BTreeSet, contains}
use Rattle.cell_types.specs.Image.{Image}
use Rattle.cell_types.specs.Layout.{Layout}
use Rattle.volume_meaning.specs.declared.blocks.TheConstants.{FIRST_POINTER}
use Rattle.list_audit.specs.Blocks.{IsTaken, PointsTo}
use Rattle.list_audit.specs.Numbers.{block_number}
use Rattle.list_audit.specs.declared.blocks.TheConstants.{BEHIND_POINTERS}
use Rattle.list_audit.specs.declared.followed.TheConstants.{EVERY_LIST}
use Rattle.list_audit.specs.declared.listed.ListBlock.{ListBlock}

-- no block was followed
abbrev pub HasNoneFollowed : BTreeSet ℕ → Type 0
HasNoneFollowed numbers = (number : ℕ) → contains nat_cmp numbers number ≡ true → ⊥

-- where each block is listed for two lists: the block was followed for another list than l
pub record WasFollowed (for_two : Bool) (numbers : BTreeSet ℕ) (l block : ℕ) : Type 0 where
  pub two : IsTrue for_two
  pub list : ℕ
  pub another : list ≡ l → ⊥
  pub followed : contains nat_cmp numbers (block_number list block) ≡ true

-- the block was followed for the list that there is
abbrev pub IsFollowedFor : BTreeSet ℕ → ℕ → Option ℕ → Type 0
IsFollowedFor numbers block None = ⊥
IsFollowedFor numbers block (Some list) = contains nat_cmp numbers (block_number list block) ≡ true

-- of the blocks of new all but this one of list l are of old, and but the same of every list, where it was followed for
-- another one
abbrev pub AddsFollowed : Bool → ℕ → ℕ → BTreeSet ℕ → BTreeSet ℕ → Type 0
AddsFollowed for_two l block old new =
    (m other : ℕ) → other < 2 ^ 32 → contains nat_cmp new (block_number m other) ≡ true
    → (contains nat_cmp old (block_number m other) ≡ true) ⊎ ((m ≡ l) × (other ≡ block))
    ⊎ ((m ≡ EVERY_LIST) × (other ≡ block) × WasFollowed for_two old l block)

-- the cell is a pointer place of a block of list l that was followed
pub record IsFollowedAt (numbers : BTreeSet ℕ) (l at : ℕ) : Type 0 where
  pub block : ℕ
  pub small : block < 2 ^ 32
  pub followed : contains nat_cmp numbers (block_number l block) ≡ true
  pub pointer : ℕ
  pub from : FIRST_POINTER ≤ pointer
  pub to : pointer < BEHIND_POINTERS
  pub is : at ≡ block + pointer

-- it is one of a block of list l that was followed, or of one that was followed for every list
abbrev pub IsPassedAt : BTreeSet ℕ → ℕ → ℕ → Type 0
IsPassedAt numbers l at = IsFollowedAt numbers l at ⊎ IsFollowedAt numbers EVERY_LIST at

-- each block to which such a cell leads was taken, of the same list
abbrev pub AreFollowed : Bool → Layout → Image → BTreeSet ℕ → List ListBlock → Type 0
AreFollowed for_two g image numbers blocks =
    (l at target : ℕ) → IsPassedAt numbers l at → PointsTo g image at target → IsTaken for_two blocks l target
