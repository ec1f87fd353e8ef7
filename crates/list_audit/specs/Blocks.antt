-- The blocks of all lists, found one after another.
use Rattle.std.specs.Prelude.{◌≡◌, ◌<◌, ◌≤◌, ◌+◌, ◌^◌, ◌⊎◌, ◌↔◌, ℕ, Bool, IsTrue, List, Option, length, slice_get, slice_index, Some, None, true, false, ⊤}
use Rattle.std.specs.List.Sorted.{IsStrictlyIncreasing}
use Rattle.std.specs.Ordering.{nat_cmp}
use Rattle.std.specs.BTreeSet.{contains}
use Rattle.cell_types.specs.Image.{Image}
use Rattle.cell_types.specs.Layout.{Layout, all_lists, list_at}
use Rattle.cell_types.specs.declared.record_cell.RecordCell.TheVariants.{Jump}
use Rattle.volume_meaning.specs.Nodes.{IsBlockOf}
use Rattle.volume_meaning.specs.declared.blocks.TheConstants.{FIRST_POINTER}
use Rattle.log_audit.specs.Leads.{LeadsInto}
use Rattle.list_audit.specs.Numbers.{neighbour_number}
use Rattle.list_audit.specs.declared.blocks.TheConstants.{BEHIND_POINTERS}
use Rattle.list_audit.specs.declared.found.FoundBlocks.{FoundBlocks}
use Rattle.list_audit.specs.declared.found.ListBlocks.{ListBlocks}
use Rattle.list_audit.specs.declared.listed.ListBlock.{ListBlock}
use Rattle.list_audit.specs.declared.listed.TheConstants.{BLOCK_STEP}

-- the block of list l is one of these
pub record IsAmongBlocks (blocks : List ListBlock) (l block : ℕ) : Type 0 where
  pub place : ℕ
  pub one : ListBlock
  pub there : slice_get blocks place ≡ Some one
  pub list : one.list ≡ l
  pub is : one.block ≡ block

-- they stand by rising numbers, so that none is there twice
pub record AreRising (blocks : List ListBlock) : Type 0 where
  pub few : (i : ℕ) (b : ListBlock) → slice_get blocks i ≡ Some b → b.list < BLOCK_STEP
  pub rises : (i j : ℕ) (b c : ListBlock) → i < j → slice_get blocks i ≡ Some b → slice_get blocks j ≡ Some c
      → neighbour_number b.list b.block < neighbour_number c.list c.block

-- each of these is a block of its list
abbrev pub AreOfLists : Layout → Image → List ListBlock → Type 0
AreOfLists g image blocks = (i : ℕ) (b : ListBlock) → slice_get blocks i ≡ Some b → IsBlockOf g image b.list b.block

-- what is asked of a cell on account of each of these
abbrev pub AskedOf : List ListBlock → (ℕ → ℕ → ℕ → Type 0) → ℕ → Type 0
AskedOf blocks Asks cell = (i : ℕ) (b : ListBlock) → slice_get blocks i ≡ Some b → Asks b.list b.block cell

-- two lists have this block among these
pub record IsShared (blocks : List ListBlock) (block : ℕ) : Type 0 where
  pub one : ℕ
  pub other : ℕ
  pub first : IsAmongBlocks blocks one block
  pub second : IsAmongBlocks blocks other block
  pub two : one ≡ other → ⊥

-- no three lists have one block among these
abbrev pub AreForTwo : List ListBlock → Type 0
AreForTwo blocks = (k l m block : ℕ) → IsAmongBlocks blocks k block → IsAmongBlocks blocks l block → IsAmongBlocks blocks m block
    → (k ≡ l) ⊎ (k ≡ m) ⊎ (l ≡ m)

-- the block of list l is one of these; or each block is listed for two, and it is there for two others
abbrev pub IsTaken : Bool → List ListBlock → ℕ → ℕ → Type 0
IsTaken for_two blocks l block = IsAmongBlocks blocks l block ⊎ (IsTrue for_two × IsShared blocks block)

-- these are blocks of lists, and each one was taken
pub record AreTaken (for_two : Bool) (g : Layout) (image : Image) (blocks : List ListBlock) : Type 0 where
  pub each : AreOfLists g image blocks
  pub all : (l block : ℕ) → IsBlockOf g image l block → IsTaken for_two blocks l block

-- these are the numbers of the blocks, each in its place, and they rise
pub record AreNumbered (blocks : List ListBlock) (numbers : List ℕ) : Type 0 where
  pub count : length numbers ≡ length blocks
  pub each : (i : ℕ) (b : ListBlock) → slice_get blocks i ≡ Some b → slice_get numbers i ≡ Some (neighbour_number b.list b.block)
  pub increasing : IsStrictlyIncreasing numbers

-- these are the blocks of all lists, by rising numbers, each of a list once; or each of two lists at most, and one that is
-- missing for a list is there for two others
pub record AreBlocks (for_two : Bool) (g : Layout) (image : Image) (found : ListBlocks) : Type 0 where
  pub taken : AreTaken for_two g image found.blocks.items
  pub rising : AreRising found.blocks.items
  pub numbered : AreNumbered found.blocks.items found.numbers.items
  pub most : IsTrue for_two → AreForTwo found.blocks.items

abbrev pub AreListBlocks : Layout → Image → ListBlocks → Type 0
AreListBlocks = AreBlocks false

abbrev pub AreBlocksForTwo : Layout → Image → ListBlocks → Type 0
AreBlocksForTwo = AreBlocks true

-- the jump cell there leads to a block whose cells lie in the pool
abbrev pub PointsTo : Layout → Image → ℕ → ℕ → Type 0
PointsTo g image at target = LeadsInto g image (λ (t : ℕ). Jump t) 256 at target

-- the number is that of one of these blocks
pub record IsNumbered (blocks : List ListBlock) (number : ℕ) : Type 0 where
  pub place : ℕ
  pub one : ListBlock
  pub there : slice_get blocks place ≡ Some one
  pub is : number ≡ neighbour_number one.list one.block

-- the list, if there is one, is another than l; and each block is listed for two lists
abbrev pub IsAnother : Bool → ℕ → Option ℕ → Type 0
IsAnother for_two l None = ⊤
IsAnother for_two l (Some list) = IsTrue for_two × (list ≡ l → ⊥)

-- the numbers are those of the blocks, of which no three lists have one where each is listed for two; and what stands beside
-- a block is another list
pub record AreFound (found : FoundBlocks) : Type 0 where
  pub each : (i : ℕ) (b : ListBlock) → slice_get found.blocks.items i ≡ Some b
      → contains nat_cmp found.numbers (neighbour_number b.list b.block) ≡ true
  pub small : (i : ℕ) (b : ListBlock) → slice_get found.blocks.items i ≡ Some b → (b.list < BLOCK_STEP) × (b.block < 2 ^ 32)
  pub all : (number : ℕ) → contains nat_cmp found.numbers number ≡ true → IsNumbered found.blocks.items number
  pub most : IsTrue found.for_two → AreForTwo found.blocks.items
  pub shared : (block : ℕ) → contains nat_cmp found.shared block ≡ true → IsTrue found.for_two × IsShared found.blocks.items block
  pub beside : length found.others.items ≡ length found.blocks.items
  pub others : (i : ℕ) (b : ListBlock) (other : Option ℕ) → slice_get found.blocks.items i ≡ Some b
      → slice_get found.others.items i ≡ Some other → IsAnother found.for_two b.list other

-- new is old with this block of list l, if it was not taken before
pub record AddsBlock (for_two : Bool) (l block : ℕ) (old new : List ListBlock) : Type 0 where
  pub keeps : (i : ℕ) (b : ListBlock) → slice_get old i ≡ Some b → slice_get new i ≡ Some b
  pub has : IsTaken for_two new l block
  pub only : (i : ℕ) (b : ListBlock) → slice_get new i ≡ Some b → (slice_get old i ≡ Some b) ⊎ ((b.list ≡ l) × (b.block ≡ block))

-- the numbers are such as blocks of lists can have
abbrev pub AreSmall : List ℕ → Type 0
AreSmall numbers = (i : ℕ) → i < length numbers → slice_index numbers i < 2 ^ 48

-- these are the blocks of these numbers
pub record AreDecoded (numbers : List ℕ) (blocks : List ListBlock) : Type 0 where
  pub count : length blocks ≡ length numbers
  pub each : (i : ℕ) (b : ListBlock) → slice_get blocks i ≡ Some b
      → (slice_index numbers i ≡ neighbour_number b.list b.block) × (b.list < BLOCK_STEP)

-- these are the same blocks, by rising numbers
pub record AreInOrder (blocks : List ListBlock) (ordered : ListBlocks) : Type 0 where
  pub rising : AreRising ordered.blocks.items
  pub numbered : AreNumbered ordered.blocks.items ordered.numbers.items
  pub same : (l block : ℕ) → IsAmongBlocks blocks l block ↔ IsAmongBlocks ordered.blocks.items l block

-- each block to which one of the pointer places of this one below some place leads was taken, of the same list
abbrev pub LeadsAmong : Bool → Layout → Image → List ListBlock → ListBlock → ℕ → Type 0
LeadsAmong for_two g image blocks b below =
    (pointer target : ℕ) → FIRST_POINTER ≤ pointer → pointer < below → PointsTo g image (b.block + pointer) target
    → IsTaken for_two blocks b.list target

-- These are blocks of lists, the first one of each list was taken, and so was each to which the first n of them lead.
pub record AreClosedBelow (for_two : Bool) (g : Layout) (image : Image) (n : ℕ) (blocks : List ListBlock) : Type 0 where
  pub reached : AreOfLists g image blocks
  pub firsts : (l : ℕ) → l < all_lists g → IsTaken for_two blocks l (list_at g l)
  pub closed : (i : ℕ) (b : ListBlock) → i < n → slice_get blocks i ≡ Some b → LeadsAmong for_two g image blocks b BEHIND_POINTERS
