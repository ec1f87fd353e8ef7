-- What a full block and its pointers say, and what is named of a pointer.
use Rattle.std.specs.Prelude.{◌≡◌, ◌<◌, ◌≤◌, ℕ}
use Rattle.cell_types.specs.Image.{Image}
use Rattle.cell_types.specs.Records.{record_bytes}
use Rattle.cell_types.specs.declared.record_cell.RecordCell.TheVariants.{Jump}
use Rattle.cell_types.specs.declared.refusal.Fault.{Fault}
use Rattle.cell_types.specs.declared.refusal.Fault.TheVariants.{Tampered, Failed}
use Rattle.volume_meaning.specs.Volumes.{Holds}
use Rattle.volume_meaning.specs.Blocks.{PostingFields, InFront, pointer_at}
use Rattle.tamper_rules.specs.declared.numbers.TheConstants.{LOST_POINTER}
use Rattle.jump_block.specs.Fronts.{HasKeyAt}

-- the block is full, and this is its greatest key
abbrev pub HasFull : Image → ℕ → ℕ → Type 0
HasFull image block l = HasKeyAt image block 127 l

-- some key of the block's front lies from low up to the bound
pub record HasKeyIn (image : Image) (block low bound : ℕ) : Type 0 where
  pub place : ℕ
  pub p : PostingFields
  pub in_places : place < 128
  pub in_front : InFront image block place p
  pub from : low ≤ p.key
  pub below : p.key < bound

-- the pointer of this level and digit leads to the target
abbrev pub HasPointer : Image → ℕ → ℕ → ℕ → ℕ → Type 0
HasPointer image block level digit target = Holds image (pointer_at block level digit) (Jump target)

-- a pointer has one of eight levels and a digit of 1 to 15
pub record IsPointerPlace (level digit : ℕ) : Type 0 where
  pub levels : level < 8
  pub some : 1 ≤ digit
  pub digits : digit ≤ 15

-- the fault names this pointer
abbrev pub IsPointerEvidence : ℕ → ℕ → ℕ → ℕ → Fault → Type 0
IsPointerEvidence block level digit target Failed = ⊥
IsPointerEvidence block level digit target (Tampered e) =
    (e.rule ≡ LOST_POINTER) × (e.cell ≡ pointer_at block level digit)
    × (e.found ≡ record_bytes (Jump target) (pointer_at block level digit))
