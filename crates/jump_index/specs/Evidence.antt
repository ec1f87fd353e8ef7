-- What a search of a posting list names as evidence, and why.
use Rattle.std.specs.Prelude.{◌≡◌, ◌<◌, ◌≤◌, ◌+◌, ◌⊎◌, ℕ, List, Some, IsTrue}
use Rattle.cell_types.specs.Image.{Image}
use Rattle.cell_types.specs.Records.{record_bytes}
use Rattle.cell_types.specs.declared.record_cell.RecordCell.TheVariants.{Jump}
use Rattle.cell_types.specs.declared.refusal.Evidence.{Evidence}
use Rattle.cell_types.specs.declared.refusal.Fault.{Fault}
use Rattle.cell_types.specs.declared.refusal.Fault.TheVariants.{Tampered, Failed}
use Rattle.volume_meaning.specs.Volumes.{Holds}
use Rattle.volume_meaning.specs.Blocks.{PostingFields, InFront, InSpan, Leads, pointer_at}
use Rattle.tamper_rules.specs.declared.numbers.TheConstants.{BLOCK_OUT_OF_ORDER, LOST_POINTER}
use Rattle.worm_device.specs.Counts.{Rose}
use Rattle.worm_device.specs.Views.{ViewState}
use Rattle.jump_block.specs.Fronts.{HasKeyAt, IsBadEntry}
use Rattle.jump_block.specs.Pointers.{IsNoJump}
use Rattle.jump_block.specs.Pointing.{HasFull, HasPointer, IsPointerPlace}
use Rattle.jump_index.specs.declared.bounds.Bounds.{Bounds}

-- Why a pointer leads nowhere: it is no jump cell, or its target lies outside the bounds, or its block is full and no
-- key of the target's front lies in its span.
pub data IsBadPointer (bounds : Bounds) (image : Image) (block level digit : ℕ) (found : List ℕ) : Type 0 where
  no_jump : IsNoJump image (pointer_at block level digit) found → IsBadPointer bounds image block level digit found
  outside : (target : ℕ) → HasPointer image block level digit target
      → (target < bounds.pool) ⊎ (bounds.edge < target + 256)
      → IsBadPointer bounds image block level digit found
  no_key : (target l : ℕ) → HasPointer image block level digit target → HasFull image block l
      → ((place : ℕ) (p : PostingFields) → place < 128 → InFront image target place p → InSpan l level digit p.key → ⊥)
      → IsBadPointer bounds image block level digit found

-- The evidence stands in a block that this one leads to, within the bounds: it is an entry out of order, or a pointer
-- that leads nowhere.
pub data ShowsInBlock (bounds : Bounds) (image : Image) (block : ℕ) (e : Evidence) : Type 0 where
  bad_entry : (at place : ℕ) → Leads image bounds.pool bounds.edge at block → e.rule ≡ BLOCK_OUT_OF_ORDER
      → e.cell ≡ at + place → place < 128
      → IsBadEntry image at place e.found → ShowsInBlock bounds image block e
  bad_pointer : (at level digit : ℕ) → Leads image bounds.pool bounds.edge at block → e.rule ≡ LOST_POINTER
      → IsPointerPlace level digit → e.cell ≡ pointer_at at level digit → image e.cell ≡ Some e.found
      → IsBadPointer bounds image at level digit e.found
      → ShowsInBlock bounds image block e

-- a search names one of two rules
abbrev pub IsSearchRule : ℕ → Type 0
IsSearchRule number = (number ≡ BLOCK_OUT_OF_ORDER) ⊎ (number ≡ LOST_POINTER)

-- why a search from a block gives no answer
abbrev pub FaultShows : Bounds → ℕ → ViewState → ViewState → Fault → Type 0
FaultShows bounds block old new Failed = Rose old.base.faults new.base.faults
FaultShows bounds block old new (Tampered e) =
    IsSearchRule e.rule × (IsTrue old.base.tells → ShowsInBlock bounds new.image block e)
