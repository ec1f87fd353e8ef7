-- The slots of a volume that have ended.
use Rattle.std.specs.Prelude.{◌≡◌, ◌<◌, ◌≤◌, ◌+◌, ◌⊎◌, ℕ, Some, None, Result, Ok, Err, length, slice_get, ⊤}
use Rattle.cell_types.specs.Image.{Image}
use Rattle.cell_types.specs.Layout.{Layout, reserve_at}
use Rattle.cell_types.specs.declared.geometry.TheConstants.{MAX_CELLS}
use Rattle.cell_types.specs.declared.refusal.Evidence.{Evidence}
use Rattle.cell_types.specs.declared.refusal.Refusal.{Refusal}
use Rattle.cell_types.specs.declared.refusal.Refusal.TheVariants.{Tampered, NoMemory}
use Rattle.volume_meaning.specs.Slots.{cells_for, IsAbandoned, IsDone, HasEnded, EndsBelow}
use Rattle.tamper_rules.specs.declared.numbers.TheConstants.{RESERVE_CELL}
use Rattle.log_audit.specs.Findings.{AreMetBelow, IsFirstBroken}
use Rattle.log_audit.specs.declared.ended.EndedSlot.{EndedSlot}
use Rattle.log_audit.specs.declared.ended.EndedSlot.TheVariants.{Abandoned, Done}
use Rattle.log_audit.specs.declared.log.Log.{Log}

-- slot n has ended so
abbrev pub IsEnded : Layout → Image → ℕ → EndedSlot → Type 0
IsEnded g image n (Abandoned start length) = IsAbandoned g image image n start length
IsEnded g image n (Done start length bytes journal) = IsDone g image n start length bytes journal

-- its cells lie on a device, and what it states fits into them
abbrev pub FitsOnDevice : EndedSlot → Type 0
FitsOnDevice (Abandoned start length) = start + length ≤ MAX_CELLS
FitsOnDevice (Done start length bytes journal) = (start + length ≤ MAX_CELLS) × (cells_for bytes + journal ≤ length)

-- where the cells that it reserves begin
abbrev pub start_of : EndedSlot → ℕ
start_of (Abandoned start length) = start
start_of (Done start length bytes journal) = start

-- the cell behind those that it reserves
abbrev pub end_of : EndedSlot → ℕ
end_of (Abandoned start length) = start + length
end_of (Done start length bytes journal) = start + length

-- These are the slots below the one horizon, in order, and their reservations end at the edge.
pub record IsLog (g : Layout) (image : Image) (log : Log) : Type 0 where
  pub few : length log.slots.items ≤ g.slots
  pub each : (n : ℕ) (slot : EndedSlot) → slice_get log.slots.items n ≡ Some slot → IsEnded g image n slot
      × FitsOnDevice slot
  pub free : (n : ℕ) → length log.slots.items ≤ n → n < g.slots → image (reserve_at n) ≡ None
  pub ends : EndsBelow g image (length log.slots.items) log.edge

-- The evidence is the reserve cell of a slot that has not ended, though rules 1 to 3 are kept.
pub record IsUnended (g : Layout) (image : Image) (e : Evidence) : Type 0 where
  pub slot : ℕ
  pub inside : slot < g.slots
  pub rule : e.rule ≡ RESERVE_CELL
  pub cell : e.cell ≡ reserve_at slot
  pub stands : image e.cell ≡ Some e.found
  pub unended : HasEnded g image image slot → ⊥
  pub lower : AreMetBelow g image 4

-- how making the log may end, and why
abbrev pub LogEnds : Layout → Image → Result Log Refusal → Type 0
LogEnds g image (Ok log) = IsLog g image log
LogEnds g image (Err (Tampered e)) = IsUnended g image e
LogEnds g image (Err NoMemory) = ⊤
LogEnds g image (Err refusal) = ⊥

-- How checking the log may end, and why: rules 1 to 3 are kept, and this is the log; or the first of them is broken; or a
-- slot has not ended.
abbrev pub LogChecks : Layout → Image → Result Log Refusal → Type 0
LogChecks g image (Ok log) = IsLog g image log × AreMetBelow g image 4
LogChecks g image (Err (Tampered e)) = IsFirstBroken g image e ⊎ IsUnended g image e
LogChecks g image (Err NoMemory) = ⊤
LogChecks g image (Err refusal) = ⊥
