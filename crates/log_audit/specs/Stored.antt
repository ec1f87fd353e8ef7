-- Slots that hold documents, by the log.
use Rattle.std.specs.Prelude.{◌≡◌, ◌≤◌, ◌+◌, ℕ}
use Rattle.cell_types.specs.Image.{Image}
use Rattle.cell_types.specs.Layout.{Layout}
use Rattle.cell_types.specs.declared.geometry.TheConstants.{MAX_CELLS}
use Rattle.volume_meaning.specs.Slots.{cells_for, IsDone, IsLive}
use Rattle.log_audit.specs.Logs.{IsLog}
use Rattle.log_audit.specs.declared.log.Log.{Log}
use Rattle.log_audit.specs.declared.stored.StoredSlot.{StoredSlot}

-- its cells lie on a device, and its document and its journal fit into them
pub record FitsInSlot (s : StoredSlot) : Type 0 where
  pub end : s.start + s.length ≤ MAX_CELLS
  pub fits : cells_for s.bytes + s.journal ≤ s.length

-- the slot is done so
pub record IsStored (g : Layout) (image : Image) (s : StoredSlot) : Type 0 where
  pub done : IsDone g image s.slot s.start s.length s.bytes s.journal
  pub cells : FitsInSlot s

-- a stored slot of a volume with a log is live
abbrev pub StoredIsLive : Type 0
StoredIsLive =
    (g : Layout) (image : Image) (log : Log) → IsLog g image log → (s : StoredSlot) → IsStored g image s
    → IsLive g image s.slot

-- and a live slot is stored
abbrev pub LiveIsStored : Type 0
LiveIsStored =
    (g : Layout) (image : Image) (log : Log) → IsLog g image log → (n : ℕ) → IsLive g image n
    → (s : StoredSlot) × (s.slot ≡ n) × IsStored g image s
