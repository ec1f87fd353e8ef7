-- The command `format`: it makes the device a volume, and says so.
use Rattle.std.specs.Prelude.{◌≡◌, ℕ, List, codes, None, Result, Ok, Err, IsTrue}
use Rattle.cell_types.specs.Image.{ChangesOnly}
use Rattle.cell_types.specs.Layout.{IsLayout, Layout}
use Rattle.cell_types.specs.declared.refusal.Refusal.{Refusal}
use Rattle.cell_types.specs.declared.refusal.Refusal.TheVariants.{SinkFault}
use Rattle.ingest_engine.specs.Formats.{FormatEnds, volume_cell}
use Rattle.worm_device.specs.Calls.{Called}
use Rattle.worm_device.specs.Counts.{IsStill}
use Rattle.volume_commands.specs.Ports.{Ports, KeepsSink, PutsOut, PutsOutPart}

-- the text that tells of a new volume
abbrev pub formatted : List ℕ
formatted = codes "formatted\n"

-- How the command may end, and why: as the formatting of the device ended, and once that was done, as the text was
-- put out. It takes no memory, and is never out of it.
abbrev pub FormatCommandEnds : Layout → Ports → Ports → Result Unit Refusal → Type 0
FormatCommandEnds g old new (Ok u) = FormatEnds g old.device new.device (Ok u) × PutsOut formatted old new
FormatCommandEnds g old new (Err SinkFault) =
    FormatEnds g old.device new.device (Ok tt) × PutsOutPart formatted old new
FormatCommandEnds g old new (Err refusal) = FormatEnds g old.device new.device (Err refusal) × KeepsSink old new

-- what the command does with a layout
pub record DoesFormat (g : Layout) (old new : Ports) (result : Result Unit Refusal) : Type 0 where
  pub called : Called old.device new.device
  pub only : IsStill old.device.foreign_writes new.device.foreign_writes
      → ChangesOnly 0 (volume_cell g) old.device.image new.device.image
  pub source : new.source ≡ old.source
  pub ends : FormatCommandEnds g old new result

-- All is as the command wants it: a blank device that has room for the layout, nobody else who writes, and no call
-- that fails.
pub record IsReadyToFormat (g : Layout) (old new : Ports) : Type 0 where
  pub layout : IsLayout g
  pub tells : IsTrue old.device.tells
  pub blank : (cell : ℕ) → old.device.image cell ≡ None
  pub alone : IsStill old.device.foreign_writes new.device.foreign_writes
  pub no_device_fault : IsStill old.device.faults new.device.faults
  pub no_sink_fault : IsStill old.sink.faults new.sink.faults
