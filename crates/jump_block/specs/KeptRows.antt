-- A row of cells that is kept from one search to the next, and what it shows of a front.
use Rattle.std.specs.Prelude.{◌≡◌, ◌<◌, ◌≤◌, ◌+◌, ◌%◌, ℕ, Option, Some, None, Result, Ok, Err, IsTrue, ⊤}
use Rattle.cell_types.specs.Image.{Image}
use Rattle.volume_meaning.specs.Volumes.{Holds}
use Rattle.volume_meaning.specs.Blocks.{posting_record}
use Rattle.worm_device.specs.Counts.{Rose}
use Rattle.worm_device.specs.Views.{ViewState, Viewed}
use Rattle.worm_device.specs.declared.device.Failed.{Failed}
use Rattle.jump_block.specs.Entries.{posting_of}
use Rattle.jump_block.specs.Fronts.{FirstEnds}
use Rattle.jump_block.specs.Known.{IsBelow, IsKnown}
use Rattle.jump_block.specs.RowFronts.{StandsFrom}
use Rattle.jump_block.specs.declared.held_entry.Entry.{Entry}
use Rattle.jump_block.specs.declared.kept_row.KeptRow.{KeptRow}
use Rattle.jump_block.specs.declared.known_front.Front.TheVariants.{At}
use Rattle.jump_block.specs.declared.known_front.KnownFront.{KnownFront}

-- what the row was found to hold stands
abbrev pub IsRowKept : Image → KeptRow → Type 0
IsRowKept image row = StandsFrom image row.at row.cells

-- the row shows this entry at a place of a block
pub record ShowsEntry (row : KeptRow) (block place : ℕ) (e : Entry) : Type 0 where
  pub block_is : e.block ≡ block
  pub place_is : e.place ≡ place
  pub last : e.key % 256 ≤ e.last
  pub holds : (image : Image) → IsRowKept image row → Holds image (block + place) (posting_record (posting_of e))

-- the row makes some places more of a front known, which hold keys below x
pub record PassesRow (x : ℕ) (row : KeptRow) (old new : KnownFront) : Type 0 where
  pub block : new.block ≡ old.block
  pub places : new.count ≤ 128
  pub below : IsBelow new x
  pub known : (image : Image) → IsRowKept image row → IsKnown image old → IsKnown image new

-- where the row shows it, this is the entry behind the known places, and it holds a key at or past x
abbrev pub IsNextOf : ℕ → KeptRow → KnownFront → Option Entry → Type 0
IsNextOf x row f None = ⊤
IsNextOf x row f (Some e) =
    ShowsEntry row f.block f.count e × (x ≤ e.key) × (f.count < 128) × (1 ≤ f.count → f.greatest < e.key)

-- the first entry of a block at or past x, where rows show it
abbrev pub NextEnds : ℕ → ℕ → ViewState → ViewState → Result (Option Entry) Failed → Type 0
NextEnds x block old new (Ok (Some e)) = FirstEnds x block old new (Ok (At e))
NextEnds x block old new (Ok None) = ⊤
NextEnds x block old new (Err failed) = Rose old.base.faults new.base.faults

-- A look by rows costs 128 reads at most. What it makes known stays so, and so does the row.
pub record ReadsNext (x : ℕ) (old new : ViewState) (front later : KnownFront) (row : KeptRow)
    (result : Result (Option Entry) Failed) : Type 0 where
  pub viewed : Viewed old new
  pub block : later.block ≡ front.block
  pub places : later.count ≤ 128
  pub reads : new.base.reads ≤ old.base.reads + 128
  pub known : IsTrue old.base.tells → IsKnown new.image later
  pub kept : IsTrue old.base.tells → IsRowKept new.image row
  pub ends : NextEnds x front.block old new result
