-- What rows of cells make known of a front.
use Rattle.std.specs.Prelude.{◌≡◌, ◌≤◌, ◌+◌, ℕ, List, Option, Some, slice_get, length, Result, IsTrue}
use Rattle.cell_types.specs.Image.{Image}
use Rattle.cell_types.specs.Records.{IsRecordCell}
use Rattle.volume_meaning.specs.Blocks.{PostingFields, posting_record}
use Rattle.worm_device.specs.Calls.{HasCause}
use Rattle.worm_device.specs.Views.{ViewState, Viewed}
use Rattle.worm_device.specs.declared.device.Failed.{Failed}
use Rattle.jump_block.specs.Known.{IsBelow, IsKnown}
use Rattle.jump_block.specs.declared.known_front.KnownFront.{KnownFront}

-- the cell of this number is a posting there with this key
pub record IsKeyAt (cell : List ℕ) (at key : ℕ) : Type 0 where
  pub p : PostingFields
  pub is : IsRecordCell (posting_record p) at cell
  pub same : p.key ≡ key

-- what the row holds stands in the cells from this one on
pub record StandsFrom (image : Image) (at : ℕ) (row : List (Option (List ℕ))) : Type 0 where
  pub each : (k : ℕ) (value : List ℕ) → slice_get row k ≡ Some (Some value) → image (at + k) ≡ Some value

-- a row of cells behind the known places makes some of them known
pub record KnowsRow (x : ℕ) (row : List (Option (List ℕ))) (old new : KnownFront) : Type 0 where
  pub block : new.block ≡ old.block
  pub more : old.count ≤ new.count
  pub most : new.count ≤ old.count + length row
  pub below : IsBelow old x → IsBelow new x
  pub known : (image : Image) → StandsFrom image (old.block + old.count) row → IsKnown image old → IsKnown image new

-- rows that are read make some places known, and cost one read for each place at most
pub record ReadsRows (x : ℕ) (old new : ViewState) (front later : KnownFront) (result : Result Unit Failed) : Type 0 where
  pub viewed : Viewed old new
  pub block : later.block ≡ front.block
  pub places : later.count ≤ 128
  pub reads : new.base.reads ≤ old.base.reads + 128
  pub below : IsBelow later x
  pub known : IsTrue old.base.tells → IsKnown new.image later
  pub cause : HasCause old.base new.base result
