-- Fronts that are kept from one search to the next.
use Rattle.std.specs.Prelude.{◌≡◌, ◌≤◌, ◌+◌, ℕ, Some, slice_get}
use Rattle.cell_types.specs.Image.{Image}
use Rattle.worm_device.specs.Views.{ViewState}
use Rattle.jump_block.specs.Known.{IsKnown}
use Rattle.jump_block.specs.declared.kept_fronts.KeptFronts.{KeptFronts}
use Rattle.jump_block.specs.declared.known_front.KnownFront.{KnownFront}

-- so many places of the block's front are kept as known
pub record KeepsPlaces (fronts : KeptFronts) (block count : ℕ) : Type 0 where
  pub i : ℕ
  pub f : KnownFront
  pub held : slice_get fronts.held i ≡ Some f
  pub block_is : f.block ≡ block
  pub count_is : f.count ≡ count
  pub most : count ≤ 128

-- each of them is known
pub record AreFrontsKept (image : Image) (fronts : KeptFronts) : Type 0 where
  pub each : (i : ℕ) (f : KnownFront) → slice_get fronts.held i ≡ Some f → IsKnown image f

-- A look in a block costs one read for each place that was not kept as known and is so afterwards, and eight besides.
pub record CostsLess (block : ℕ) (before after : KeptFronts) (old new : ViewState) : Type 0 where
  pub places : ℕ
  pub keeps : KeepsPlaces after block places
  pub reads : (count : ℕ) → KeepsPlaces before block count → new.base.reads + count ≤ old.base.reads + places + 8
