-- The cells of a device among the bytes of a file.
use Rattle.std.specs.Prelude.{◌≡◌, ◌<◌, ◌==◌, ◌&&◌, ◌+◌, if◌then◌else◌, nat_lt, ℕ, Bool, true, List, [], ◌∷◌, Option, Some, None, slice_get}
use Rattle.cell_types.specs.Image.{Image}
use Rattle.worm_device.specs.ReadBytes.{cell_bytes}

-- all of them are zero
abbrev pub are_zeros : List ℕ → Bool
are_zeros [] = true
are_zeros (byte ∷ bytes) = (byte == 0) && are_zeros bytes

-- what sixteen bytes are as a cell: blank where all of them are zero
abbrev pub cell_in : List ℕ → Option (List ℕ)
cell_in bytes = if are_zeros bytes then None else Some bytes

-- what stands in the first so many cells of a file of these bytes
abbrev pub image_of_bytes : ℕ → List ℕ → Image
image_of_bytes cells bytes cell = if nat_lt cell cells then cell_in (cell_bytes bytes cell) else None

-- each of the first so many that were found is what stands in a cell of these bytes, from this one on
abbrev pub AreCellsIn : ℕ → ℕ → List (Option (List ℕ)) → List ℕ → Type 0
AreCellsIn count first found bytes =
    (place : ℕ) (held : Option (List ℕ)) → place < count → slice_get found place ≡ Some held
    → held ≡ cell_in (cell_bytes bytes (first + place))
