-- The cells of a document part, each by its place.
use Rattle.std.specs.Prelude.{◌≡◌, ◌+◌, ◌-◌, ◌*◌, min, ℕ, List, length, take, Option, Some, Result, Ok, Err, IsTrue}
use Rattle.cell_types.specs.Bytes.{AreBytes}
use Rattle.cell_types.specs.Contents.{content_bytes}
use Rattle.cell_types.specs.Image.{Image}
use Rattle.cell_types.specs.declared.held_bytes.Content.{Content}
use Rattle.worm_device.specs.Counts.{Rose}
use Rattle.worm_device.specs.Views.{ViewState}
use Rattle.append_file.specs.declared.piece.ContentFault.{ContentFault}
use Rattle.append_file.specs.declared.piece.ContentFault.TheVariants.{Broken, ReadFault}

-- what the cell of place k may hold in a part of so many bytes: fifteen of them, and fewer in the last cell alone
pub record IsPiece (bytes k : ℕ) (piece : List ℕ) : Type 0 where
  pub length_is : length piece ≡ min 15 (bytes - 15 * k)
  pub fits : AreBytes piece

-- what was found at place k, in a part of so many bytes, is blank or no content cell of its place
abbrev pub IsNoPiece : ℕ → ℕ → Option (List ℕ) → Type 0
IsNoPiece bytes k found = (piece : List ℕ) → IsPiece bytes k piece → found ≡ Some (content_bytes piece) → ⊥

-- the cell of place k, in a part of so many bytes from start on, is blank or no content cell of its place
abbrev pub IsBrokenAt : Image → ℕ → ℕ → ℕ → Type 0
IsBrokenAt image start bytes k = IsNoPiece bytes k (image (start + k))

-- the bytes that are held
abbrev pub held_bytes : Content → List ℕ
held_bytes held = take held.length held.bytes

-- what was found at place k, in a part of so many bytes, is the content cell of the bytes that are held
pub record HoldsPiece (bytes k : ℕ) (found : Option (List ℕ)) (held : Content) : Type 0 where
  pub count : held.length ≡ min 15 (bytes - 15 * k)
  pub piece : IsPiece bytes k (held_bytes held)
  pub is : found ≡ Some (content_bytes (held_bytes held))

-- how reading a cell may end, and why: no fault is counted but where the read failed
abbrev pub ReadPieceEnds : ℕ → ℕ → ℕ → ViewState → ViewState → Result Content ContentFault → Type 0
ReadPieceEnds start bytes k old new (Ok held) =
    (new.base.faults ≡ old.base.faults)
    × (held.length ≡ min 15 (bytes - 15 * k)) × IsPiece bytes k (held_bytes held)
    × (IsTrue old.base.tells → new.image (start + k) ≡ Some (content_bytes (held_bytes held)))
ReadPieceEnds start bytes k old new (Err Broken) =
    (new.base.faults ≡ old.base.faults) × (IsTrue old.base.tells → IsBrokenAt new.image start bytes k)
ReadPieceEnds start bytes k old new (Err ReadFault) = Rose old.base.faults new.base.faults
