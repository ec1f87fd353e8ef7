-- What was read of a document part.
use Rattle.std.specs.Prelude.{◌≡◌, ◌<◌, ◌≤◌, ◌+◌, ◌*◌, min, ℕ, false, true, List, [], ◌∷◌, ◌++◌, length, take, drop, replicate, Option, Some, None, Result, Ok, Err, IsTrue}
use Rattle.cell_types.specs.Bytes.{AreBytes}
use Rattle.cell_types.specs.Image.{Image}
use Rattle.cell_types.specs.declared.held_bytes.Content.{Content}
use Rattle.volume_meaning.specs.Documents.{content_at}
use Rattle.volume_meaning.specs.Slots.{cells_for}
use Rattle.worm_device.specs.Counts.{Rose}
use Rattle.worm_device.specs.Views.{ViewState}
use Rattle.append_file.specs.Pieces.{held_bytes, IsBrokenAt}
use Rattle.append_file.specs.declared.piece.ContentFault.{ContentFault}
use Rattle.append_file.specs.declared.piece.ContentFault.TheVariants.{Broken, ReadFault}
use Rattle.append_file.specs.declared.position.Position.{Position}

-- the first n cells from start on hold these bytes
pub record IsFront (image : Image) (start n : ℕ) (bytes : List ℕ) : Type 0 where
  pub fits : AreBytes bytes
  pub spells : (k : ℕ) → k < n → image (start + k) ≡ Some (content_at bytes k)

-- what is held and was not given yet
abbrev pub left_over : Position → List ℕ
left_over p = drop p.given (held_bytes p.held)

-- the start of a part
abbrev pub at_start : ℕ → ℕ → Position
at_start start bytes = record {
  start = start;
  bytes = bytes;
  read = 0;
  held = record { length = 0; bytes = replicate 15 0 };
  given = 0;
  over = false;
}

-- after one more byte of those that are held
abbrev pub one_given : Position → Position
one_given p = record {
  start = p.start;
  bytes = p.bytes;
  read = p.read;
  held = p.held;
  given = p.given + 1;
  over = p.over;
}

-- after the first byte of a cell that was read
abbrev pub first_given : Content → Position → Position
first_given held p = record {
  start = p.start;
  bytes = p.bytes;
  read = p.read + 1;
  held = held;
  given = 1;
  over = p.over;
}

-- after all bytes that are held
abbrev pub rest_given : Position → Position
rest_given p = record {
  start = p.start;
  bytes = p.bytes;
  read = p.read;
  held = p.held;
  given = p.held.length;
  over = p.over;
}

-- after all bytes of so many cells, where all of those before were given
abbrev pub row_given : ℕ → Position → Position
row_given cells p = record {
  start = p.start;
  bytes = p.bytes;
  read = p.read + cells;
  held = p.held;
  given = p.given;
  over = p.over;
}

-- after a fault in so many cells
abbrev pub ended_behind : ℕ → Position → Position
ended_behind cells p = record {
  start = p.start;
  bytes = p.bytes;
  read = p.read + cells;
  held = p.held;
  given = p.given;
  over = true;
}

-- after a fault
abbrev pub ended : Position → Position
ended p = record {
  start = p.start;
  bytes = p.bytes;
  read = p.read + 1;
  held = p.held;
  given = p.given;
  over = true;
}

-- A position in a part: no more cells were read than it has, and no more bytes given than are held.
pub record IsPosition (p : Position) : Type 0 where
  pub read : p.read ≤ cells_for p.bytes
  pub held : p.held.length ≤ 15
  pub room : p.held.length ≤ length p.held.bytes
  pub given : p.given ≤ p.held.length

-- These bytes were given, the first ones of the part; and where the device below tells its image, they stand there.
pub record HasRead (v : ViewState) (start bytes : ℕ) (p : Position) (given : List ℕ) : Type 0 where
  pub start_is : p.start ≡ start
  pub bytes_is : p.bytes ≡ bytes
  pub going : p.over ≡ false
  pub count : length given + length (left_over p) ≡ min (15 * p.read) bytes
  pub front : IsTrue v.base.tells → IsFront v.image start p.read (given ++ left_over p)

-- How asking for a byte may end, and why: no fault is counted but where a read failed. A fault is told of the cell whose
-- turn it was, and behind it there is no byte more.
abbrev pub NextByteEnds : ViewState → ViewState → Position → Position → Option (Result ℕ ContentFault) → Type 0
NextByteEnds v w old new (Some (Ok byte)) =
    (old.over ≡ false) × (w.base.faults ≡ v.base.faults)
    × ((start bytes : ℕ) (given : List ℕ) → HasRead v start bytes old given
    → HasRead w start bytes new (given ++ byte ∷ []))
NextByteEnds v w old new (Some (Err Broken)) =
    (old.over ≡ false) × (new ≡ ended old) × (w.base.faults ≡ v.base.faults)
    × (IsTrue v.base.tells → (old.read < cells_for old.bytes) × IsBrokenAt w.image old.start old.bytes old.read)
NextByteEnds v w old new (Some (Err ReadFault)) =
    (old.over ≡ false) × (new ≡ ended old) × Rose v.base.faults w.base.faults
NextByteEnds v w old new None =
    (w.base.faults ≡ v.base.faults)
    × ((start bytes : ℕ) (given : List ℕ) → HasRead v start bytes old given
    → (length given ≡ bytes) × HasRead w start bytes new given)

-- some cell of the part is broken
abbrev pub HasBroken : Image → ℕ → ℕ → Type 0
HasBroken image start bytes = (k : ℕ) × (k < cells_for bytes) × IsBrokenAt image start bytes k

-- how asking for a byte of a part that has one more may end, and why
abbrev pub ByteEnds : ViewState → ViewState → Position → Position → Result ℕ ContentFault → Type 0
ByteEnds v w old new (Ok byte) =
    (w.base.faults ≡ v.base.faults)
    × ((start bytes : ℕ) (given : List ℕ) → HasRead v start bytes old given
    → HasRead w start bytes new (given ++ byte ∷ []))
ByteEnds v w old new (Err Broken) =
    (w.base.faults ≡ v.base.faults)
    × ((start bytes : ℕ) (given : List ℕ) → HasRead v start bytes old given → length given < bytes
    → IsTrue v.base.tells → HasBroken w.image start bytes)
ByteEnds v w old new (Err ReadFault) = Rose v.base.faults w.base.faults

-- How asking for the next bytes of a part that has one more may end, and why: so many stand in the buffer. A cell that is
-- found broken was so before.
abbrev pub NextRowEnds : ViewState → ViewState → Position → Position → List ℕ → Result ℕ ContentFault → Type 0
NextRowEnds v w old new into (Ok n) =
    (w.base.faults ≡ v.base.faults) × (1 ≤ n) × (length (take n into) ≡ n)
    × ((start bytes : ℕ) (given : List ℕ) → HasRead v start bytes old given
    → HasRead w start bytes new (given ++ take n into))
NextRowEnds v w old new into (Err Broken) =
    (w.base.faults ≡ v.base.faults)
    × ((start bytes : ℕ) (given : List ℕ) → HasRead v start bytes old given → length given < bytes
    → IsTrue v.base.tells → HasBroken v.image start bytes)
NextRowEnds v w old new into (Err ReadFault) = Rose v.base.faults w.base.faults
