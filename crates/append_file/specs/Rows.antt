-- The cells of a document part, several at once. They are read one after another while somebody else may write: what
-- was found written stands at the end, and what was found blank was so before.
use Rattle.std.specs.Prelude.{◌≡◌, ◌<◌, ◌+◌, ◌-◌, ◌*◌, min, ℕ, List, ◌++◌, length, drop, slice_index, take, Some, Result, Ok, Err, IsTrue}
use Rattle.cell_types.specs.Bytes.{AreBytes}
use Rattle.cell_types.specs.Contents.{content_bytes}
use Rattle.volume_meaning.specs.Documents.{content_at}
use Rattle.worm_device.specs.Counts.{Rose}
use Rattle.worm_device.specs.ReadBytes.{cell_bytes}
use Rattle.worm_device.specs.Views.{ViewState}
use Rattle.append_file.specs.Pieces.{IsNoPiece, IsPiece}
use Rattle.append_file.specs.Reading.{HasBroken, IsFront}
use Rattle.append_file.specs.declared.piece.ContentFault.{ContentFault}
use Rattle.append_file.specs.declared.piece.ContentFault.TheVariants.{Broken, ReadFault}

-- A row of so many cells holds these bytes of a part of so many, from this place on: fifteen in each cell, and fewer in
-- the part's last one alone.
pub record HoldsRow (bytes place count : ℕ) (row held : List ℕ) : Type 0 where
  pub length_is : length held ≡ min (15 * count) (bytes - 15 * place)
  pub fits : AreBytes held
  pub each : (k : ℕ) → k < count → cell_bytes row k ≡ content_at held k

-- The first so many bytes of a room are those that the cell of place k holds.
pub record GivesPiece (bytes k : ℕ) (cell room : List ℕ) (n : ℕ) : Type 0 where
  pub piece : List ℕ
  pub is : IsPiece bytes k piece
  pub held : cell ≡ content_bytes piece
  pub count : n ≡ length piece
  pub given : take n room ≡ piece

-- So many bytes were put into a buffer, from this one on: the cell of place k is the content cell of them.
pub record PutsPiece (bytes k : ℕ) (cell : List ℕ) (at : ℕ) (old new : List ℕ) (n : ℕ) : Type 0 where
  pub piece : List ℕ
  pub is : IsPiece bytes k piece
  pub held : cell ≡ content_bytes piece
  pub count : n ≡ length piece
  pub put : take (at + n) new ≡ take at old ++ piece

-- the first byte of a cell says that it holds fifteen
abbrev pub IsFull : List ℕ → Type 0
IsFull cell = slice_index cell 0 ≡ 31

-- The bytes of cell k, which is full, were put behind those of the full cells before it. No cell behind it changed.
pub record MovesFull (k : ℕ) (old new : List ℕ) : Type 0 where
  pub full : IsFull (cell_bytes old k)
  pub put : take (15 * k + 15) new ≡ take (15 * k) old ++ drop 1 (cell_bytes old k)
  pub others : (other : ℕ) → k < other → cell_bytes new other ≡ cell_bytes old other

-- some cell of a row of so many is no content cell of its place
abbrev pub HasNoPiece : ℕ → ℕ → ℕ → List ℕ → Type 0
HasNoPiece bytes place count row = (k : ℕ) × (k < count) × IsNoPiece bytes (place + k) (Some (cell_bytes row k))

-- how reading so many cells of a part may end, and why: so many bytes stand in the buffer, and the cells hold them
abbrev pub RowReadEnds : ℕ → ℕ → ℕ → ℕ → ViewState → ViewState → List ℕ → Result ℕ ContentFault → Type 0
RowReadEnds start bytes place count old new into (Ok n) =
    (new.base.faults ≡ old.base.faults) × (length (take n into) ≡ n) × (n ≡ min (15 * count) (bytes - 15 * place))
    × (IsTrue old.base.tells → IsFront new.image (start + place) count (take n into))
RowReadEnds start bytes place count old new into (Err Broken) =
    (new.base.faults ≡ old.base.faults) × (IsTrue old.base.tells → HasBroken old.image start bytes)
RowReadEnds start bytes place count old new into (Err ReadFault) = Rose old.base.faults new.base.faults
