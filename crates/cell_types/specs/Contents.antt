-- Cells that hold bytes of a document: one byte that counts from 1 to 15, so many bytes, and zeros.
use Rattle.std.specs.Prelude.{◌≡◌, ◌≤◌, ◌+◌, ◌-◌, ℕ, List, ◌∷◌, ◌++◌, length, replicate}
use Rattle.cell_types.specs.Bytes.{AreBytes}

-- the cell of these bytes
abbrev pub content_bytes : List ℕ → List ℕ
content_bytes bytes = ((16 + length bytes) ∷ bytes) ++ replicate (15 - length bytes) 0

-- the cell is the content cell of these bytes, 1 to 15 of them
pub record IsContentCell (bytes cell : List ℕ) : Type 0 where
  pub some : 1 ≤ length bytes
  pub most : length bytes ≤ 15
  pub fits : AreBytes bytes
  pub same : cell ≡ content_bytes bytes

-- a cell holds one row of bytes
abbrev pub ContentsAreOne : Type 0
ContentsAreOne = (xs ys cell : List ℕ) → IsContentCell xs cell → IsContentCell ys cell → xs ≡ ys
