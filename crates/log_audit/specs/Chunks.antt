-- Written cells in chunks.
use Rattle.std.specs.Prelude.{◌≡◌, ◌≤◌, ◌++◌, ℕ, List, [], ◌∷◌, length, slice_get, Some}
use Rattle.std.specs.Global.{Vec}
use Rattle.log_audit.specs.declared.chunked.TheConstants.{CHUNK_ROWS}
use Rattle.log_audit.specs.declared.written.WrittenCell.{WrittenCell}

-- those of the full chunks, and then those of the last one
abbrev pub rows_over : List (Vec WrittenCell) → List WrittenCell → List WrittenCell
rows_over [] last = last
rows_over (chunk ∷ full) last = chunk.items ++ rows_over full last

-- each chunk but the last is full, and the last holds no more
pub record AreChunks (full : List (Vec WrittenCell)) (last : List WrittenCell) : Type 0 where
  pub each : (k : ℕ) (chunk : Vec WrittenCell) → slice_get full k ≡ Some chunk → length chunk.items ≡ CHUNK_ROWS
  pub most : length last ≤ CHUNK_ROWS
