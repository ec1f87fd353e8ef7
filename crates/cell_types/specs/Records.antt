-- Cells that hold a record: the kind in one byte, a body of eleven, and the cell's own number in
-- four. All numbers are big-endian.
use Rattle.std.specs.Prelude.{◌≡◌, ◌<◌, ◌≤◌, ◌%◌, ◌^◌, ℕ, List, ◌∷◌, ◌++◌, length, replicate, ⊤}
use Rattle.byteorder.specs.Endian.{big_bytes}
use Rattle.cell_types.specs.Bytes.{AreBytes}
use Rattle.cell_types.specs.Contents.{IsContentCell}
use Rattle.cell_types.specs.Layout.{IsLayout}
use Rattle.cell_types.specs.declared.geometry.TheConstants.{MAX_SLOTS}
use Rattle.cell_types.specs.declared.record_cell.TheConstants.{MIN_STORED_BYTES, MAX_STORED_BYTES}
use Rattle.cell_types.specs.declared.record_cell.RecordCell.{RecordCell}
use Rattle.cell_types.specs.declared.record_cell.RecordCell.TheVariants.{Volume, Reserve, Commit, Abandon, Done, Posting, Jump, Bucket, Child, Stamp}

-- kind and body
abbrev pub body_bytes : RecordCell → List ℕ
body_bytes (Volume version slots lists cells) =
    (1 ∷ version ∷ big_bytes 4 slots) ++ big_bytes 2 lists ++ big_bytes 4 cells
body_bytes (Reserve start length) = (2 ∷ big_bytes 4 start) ++ big_bytes 4 length ++ replicate 3 0
body_bytes (Commit bytes journal) = (3 ∷ big_bytes 4 bytes) ++ big_bytes 4 journal ++ replicate 3 0
body_bytes Abandon = 4 ∷ replicate 11 0
body_bytes (Done slot) = (5 ∷ big_bytes 4 slot) ++ replicate 7 0
body_bytes (Posting key last tag) = (6 ∷ big_bytes 4 key) ++ (last ∷ tag)
body_bytes (Jump target) = (7 ∷ big_bytes 4 target) ++ replicate 7 0
body_bytes (Bucket slot fingerprint) = (8 ∷ big_bytes 4 slot) ++ fingerprint
body_bytes (Child target) = (9 ∷ big_bytes 4 target) ++ replicate 7 0
body_bytes (Stamp seconds) = (10 ∷ big_bytes 4 seconds) ++ replicate 7 0

-- the record's cell at this address
abbrev pub record_bytes : RecordCell → ℕ → List ℕ
record_bytes r address = body_bytes r ++ big_bytes 4 address

-- so many bytes
pub record IsBytes (n : ℕ) (bytes : List ℕ) : Type 0 where
  pub count : length bytes ≡ n
  pub fits : AreBytes bytes

-- each field has a value of its type
abbrev pub Fits : RecordCell → Type 0
Fits (Volume version slots lists cells) = (version < 2 ^ 8) × (slots < 2 ^ 32) × (lists < 2 ^ 16) × (cells < 2 ^ 32)
Fits (Reserve start length) = (start < 2 ^ 32) × (length < 2 ^ 32)
Fits (Commit bytes journal) = (bytes < 2 ^ 32) × (journal < 2 ^ 32)
Fits Abandon = ⊤
Fits (Done slot) = slot < 2 ^ 32
Fits (Posting key last tag) = (key < 2 ^ 32) × (last < 2 ^ 8) × IsBytes 6 tag
Fits (Jump target) = target < 2 ^ 32
Fits (Bucket slot fingerprint) = (slot < 2 ^ 32) × IsBytes 7 fingerprint
Fits (Child target) = target < 2 ^ 32
Fits (Stamp seconds) = seconds < 2 ^ 32

-- A record may stand in the cell of this number. A commit cell counts at least one journal cell: that of the document's
-- bucket.
abbrev pub IsWellFormed : RecordCell → ℕ → Type 0
IsWellFormed (Volume version slots lists cells) address =
    IsLayout (record { slots = slots; lists = lists; cells = cells; version = version }) × (address ≡ 0)
IsWellFormed (Reserve start length) address = 1 ≤ length
IsWellFormed (Commit bytes journal) address =
    (MIN_STORED_BYTES ≤ bytes) × (bytes ≤ MAX_STORED_BYTES) × (1 ≤ journal)
IsWellFormed Abandon address = ⊤
IsWellFormed (Done slot) address = slot < MAX_SLOTS
IsWellFormed (Posting key last tag) address = key % 256 ≤ last
IsWellFormed (Jump target) address = ⊤
IsWellFormed (Bucket slot fingerprint) address = slot < MAX_SLOTS
IsWellFormed (Child target) address = ⊤
IsWellFormed (Stamp seconds) address = ⊤

-- the cell is the one of this record, well-formed at this address
pub record IsRecordCell (r : RecordCell) (address : ℕ) (cell : List ℕ) : Type 0 where
  pub fits : Fits r
  pub well_formed : IsWellFormed r address
  pub same : cell ≡ record_bytes r address

-- a cell is that of one record, at one address
abbrev pub RecordsAreOne : Type 0
RecordsAreOne =
    (r s : RecordCell) (a b : ℕ) (cell : List ℕ) → a < 2 ^ 32 → b < 2 ^ 32
    → IsRecordCell r a cell → IsRecordCell s b cell → (r ≡ s) × (a ≡ b)

-- no record's cell is a content cell
abbrev pub NoRecordIsContent : Type 0
NoRecordIsContent =
    (r : RecordCell) (address : ℕ) (bytes cell : List ℕ) → IsRecordCell r address cell → IsContentCell bytes cell → ⊥
