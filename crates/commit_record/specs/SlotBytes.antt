-- What the bytes of a slot's cells say, of which a row has sixteen a cell.
use Rattle.std.specs.Prelude.{◌≡◌, ◌<◌, ◌≤◌, ◌+◌, ◌/◌, ◌^◌, ℕ, List, [], ◌∷◌, ◌++◌, length, take, drop, replicate, slice_get, slice_index, Option, Some, None, IsTrue}
use Rattle.byteorder.specs.Endian.{big_bytes}
use Rattle.cell_types.specs.Layout.{Layout, reserve_at, outcome_at, done_at, spare_at, pool_at}
use Rattle.cell_types.specs.Records.{IsRecordCell}
use Rattle.cell_types.specs.declared.record_cell.RecordCell.TheVariants as records
use Rattle.worm_device.specs.ReadBytes.{AreReadBetween, cell_bytes}
use Rattle.worm_device.specs.Views.{IsView, Viewed, ViewState}
use Rattle.commit_record.specs.States.{AreOfPool, FitsInto}

-- these are the bytes of a cell that holds this: zeros where it is blank, and what stands in it where it is written
abbrev pub IsHeldIn : Option (List ℕ) → List ℕ → Type 0
IsHeldIn None bytes = bytes ≡ replicate 16 0
IsHeldIn (Some cell) bytes = (cell ≡ bytes) × (bytes ≡ replicate 16 0 → ⊥)

-- a row holds what these bytes are of, cell by cell
pub record IsRowOf (bytes : List ℕ) (row : List (Option (List ℕ))) : Type 0 where
  pub inside : length row ≤ length bytes / 16
  pub each : (place : ℕ) (held : Option (List ℕ)) → slice_get row place ≡ Some held
      → IsHeldIn held (cell_bytes bytes place)

-- so do the first four cells, which are those of a slot
pub record IsSlotRowOf (bytes : List ℕ) (row : List (Option (List ℕ))) : Type 0 where
  pub four : length row ≡ 4
  pub cells : IsRowOf bytes row

-- The first four cells are those of slot n, which is done and has this stamp: its cells lie in the pool, and its
-- document and journal fit into them.
pub record IsDoneByBytes (g : Layout) (n : ℕ) (bytes : List ℕ) (seconds : ℕ) : Type 0 where
  pub start : ℕ
  pub length : ℕ
  pub size : ℕ
  pub journal : ℕ
  pub reserve : IsRecordCell (records.Reserve start length) (reserve_at n) (cell_bytes bytes 0)
  pub outcome : IsRecordCell (records.Commit size journal) (outcome_at n) (cell_bytes bytes 1)
  pub done : IsRecordCell (records.Done n) (done_at n) (cell_bytes bytes 2)
  pub stamp : IsRecordCell (records.Stamp seconds) (spare_at n) (cell_bytes bytes 3)
  pub pool : AreOfPool g start length
  pub fits : FitsInto length size journal

-- The bytes have what does not change from one slot that is done to another but for its number: the kinds, the numbers
-- of the cells, that of the slot, and the zeros behind them.
pub record IsFramedAsDone (n : ℕ) (bytes : List ℕ) : Type 0 where
  pub kind : slice_index bytes 0 ≡ 2
  pub reserve : take 8 (drop 9 bytes) ≡ replicate 3 0 ++ big_bytes 4 (reserve_at n) ++ (3 ∷ [])
  pub outcome : take 8 (drop 25 bytes) ≡ replicate 3 0 ++ big_bytes 4 (outcome_at n) ++ (5 ∷ [])
  pub slot : take 8 (drop 33 bytes) ≡ big_bytes 4 n ++ replicate 4 0
  pub done : take 8 (drop 41 bytes) ≡ replicate 3 0 ++ big_bytes 4 (done_at n) ++ (10 ∷ [])
  pub spare : take 8 (drop 56 bytes) ≡ replicate 4 0 ++ big_bytes 4 (spare_at n)

-- the four bytes from this place on are this number's
pub record HoldsNumber (bytes : List ℕ) (at number : ℕ) : Type 0 where
  pub small : number < 2 ^ 32
  pub is : take 4 (drop at bytes) ≡ big_bytes 4 number

-- the bytes of the reserve cell name so many cells of the pool
pub record NamesCells (g : Layout) (bytes : List ℕ) (length : ℕ) : Type 0 where
  pub start : ℕ
  pub first : HoldsNumber bytes 1 start
  pub count : HoldsNumber bytes 5 length
  pub from : pool_at g ≤ start
  pub to : start + length ≤ g.cells

-- the bytes of the outcome cell name a document and a journal that fit into so many cells
pub record NamesDocument (bytes : List ℕ) (length : ℕ) : Type 0 where
  pub size : ℕ
  pub journal : ℕ
  pub first : HoldsNumber bytes 17 size
  pub count : HoldsNumber bytes 21 journal
  pub fits : FitsInto length size journal

-- the bytes of the spare cell name these seconds
pub record NamesStamp (bytes : List ℕ) (seconds : ℕ) : Type 0 where
  pub first : HoldsNumber bytes 49 seconds
  pub zeros : HoldsNumber bytes 53 0

-- the bytes of the cells of slot n and those behind it, as many as there are, were read between two states of a view
pub record ReadsSlotBytes (n : ℕ) (bytes : List ℕ) (old new : ViewState) : Type 0 where
  pub viewed : Viewed old new
  pub view : IsView new
  pub faults : new.base.faults ≡ old.base.faults
  pub read : IsTrue old.base.tells
      → AreReadBetween (length bytes / 16) (reserve_at n) bytes old.image new.image
