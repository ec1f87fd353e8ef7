-- The states of a slot, by its reserve, outcome and done cell, and on a volume of stamped documents by its spare cell,
-- which has the stamp.
--
-- A state is said of two images, one of which extends the other: what it needs written stands in the later one,
-- and what it needs blank was blank in the earlier one. So a call that reads three cells while somebody else
-- writes can say what it saw. A state in one image is that state where both are this image.
use Rattle.std.specs.Prelude.{◌≡◌, ◌<◌, ◌≤◌, ◌+◌, ◌/◌, ◌⊎◌, ℕ, Option, Some, None}
use Rattle.cell_types.specs.Image.{Image}
use Rattle.cell_types.specs.Layout.{Layout, TakesNoStamps, TakesStamps, reserve_at, outcome_at, done_at, spare_at, pool_at}
use Rattle.cell_types.specs.declared.record_cell.RecordCell.TheVariants.{Reserve, Commit, Abandon, Done, Stamp}
use Rattle.volume_meaning.specs.Volumes.{Holds, IsWritten}

-- how many content cells so many stored bytes take: 15 bytes in each, rounded up
abbrev pub cells_for : ℕ → ℕ
cells_for bytes = (bytes + 14) / 15

-- slot n reserves these cells, which lie in the pool
pub record Reserves (g : Layout) (image : Image) (n start length : ℕ) : Type 0 where
  pub slot : n < g.slots
  pub reserve : Holds image (reserve_at n) (Reserve start length)
  pub from : pool_at g ≤ start
  pub to : start + length ≤ g.cells

-- slot n reserves cells, and is given up
pub record Abandons (g : Layout) (image : Image) (n start length : ℕ) : Type 0 where
  pub reserves : Reserves g image n start length
  pub outcome : Holds image (outcome_at n) Abandon

-- slot n has this stamp
abbrev pub HasStamp : Image → ℕ → ℕ → Type 0
HasStamp image n seconds = Holds image (spare_at n) (Stamp seconds)

-- the stamp of slot n: on a volume of stamped documents that of its spare cell, and none on another
abbrev pub IsStampOf : Layout → Image → ℕ → Option ℕ → Type 0
IsStampOf g image n None = TakesNoStamps g
IsStampOf g image n (Some seconds) = TakesStamps g × HasStamp image n seconds

-- a stamp is given exactly on a volume of stamped documents
abbrev pub IsStampFor : Layout → Option ℕ → Type 0
IsStampFor g None = TakesNoStamps g
IsStampFor g (Some seconds) = TakesStamps g

-- slot n has a stamp
pub record IsStamped (image : Image) (n : ℕ) : Type 0 where
  pub seconds : ℕ
  pub stamp : HasStamp image n seconds

-- slot n states a document of so many stored bytes and a journal of so many cells, which fit into its cells; on a
-- volume of stamped documents it has a stamp
pub record Commits (g : Layout) (image : Image) (n start length bytes journal : ℕ) : Type 0 where
  pub reserves : Reserves g image n start length
  pub outcome : Holds image (outcome_at n) (Commit bytes journal)
  pub fits : cells_for bytes + journal ≤ length
  pub stamped : TakesStamps g → IsStamped image n

-- nothing has come of slot n
pub record IsUnused (g : Layout) (before : Image) (n : ℕ) : Type 0 where
  pub slot : n < g.slots
  pub reserve : before (reserve_at n) ≡ None
  pub outcome : before (outcome_at n) ≡ None
  pub done : before (done_at n) ≡ None

-- slot n has its cells, and nothing more
pub record IsReserved (g : Layout) (before after : Image) (n start length : ℕ) : Type 0 where
  pub reserves : Reserves g after n start length
  pub outcome : before (outcome_at n) ≡ None
  pub done : before (done_at n) ≡ None

-- slot n was given up
pub record IsAbandoned (g : Layout) (before after : Image) (n start length : ℕ) : Type 0 where
  pub abandons : Abandons g after n start length
  pub done : before (done_at n) ≡ None

-- slot n states its document, and has no done cell
pub record IsCommitted (g : Layout) (before after : Image) (n start length bytes journal : ℕ) : Type 0 where
  pub commits : Commits g after n start length bytes journal
  pub done : before (done_at n) ≡ None

-- slot n states its document, and has its done cell
pub record IsDone (g : Layout) (image : Image) (n start length bytes journal : ℕ) : Type 0 where
  pub commits : Commits g image n start length bytes journal
  pub done : Holds image (done_at n) (Done n)

-- slot n is committed or done
pub record Stores (g : Layout) (image : Image) (n start length bytes journal : ℕ) : Type 0 where
  pub commits : Commits g image n start length bytes journal
  pub done : (image (done_at n) ≡ None) ⊎ Holds image (done_at n) (Done n)

-- slot n is done
pub record IsDoneSlot (g : Layout) (image : Image) (n : ℕ) : Type 0 where
  pub start : ℕ
  pub length : ℕ
  pub bytes : ℕ
  pub journal : ℕ
  pub done : IsDone g image n start length bytes journal

-- slot n is abandoned
pub record IsAbandonedSlot (g : Layout) (before after : Image) (n : ℕ) : Type 0 where
  pub start : ℕ
  pub length : ℕ
  pub abandoned : IsAbandoned g before after n start length

-- slot n is abandoned or done
abbrev pub HasEnded : Layout → Image → Image → ℕ → Type 0
HasEnded g before after n = IsAbandonedSlot g before after n ⊎ IsDoneSlot g after n

-- each slot below n has a written reserve cell
abbrev pub AreTaken : Image → ℕ → Type 0
AreTaken image n = (m : ℕ) → m < n → IsWritten image (reserve_at m)

-- u is a horizon: the slot below it is taken, and its own is free or not there
pub record IsHorizon (g : Layout) (before after : Image) (u : ℕ) : Type 0 where
  pub most : u ≤ g.slots
  pub below : (m : ℕ) → u ≡ m + 1 → IsWritten after (reserve_at m)
  pub free : u < g.slots → before (reserve_at u) ≡ None

-- the reservations of the slots below n end here: at the end of the last one's, or at the pool's start
abbrev pub EndsBelow : Layout → Image → ℕ → ℕ → Type 0
EndsBelow g image n at =
    ((n ≡ 0) × (at ≡ pool_at g))
    ⊎ ((m : ℕ) × (start : ℕ) × (length : ℕ) × (n ≡ m + 1) × Reserves g image m start length × (at ≡ start + length))

-- an edge: the reservations of the slots below a horizon end here
pub record IsEdge (g : Layout) (before after : Image) (at : ℕ) : Type 0 where
  pub u : ℕ
  pub most : u ≤ g.slots
  pub free : u < g.slots → before (reserve_at u) ≡ None
  pub ends : EndsBelow g after u at

-- slot n is live: it is done, and each slot below it is taken
pub record IsLive (g : Layout) (image : Image) (n : ℕ) : Type 0 where
  pub slot : n < g.slots
  pub done : IsDoneSlot g image n
  pub taken : AreTaken image n
