-- What a view is for contracts, and what its calls do: it shows an image, and stands over a device below.
use Rattle.std.specs.Prelude.{◌≡◌, ◌<◌, ◌≤◌, ◌+◌, ◌^◌, ℕ, List, [], ◌∷◌, Option, Some, None, Result, IsTrue, MatchResult, ⊤}
use Rattle.cell_types.specs.Bytes.{IsCell}
use Rattle.cell_types.specs.Image.{Image, Extends, IsUnchanged}
use Rattle.worm_device.specs.Counts.{IsStill}
use Rattle.worm_device.specs.State.{DeviceState}
use Rattle.worm_device.specs.Calls.{Called, HasCause}
use Rattle.worm_device.specs.declared.device.Failed.{Failed}
use Rattle.worm_device.specs.declared.owner.Owner.{Owner}

-- The state of a view.
pub record ViewState : Type 0 where
  -- how many cells it has
  pub cells : ℕ
  -- what it shows, where the device below tells its image
  pub image : Image
  -- what of this is its own, whatever stands below: cells that are planned
  pub planned : Image
  -- whom each planned cell is for
  pub owners : ℕ → Option Owner
  -- what stands below what is planned: evidence speaks of it
  pub lower : Image
  -- from this cell on nothing below is asked: what is not planned reads as blank
  pub fresh : ℕ
  -- the device at the bottom, whose counts causes speak of
  pub base : DeviceState
  -- The names of the loans that it holds. They stay, so that whoever lent knows what comes back.
  pub loans : List ℕ

-- nothing is planned
abbrev pub no_cells : Image
no_cells = λ cell. None

-- a device as a view of it shows it, by a loan of this name: nothing is planned
abbrev pub seen_directly : DeviceState → ℕ → ViewState
seen_directly device loan = record {
  cells = device.cells;
  image = device.image;
  planned = no_cells;
  owners = λ cell. None;
  lower = device.image;
  fresh = device.cells;
  base = device;
  loans = loan ∷ [];
}

-- What holds of every view: its cells have numbers of 32 bits, and what it shows are written cells of its own number.
-- A planned cell is shown and is for somebody, and no other cell is; of the others those before `fresh` are shown as they stand below, and those from there on
-- are blank.
pub record IsView (s : ViewState) : Type 0 where
  pub cells : s.cells < 2 ^ 32
  pub inside : (cell : ℕ) (value : List ℕ) → s.image cell ≡ Some value → (cell < s.cells) × IsCell value
  pub planned : Extends s.planned s.image
  pub unowned : (cell : ℕ) → s.planned cell ≡ None → s.owners cell ≡ None
  pub unplanned : (cell : ℕ) → s.owners cell ≡ None → s.planned cell ≡ None
  pub below : (cell : ℕ) → s.planned cell ≡ None → cell < s.fresh → s.image cell ≡ s.lower cell
  pub beyond : (cell : ℕ) → s.planned cell ≡ None → s.fresh ≤ cell → s.image cell ≡ None

-- Where nobody else wrote between old and new, what is shown and what stands below is the same.
pub record Rests (old new : ViewState) : Type 0 where
  pub later : old.base.foreign_writes ≤ new.base.foreign_writes
  pub shown : IsStill old.base.foreign_writes new.base.foreign_writes → IsUnchanged old.image new.image
  pub lower : IsStill old.base.foreign_writes new.base.foreign_writes → IsUnchanged old.lower new.lower
  pub below : IsStill old.base.foreign_writes new.base.foreign_writes → IsUnchanged old.base.image new.base.image

-- The same by a name that proofs don't look into, so that one call goes after another with no lemma.
unfoldable pub HasRested : ViewState → ViewState → Type 0
HasRested old new = Rests old new

-- What every call keeps, and so every row of calls: what is planned, for whom and over which cells stays, and what is
-- shown goes on. quiet says Rests of old and new, from each earlier state on.
pub record Viewed (old new : ViewState) : Type 0 where
  pub called : Called old.base new.base
  pub cells : new.cells ≡ old.cells
  pub image : Extends old.image new.image
  pub planned : new.planned ≡ old.planned
  pub owners : new.owners ≡ old.owners
  pub lower : Extends old.lower new.lower
  pub fresh : new.fresh ≡ old.fresh
  pub loans : new.loans ≡ old.loans
  pub quiet : (earlier : ViewState) → HasRested earlier old → HasRested earlier new

-- A read answers what is shown at its exit, and costs the device below one read at most. It fails only where the
-- device counted a fault, and counts none where it answers.
pub record ViewReads (at : ℕ) (old new : ViewState) (result : Result (Option (List ℕ)) Failed) : Type 0 where
  pub viewed : Viewed old new
  pub answer : IsTrue old.base.tells → MatchResult result (λ found. found ≡ new.image at) (λ _. ⊤)
  pub cause : HasCause old.base new.base result
  pub count : new.base.reads ≤ old.base.reads + 1
