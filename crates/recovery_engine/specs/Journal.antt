-- What a look at a journal tells, and which cells it asks for.
use Rattle.std.specs.Prelude.{◌≡◌, ◌<◌, ◌+◌, ◌⊎◌, ℕ, Some, None, Result, Ok, Err, IsTrue}
use Rattle.cell_types.specs.Image.{Image}
use Rattle.cell_types.specs.declared.refusal.Evidence.{Evidence}
use Rattle.cell_types.specs.declared.refusal.Fault.{Fault}
use Rattle.cell_types.specs.declared.refusal.Fault.TheVariants.{Tampered, Failed}
use Rattle.tamper_rules.specs.declared.numbers.TheConstants.{BROKEN_JOURNAL}
use Rattle.worm_device.specs.Counts.{Rose}
use Rattle.worm_device.specs.State.{DeviceState}
use Rattle.recovery_engine.specs.declared.put.Blame.TheVariants as blames
use Rattle.recovery_engine.specs.declared.put.Put.{Put}
use Rattle.recovery_engine.specs.Entries.{target_of, IsFit, IsUnfit, IsFloor, AreEntries}
use Rattle.recovery_engine.specs.declared.journal.Journal.{Journal}

-- it is what journal cell k asks for: its like at its target; where another value stands there, it is named itself
pub record IsEntryOf (image : Image) (place k : ℕ) (put : Put) : Type 0 where
  pub stands : image (place + k) ≡ Some put.value
  pub at : put.at ≡ target_of put.value
  pub blame : put.blame ≡ blames.Journal (place + k)

-- it is what one of the n cells of a journal asks for, which stands from this place on
abbrev pub IsEntryPut : Image → ℕ → ℕ → Put → Type 0
IsEntryPut image place n put = (k : ℕ) × (k < n) × IsEntryOf image place k put

-- evidence that names an unfit journal cell
pub record IsUnfitAt (at floor below : ℕ) (image : Image) (e : Evidence) : Type 0 where
  pub rule : e.rule ≡ BROKEN_JOURNAL
  pub cell : e.cell ≡ at
  pub stands : image at ≡ Some e.found
  pub unfit : IsUnfit floor below e.found

-- how a look at journal cell k may end, and why: a blank one is told by the commit cell
abbrev pub JournalEntryEnds : Journal → ℕ → ℕ → DeviceState → DeviceState → Result Put Fault → Type 0
JournalEntryEnds j k floor old new (Ok put) =
    IsFit floor j.below put.value × (put.at ≡ target_of put.value)
    × (IsTrue old.tells → IsEntryOf new.image j.place k put)
JournalEntryEnds j k floor old new (Err Failed) = Rose old.faults new.faults
JournalEntryEnds j k floor old new (Err (Tampered e)) =
    IsTrue old.tells
    → ((e ≡ j.commit) × (new.image (j.place + k) ≡ None)) ⊎ IsUnfitAt (j.place + k) floor j.below new.image e

-- a journal cell is blank or unfit, and those before it are entries
pub record IsFlawed (j : Journal) (image : Image) (e : Evidence) : Type 0 where
  pub k : ℕ
  pub floor : ℕ
  pub within : k < j.count
  pub floor_is : IsFloor j.first image j.place k floor
  pub flaw : ((e ≡ j.commit) × (image (j.place + k) ≡ None)) ⊎ IsUnfitAt (j.place + k) floor j.below image e

-- how a look at a journal may end, and why
abbrev pub JournalEnds : Journal → DeviceState → DeviceState → Result Unit Fault → Type 0
JournalEnds j old new (Ok u) = IsTrue old.tells → AreEntries j.first new.image j.place j.below j.count
JournalEnds j old new (Err Failed) = Rose old.faults new.faults
JournalEnds j old new (Err (Tampered e)) = IsTrue old.tells → IsFlawed j new.image e
