-- What a command has changed itself, and how far it had come by then: each such change takes a step of its own.
use Rattle.std.specs.Prelude.{◌≡◌, ◌<◌, ◌≤◌, ◌+◌, ◌-◌, ◌^◌, ◌⊎◌, ℕ, Bool, List, [], ◌∷◌, drop, length, take, Some, false, true, Contains}
use Rattle.std.specs.List.{list_all, list_any}
use Rattle.worm_device.specs.Counts.{Rose}
use Rattle.worm_memory.specs.Memory.{KeepsPlan, Memory, change_steps}
use Rattle.worm_memory.specs.Moments.{is_others_write, made_before}
use Rattle.worm_memory.specs.Plans.{calls_for, last_changes, last_foreign_writes}
use Rattle.worm_memory.specs.Worlds.{foreign_writes_in, world}
use Rattle.worm_memory.specs.declared.change.Change.{Change}
use Rattle.worm_memory.specs.declared.change.Change.TheVariants.{Wrote, Foreign, Synced, Lost, Crashed}
use Rattle.worm_memory.specs.declared.mark.CallNumbers.{CallNumbers}
use Rattle.worm_memory.specs.declared.moment.Moment.{Moment}
use Rattle.worm_memory.specs.declared.moment.Moment.TheVariants.{Step, Call}
use Rattle.worm_memory.specs.declared.moment.Timed.{Timed}

-- how many of these changes a command made itself: writes, and syncs that made something sure
abbrev pub own_changes_in : List Change → ℕ
own_changes_in [] = 0
own_changes_in (Wrote at value ∷ changes) = own_changes_in changes + 1
own_changes_in (Foreign at value ∷ changes) = own_changes_in changes
own_changes_in (Synced ∷ changes) = own_changes_in changes + 1
own_changes_in (Lost at ∷ changes) = own_changes_in changes
own_changes_in (Crashed ∷ changes) = own_changes_in changes

-- the change is one that a call makes: the others are those of a crash
abbrev pub is_of_call : Change → Bool
is_of_call (Wrote at value) = true
is_of_call (Foreign at value) = true
is_of_call Synced = true
is_of_call (Lost at) = false
is_of_call Crashed = false

-- the changes since the present command began
abbrev pub changes_since : Memory → List Change
changes_since m = drop (last_changes m.marks) m.changes

-- and of each of them which call made it
abbrev pub made_since : Memory → List CallNumbers
made_since m = drop (last_changes m.marks) m.made_in

-- the number is below that of the moment
abbrev pub IsBelowMoment : ℕ → Moment → Type 0
IsBelowMoment n (Step number) = n < number
IsBelowMoment n (Call number) = n < number

-- the moment has a number of a step or of a call: from 1, and of 64 bits
abbrev pub IsNumbered : Moment → Type 0
IsNumbered (Step number) = (1 ≤ number) × (number < 2 ^ 64)
IsNumbered (Call number) = (1 ≤ number) × (number < 2 ^ 64)

-- All that has changed since the present command began was changed by its calls. Each change that it made itself came in a
-- step of its own: there are no more of them than steps, and before a moment fewer than its number.
pub record TakesSteps (m : Memory) : Type 0 where
  pub calls : list_all is_of_call (changes_since m) ≡ true
  pub ordered : m.steps ≤ m.calls
  pub most : m.steps < 2 ^ 64 - 1 → own_changes_in (changes_since m) ≤ m.steps
  pub before : (moment : Moment) → IsNumbered moment
      → IsBelowMoment (own_changes_in (made_before moment (changes_since m) (made_since m))) moment

-- a command that goes by its plan changes something itself at most once in a step
abbrev pub OwnChangesTakeSteps : Type 0
OwnChangesTakeSteps = (m : Memory) → KeepsPlan m → TakesSteps m

-- From this place of the record on each change came in a step past so many, or before one that is.
pub record ComePast (steps place : ℕ) (m : Memory) : Type 0 where
  pub counted : steps ≤ m.steps
  pub each : (i : ℕ) → place ≤ i → i < length m.changes → Rose steps (change_steps m.changes m.made_in i)

-- The cell was written early in the present command, and by nobody else since it began: after so many changes since then,
-- of which fewer are the command's own than this moment's number. So it is from any place on, counted with the steps that
-- the changes from there on came past, where one is the command's own.
pub record IsWrittenEarly (m : Memory) (at : ℕ) (moment : Moment) : Type 0 where
  pub alone : list_any (is_others_write at) (changes_since m) ≡ false
  pub early : ℕ
  pub within : last_changes m.marks + early ≤ length m.changes
  pub few : IsBelowMoment (own_changes_in (take early (changes_since m))) moment
  pub later : (place count steps : ℕ) → last_changes m.marks ≤ place → place + count ≡ last_changes m.marks + early
      → ComePast steps place m → 1 ≤ own_changes_in (take count (drop place m.changes))
      → IsBelowMoment (steps + own_changes_in (take count (drop place m.changes))) moment
  pub found : List ℕ
  pub stands : (world (take (last_changes m.marks + early) m.changes)).image at ≡ Some found

-- Somebody else was to write this cell before a moment, and it is written now: then what stands there is what somebody
-- else was to write there, or it was written early.
abbrev pub PlannedWritesComeFirst : Type 0
PlannedWritesComeFirst =
    (m : Memory) (timed : Timed) (value : List ℕ) → KeepsPlan m → Contains m.plan.foreign timed
    → IsNumbered timed.before → (world m.changes).image timed.at ≡ Some value
    → (list_any (calls_for m.steps m.calls timed.at value) m.plan.foreign ≡ true)
    ⊎ IsWrittenEarly m timed.at timed.before

-- a command since whose beginning nobody else has written counts nobody else
abbrev pub NoneIsUncounted : Type 0
NoneIsUncounted =
    (m : Memory) → KeepsPlan m → foreign_writes_in (changes_since m) ≡ 0
    → m.foreign_writes ≡ last_foreign_writes m.marks
