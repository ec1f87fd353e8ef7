-- What taking a body from a source does: a piece at a time, and as a whole.
use Rattle.std.specs.Prelude.{◌≡◌, ◌<◌, ◌≤◌, ◌+◌, ◌++◌, ℕ, List, length, Result, Ok, Err}
use Rattle.cell_types.specs.Bytes.{AreBytes}
use Rattle.cell_types.specs.declared.refusal.Refusal.{Refusal}
use Rattle.cell_types.specs.declared.refusal.Refusal.TheVariants as refusals
use Rattle.host_ports.specs.Sources.{SourceState, Gives, IsAtEnd}
use Rattle.worm_device.specs.Counts.{Rose}
use Rattle.volume_commands.specs.declared.body.BodyFault.{BodyFault}
use Rattle.volume_commands.specs.declared.body.BodyFault.TheVariants.{TooLong, SourceFailed, NoMemory}

-- the refusal that says what kept a body from being taken
abbrev pub refusal_of_body_fault : BodyFault → Refusal
refusal_of_body_fault TooLong = refusals.TooLong
refusal_of_body_fault SourceFailed = refusals.SourceFault
refusal_of_body_fault (NoMemory lack) = refusals.NoMemory

-- The next n bytes were taken and stand behind the body so far. None, where there was room, is the end.
pub record TakesPiece (room : ℕ) (body body' : List ℕ) (old new : SourceState) (n : ℕ) : Type 0 where
  pub piece : List ℕ
  pub count : length piece ≡ n
  pub most : n ≤ room
  pub fits : AreBytes piece
  pub whole : body' ≡ body ++ piece
  pub gives : Gives old.left new.left piece
  pub end : n ≡ 0 → 0 < room → IsAtEnd new.left
  pub faults : new.faults ≡ old.faults

-- No memory was to be had for the bytes that were taken.
pub record LosesPiece (room : ℕ) (old new : SourceState) : Type 0 where
  pub piece : List ℕ
  pub most : length piece ≤ room
  pub gives : Gives old.left new.left piece

-- how taking a piece may end
abbrev pub TakePieceEnds : ℕ → List ℕ → List ℕ → SourceState → SourceState → Result ℕ BodyFault → Type 0
TakePieceEnds room body body' old new (Ok n) = TakesPiece room body body' old new n
TakePieceEnds room body body' old new (Err SourceFailed) = (new.left ≡ old.left) × Rose old.faults new.faults
TakePieceEnds room body body' old new (Err (NoMemory lack)) = LosesPiece room old new
TakePieceEnds room body body' old new (Err TooLong) = ⊥

-- at most so many bytes
pub record AreBytesUpTo (limit : ℕ) (body : List ℕ) : Type 0 where
  pub bytes : AreBytes body
  pub most : length body ≤ limit

-- What the source has given where a body of at most so many bytes was not taken, and why: at most one byte more.
abbrev pub BodyFails : ℕ → List ℕ → SourceState → SourceState → BodyFault → Type 0
BodyFails limit given old new TooLong = length given ≡ limit + 1
BodyFails limit given old new SourceFailed = AreBytesUpTo limit given × Rose old.faults new.faults
BodyFails limit given old new (NoMemory lack) = length given ≤ limit + 1
