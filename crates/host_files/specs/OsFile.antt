-- What a file of the operating system is for contracts, and what each of its calls asks of the host.
use Rattle.std.specs.Prelude.{◌≡◌, ◌≢◌, ◌⊎◌, ◌++◌, ℕ, Bool, true, false, List, [], ◌∷◌, Option, Some, Result, MatchResult}
use Rattle.host_files.specs.File.{FileState}
use Rattle.host_files.specs.HostCalls.{HostCall, ToHold, ToCount, ToRead, ToWrite, ToSync, Made}
use Rattle.host_files.specs.Proper.{untold}
use Rattle.host_files.specs.declared.os_file.Access.{Access}
use Rattle.host_files.specs.declared.os_file.Access.TheVariants.{Free, Held, Lost}
use Rattle.host_files.specs.declared.os_file.OsFile.{OsFile}

-- it tells nothing but its size and its faults
abbrev pub os_file_state : {F : Type 0} → OsFile F → FileState
os_file_state file = untold file.size file.faults

-- The calls of the host after which a call makes its own: none while the lock is held, and before that those that take
-- it and find the size again. After a sync that failed there are none.
abbrev pub OpensBy : Access → ℕ → List HostCall → Type 0
OpensBy Free size calls = calls ≡ ToHold true ∷ ToCount (Some size) ∷ []
OpensBy Held size calls = calls ≡ []
OpensBy Lost size calls = ⊥

-- The calls of the host after which a call fails and makes none of its own: where the lock was not taken, or the size
-- is another; and none after a sync that failed.
abbrev pub StopsBy : Access → ℕ → List HostCall → Type 0
StopsBy Free size calls =
    (calls ≡ ToHold false ∷ [])
    ⊎ ((found : Option ℕ) × (found ≢ Some size) × (calls ≡ ToHold true ∷ ToCount found ∷ []))
StopsBy Held size calls = ⊥
StopsBy Lost size calls = calls ≡ []

-- Of the host just these calls were made, behind those that open the way to them.
pub record GoesOn {F : Type 0} (Led : F → HostCall → F → Type 0) (own : List HostCall) (after : Access)
    (old new : OsFile F) : Type 0 where
  pub before : List HostCall
  pub opens : OpensBy old.access old.size before
  pub made : Made Led old.file (before ++ own) new.file
  pub access : new.access ≡ after

-- Of the host no call was made but those that kept a call from going on.
pub record Stops {F : Type 0} (Led : F → HostCall → F → Type 0) (old new : OsFile F) : Type 0 where
  pub calls : List HostCall
  pub stops : StopsBy old.access old.size calls
  pub made : Made Led old.file calls new.file
  pub access : new.access ≡ old.access

-- The lock is held, and the size was found again; or it was not to be had.
abbrev pub Begins : {F E : Type 0} → (F → HostCall → F → Type 0) → OsFile F → OsFile F → Result Unit E → Type 0
Begins Led old new result = MatchResult result (λ _. GoesOn Led [] Held old new) (λ _. Stops Led old new)

-- A call that answers has made this call of the host, which has answered, and none behind it. One that fails was
-- stopped, or that call of the host has failed.
abbrev pub Asks
    : {F E : Type 0} → (F → HostCall → F → Type 0) → (Bool → HostCall) → Access → OsFile F → OsFile F
    → Result Unit E → Type 0
Asks Led own failed old new result =
    MatchResult result (λ _. GoesOn Led (own true ∷ []) Held old new)
    (λ _. Stops Led old new ⊎ GoesOn Led (own false ∷ []) failed old new)

-- those of a read, which filled this slice from this offset on
abbrev pub AsksToRead
    : {F E : Type 0} → (F → HostCall → F → Type 0) → ℕ → List ℕ → OsFile F → OsFile F → Result Unit E → Type 0
AsksToRead Led from into old new result = Asks Led (ToRead from into) Held old new result

-- those of a write of all these bytes from this offset on
abbrev pub AsksToWrite
    : {F E : Type 0} → (F → HostCall → F → Type 0) → ℕ → List ℕ → OsFile F → OsFile F → Result Unit E → Type 0
AsksToWrite Led from bytes old new result = Asks Led (ToWrite from bytes) Held old new result

-- those of a sync, behind which, if it failed, no call is made
abbrev pub AsksToSync : {F E : Type 0} → (F → HostCall → F → Type 0) → OsFile F → OsFile F → Result Unit E → Type 0
AsksToSync Led old new result = Asks Led ToSync Lost old new result

-- this file of the host, of so many bytes, of which no call was made since
pub record IsUntouched {F : Type 0} (host : F) (size : ℕ) (file : OsFile F) : Type 0 where
  pub same : file.file ≡ host
  pub bytes : file.size ≡ size
  pub access : file.access ≡ Free

-- the bytes of this file of the host were counted, and no call of it was made since
abbrev pub IsCounted : {F : Type 0} → (F → HostCall → F → Type 0) → F → OsFile F → Type 0
IsCounted Led host file = Led host (ToCount (Some file.size)) file.file × (file.access ≡ Free)
