-- What a file of the host is for contracts, and what each of its calls does. Sixteen bytes that begin at a multiple
-- of 16 are a place.
use Rattle.std.specs.Prelude.{zero, suc, ◌≡◌, ◌<◌, ◌≤◌, ◌+◌, ◌*◌, ◌/◌, ◌⊎◌, ◌++◌, ℕ, List, length, take, drop, Option, Some, None, IfSome, IsTrue, is_some, replicate, Result, OnOk, MatchResult, ⊤}
use Rattle.cell_types.specs.Bytes.{AreBytes}
use Rattle.worm_device.specs.Counts.{Rose}
use Rattle.worm_device.specs.declared.device.Failed.{Failed}

-- the bytes of a file, and those that the last sync made sure
pub record HeldBytes : Type 0 where
  pub bytes : List ℕ
  pub sure : List ℕ

-- What a file tells that tells its bytes. Nobody else writes it.
pub record Told : Type 0 where
  pub now : HeldBytes
  -- the present moment: how many calls have changed the file
  pub moment : ℕ
  -- what it held at each moment before the present one
  pub past : ℕ → HeldBytes

-- The state of a file.
pub record FileState : Type 0 where
  -- how many bytes it has
  pub size : ℕ
  -- what it tells, if it tells its bytes
  pub told : Option Told
  -- how many of its calls have failed
  pub faults : ℕ
  -- how many failed writes have left neither what was there nor all that was to be written
  pub parts : ℕ
  -- where the last call found zeros, if it found nothing else
  pub blank_at : Option ℕ
  -- and how many
  pub blank_size : ℕ

-- what holds of every file: it has its size, and bytes are bytes
pub record IsFile (file : FileState) : Type 0 where
  pub size : (t : Told) → file.told ≡ Some t → length t.now.bytes ≡ file.size
  pub bytes : (t : Told) → file.told ≡ Some t → AreBytes t.now.bytes

-- the sixteen bytes at this offset
abbrev pub part_at : ℕ → List ℕ → List ℕ
part_at from bytes = take 16 (drop from bytes)

-- bytes after these sixteen were put at this offset
abbrev pub patched : ℕ → List ℕ → List ℕ → List ℕ
patched from piece bytes = take from bytes ++ (piece ++ drop 16 (drop from bytes))

-- the file holds this now, and what it held is the last moment of its past
pub record Becomes (old new : Told) (held : HeldBytes) : Type 0 where
  pub now : new.now ≡ held
  pub later : new.moment ≡ old.moment + 1
  pub last : new.past old.moment ≡ old.now
  pub past : (m : ℕ) → m < old.moment → new.past m ≡ old.past m

-- These sixteen bytes stand at the offset, and all else as before. What is sure stays as it is.
abbrev pub PutsBytes : ℕ → List ℕ → Option Told → Option Told → Type 0
PutsBytes from piece None None = ⊤
PutsBytes from piece None (Some new) = ⊥
PutsBytes from piece (Some old) None = ⊥
PutsBytes from piece (Some old) (Some new) =
    Becomes old new (record { bytes = patched from piece old.now.bytes; sure = old.now.sure })

-- all that stands is sure
abbrev pub MakesSure : Option Told → Option Told → Type 0
MakesSure None None = ⊤
MakesSure None (Some new) = ⊥
MakesSure (Some old) None = ⊥
MakesSure (Some old) (Some new) = Becomes old new (record { bytes = old.now.bytes; sure = old.now.bytes })

-- a call fails only where that is counted, and counts nothing where it answers
abbrev pub HasFileCause : {X : Type 0} → FileState → FileState → Result X Failed → Type 0
HasFileCause old new result = MatchResult result (λ _. new.faults ≡ old.faults) (λ _. Rose old.faults new.faults)

-- Who writes so many bytes has asked for them right before, and they were zeros.
abbrev pub WasReadBlank : ℕ → ℕ → FileState → Type 0
WasReadBlank from count file =
    IsTrue (is_some file.told) → (file.blank_at ≡ Some from) × (file.blank_size ≡ count)

-- the same of sixteen
abbrev pub IsAsked : ℕ → FileState → Type 0
IsAsked from file = WasReadBlank from 16 file

-- A read, whatever it read, changes nothing.
pub record AsksFile {X : Type 0} (old new : FileState) (result : Result X Failed) : Type 0 where
  pub size : new.size ≡ old.size
  pub told : new.told ≡ old.told
  pub parts : new.parts ≡ old.parts
  pub later : old.faults ≤ new.faults
  pub cause : HasFileCause old new result

-- Where a read answers, the slice holds the bytes from the offset on.
pub record ReadsAt (from : ℕ) (into : List ℕ) (old new : FileState) (result : Result Unit Failed) : Type 0 where
  pub size : new.size ≡ old.size
  pub told : new.told ≡ old.told
  pub parts : new.parts ≡ old.parts
  pub answer : OnOk result (IfSome old.told (λ t. into ≡ take (length into) (drop from t.now.bytes)))
  pub blank : OnOk result (into ≡ replicate (length into) 0 → WasReadBlank from (length into) new)
  pub later : old.faults ≤ new.faults
  pub cause : HasFileCause old new result

-- What a write that failed has left: what was there, or the piece, or any sixteen bytes, which counts as a part.
abbrev pub LeavesAtWrite : ℕ → List ℕ → FileState → FileState → Type 0
LeavesAtWrite from piece old new =
    (new.told ≡ old.told)
    ⊎ ((put : List ℕ) × (length put ≡ 16) × PutsBytes from put old.told new.told × ((put ≡ piece) ⊎ Rose old.parts
    new.parts))

-- A write that answers has put the piece.
pub record WritesAt (from : ℕ) (piece : List ℕ) (old new : FileState) (result : Result Unit Failed) : Type 0 where
  pub size : new.size ≡ old.size
  pub left : MatchResult result (λ _. PutsBytes from piece old.told new.told) (λ _. LeavesAtWrite from piece old new)
  pub parts : MatchResult result (λ _. new.parts ≡ old.parts) (λ _. old.parts ≤ new.parts)
  pub later : old.faults ≤ new.faults
  pub cause : HasFileCause old new result

-- So many places from this one on were put one after another, each by a change of its own: those of a cell and its
-- neighbours, and the bytes of place k are the sixteen from 16 * k on.
abbrev pub PutsPlaces : ℕ → ℕ → ℕ → List ℕ → Option Told → Option Told → Type 0
PutsPlaces zero place cell bytes old new = new ≡ old
PutsPlaces (suc count) place cell bytes old new =
    (mid : Option Told) × PutsBytes (16 * (cell + place)) (part_at (16 * place) bytes) old mid
    × PutsPlaces count (place + 1) cell bytes mid new

-- What a write of places that failed has left, place by place: what was there, or the bytes, or any sixteen, which
-- counts as a part.
abbrev pub LeavesPlaces : ℕ → ℕ → ℕ → List ℕ → Type 0 → Option Told → Option Told → Type 0
LeavesPlaces zero place cell bytes Torn old new = new ≡ old
LeavesPlaces (suc count) place cell bytes Torn old new =
    (mid : Option Told)
    × ((mid ≡ old)
    ⊎ ((put : List ℕ) × (length put ≡ 16) × PutsBytes (16 * (cell + place)) put old mid
    × ((put ≡ part_at (16 * place) bytes) ⊎ Torn)))
    × LeavesPlaces count (place + 1) cell bytes Torn mid new

-- A write of places that answers has put each of them.
pub record WritesPlaces (from : ℕ) (bytes : List ℕ) (old new : FileState) (result : Result Unit Failed) : Type 0 where
  pub size : new.size ≡ old.size
  pub left : MatchResult result (λ _. PutsPlaces (length bytes / 16) 0 (from / 16) bytes old.told new.told)
      (λ _. LeavesPlaces (length bytes / 16) 0 (from / 16) bytes (Rose old.parts new.parts) old.told new.told)
  pub parts : MatchResult result (λ _. new.parts ≡ old.parts) (λ _. old.parts ≤ new.parts)
  pub later : old.faults ≤ new.faults
  pub cause : HasFileCause old new result

-- A sync that answers has made all sure. One that failed has changed nothing that contracts rest on.
pub record Flushes (old new : FileState) (result : Result Unit Failed) : Type 0 where
  pub size : new.size ≡ old.size
  pub parts : new.parts ≡ old.parts
  pub told : MatchResult result (λ _. MakesSure old.told new.told) (λ _. new.told ≡ old.told)
  pub later : old.faults ≤ new.faults
  pub cause : HasFileCause old new result
