-- What a file in memory is for contracts: the bytes that it had at first, and its record of changes, from which what
-- it held at each moment follows.
use Rattle.std.specs.Prelude.{◌≡◌, ◌+◌, ℕ, List, [], ◌∷◌, ◌++◌, length, take, Option, Some, None}
use Rattle.worm_device.specs.Counts.{next_count}
use Rattle.host_files.specs.File.{FileState, HeldBytes, Told, PutsPlaces, patched}
use Rattle.host_files.specs.declared.change.FileChange.{FileChange}
use Rattle.host_files.specs.declared.change.FileChange.TheVariants.{Put, Synced}

-- what one change makes of what is held
abbrev pub held_after : HeldBytes → FileChange → HeldBytes
held_after held (Put from piece) = record { bytes = patched from piece held.bytes; sure = held.sure }
held_after held Synced = record { bytes = held.bytes; sure = held.bytes }

-- what a row of changes makes of it
abbrev pub held_after_all : HeldBytes → List FileChange → HeldBytes
held_after_all held [] = held
held_after_all held (change ∷ changes) = held_after_all (held_after held change) changes

-- these bytes, all of them sure
abbrev pub all_sure : List ℕ → HeldBytes
all_sure bytes = record { bytes = bytes; sure = bytes }

-- all that a file in memory tells
pub record FileMemory : Type 0 where
  -- the bytes that it had at first, all of them sure
  pub first : List ℕ
  -- what has changed, in order
  pub changes : List FileChange
  -- how many calls of it there were
  pub calls : ℕ
  -- the number of the call that is to fail, from 1
  pub fails : Option ℕ
  -- how many of its calls have failed
  pub faults : ℕ
  -- how many failed writes have left neither what was there nor all that was to be written
  pub parts : ℕ
  -- where the last call found sixteen zeros
  pub blank_at : Option ℕ
  -- how many
  pub blank_size : ℕ

-- what it held after these of its changes
abbrev pub held_at : FileMemory → List FileChange → HeldBytes
held_at m changes = held_after_all (all_sure m.first) changes

-- what it tells; the moment is the number of changes so far
abbrev pub told_of : FileMemory → Told
told_of m = record {
  now = held_at m m.changes;
  moment = length m.changes;
  past = λ moment. held_at m (take moment m.changes);
}

-- as a file
abbrev pub file_of : FileMemory → FileState
file_of m = record {
  size = length m.first;
  told = Some (told_of m);
  faults = m.faults;
  parts = m.parts;
  blank_at = m.blank_at;
  blank_size = m.blank_size;
}

-- one more change
abbrev pub file_with_change : FileMemory → FileChange → FileMemory
file_with_change m change = record m { changes = m.changes ++ change ∷ [] }

-- one more call, which has found no zeros yet
abbrev pub file_with_call : FileMemory → FileMemory
file_with_call m = record m { blank_at = None; blank_size = 0; calls = next_count m.calls }

-- one more fault
abbrev pub file_with_fault : FileMemory → FileMemory
file_with_fault m = record m { faults = next_count m.faults }

-- one more write that has left a part
abbrev pub with_part : FileMemory → FileMemory
with_part m = record m { parts = next_count m.parts }

-- the next call is to fail
abbrev pub IsToFail : FileMemory → Type 0
IsToFail m = m.fails ≡ Some (m.calls + 1)

-- so many places of these bytes were put one after another, from this one of the file on, and no count has changed
pub record HasPut (count cell : ℕ) (bytes : List ℕ) (old new : FileMemory) : Type 0 where
  pub first : new.first ≡ old.first
  pub puts : PutsPlaces count 0 cell bytes (Some (told_of old)) (Some (told_of new))
  pub faults : new.faults ≡ old.faults
  pub parts : new.parts ≡ old.parts
