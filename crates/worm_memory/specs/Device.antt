-- What a device in memory tells, read off its fields, and what a call does to it.
use Rattle.std.specs.Prelude.{◌≡◌, ◌≤◌, ◌<◌, List, ℕ, Bool, true, ◌+◌, length, None, Some, Result, Ok, Err, vec_capacity, vec_len}
use Rattle.cell_types.specs.Image.{IsUnchanged}
use Rattle.worm_device.specs.Calls.{Called, LeavesAll}
use Rattle.worm_device.specs.Counts.{IsStill}
use Rattle.worm_device.specs.State.{DeviceState}
use Rattle.worm_device.specs.declared.device.Failed.{Failed}
use Rattle.worm_device.specs.declared.device.Written.{Written}
use Rattle.worm_device.specs.declared.device.Written.TheVariants.{Done, Taken}
use Rattle.worm_memory.specs.Losses.{kept_count}
use Rattle.worm_memory.specs.Memory.{KeepsPlan, Memory, device_of, with_change, with_fault, with_foreign, with_hand, with_put}
use Rattle.worm_memory.specs.Outcomes.{Outcome, with_crash}
use Rattle.worm_memory.specs.Plans.{plan_of}
use Rattle.worm_memory.specs.Unsure.{unsure_of}
use Rattle.worm_memory.specs.Worlds.{foreign_writes_in}
use Rattle.worm_memory.specs.declared.change.Change.{Change}
use Rattle.worm_memory.specs.declared.losses.Crash.{Crash}
use Rattle.worm_memory.specs.declared.memory_device.MemoryDevice.{MemoryDevice}

-- all that a device tells
abbrev pub memory_of : MemoryDevice → Memory
memory_of device = record {
  cells = vec_len device.cells;
  changes = device.changes.items;
  made_in = device.made_in.items;
  marks = device.marks.items;
  steps = device.schedule.steps;
  calls = device.schedule.calls;
  plan = plan_of device.schedule;
  faults = device.faults;
  reads = device.reads;
  foreign_writes = device.foreign_writes;
  by_plan = device.by_plan;
}

-- how many further changes its record has room for
abbrev pub room_of : MemoryDevice → ℕ
room_of device = device.spare

-- it has room for the mark of one more command
abbrev pub HasMarkRoom : MemoryDevice → Type 0
HasMarkRoom device = vec_len device.marks < vec_capacity device.marks

-- what a device is as a device
abbrev pub state_of : MemoryDevice → DeviceState
state_of device = device_of (memory_of device)

-- how a device stands after a call that failed or not
abbrev pub outcome : MemoryDevice → Bool → Outcome
outcome device failed = record { memory = memory_of device; room = room_of device; failed = failed }

-- nothing has changed
abbrev pub Stays : MemoryDevice → MemoryDevice → Type 0
Stays old new = (memory_of new ≡ memory_of old) × (room_of new ≡ room_of old)

-- one more change is in the record, and nothing else but its room has changed
abbrev pub Records : Change → MemoryDevice → MemoryDevice → Type 0
Records change old new = (memory_of new ≡ with_change (memory_of old) change) × (room_of new + 1 ≡ room_of old)

-- one more write is in the record, and in the count if it is somebody else's; nothing else but the room has changed
abbrev pub RecordsPut : Change → MemoryDevice → MemoryDevice → Type 0
RecordsPut change old new = (memory_of new ≡ with_put (memory_of old) change) × (room_of new + 1 ≡ room_of old)

-- one more fault is counted, and nothing else has changed
abbrev pub CountsFault : MemoryDevice → MemoryDevice → Type 0
CountsFault old new = (memory_of new ≡ with_fault (memory_of old)) × (room_of new ≡ room_of old)

-- one more foreign write is in the record and in the count, and nothing else but the room has changed
abbrev pub RecordsForeign : ℕ → List ℕ → Memory → ℕ → MemoryDevice → Type 0
RecordsForeign at value old room new = (memory_of new ≡ with_foreign old at value) × (room_of new + 1 ≡ room)

-- What others do keeps what every call keeps, but that the present command need not go by its plan any more; and it
-- shows in the count of foreign writes.
pub record ForeignWrites (old new : DeviceState) : Type 0 where
  pub called : Called (record old { begun = new.begun }) new
  pub leaves : LeavesAll old new
  pub quiet : IsStill old.foreign_writes new.foreign_writes → IsUnchanged old.image new.image

-- How a foreign write may end, and why: a blank cell is written, and counted, and the present command does not go by
-- its plan any more; a written one stays, and nothing changes; and it fails exactly where a blank cell's change has no
-- room in the record.
abbrev pub ForeignEnds : ℕ → List ℕ → MemoryDevice → MemoryDevice → Result Written Failed → Type 0
ForeignEnds at value old new (Ok Done) =
    ((state_of old).image at ≡ None) × RecordsForeign at value (with_hand (memory_of old)) (room_of old) new
ForeignEnds at value old new (Ok (Taken found)) = ((state_of old).image at ≡ Some found) × Stays old new
ForeignEnds at value old new (Err failed) =
    ((state_of old).image at ≡ None) × (room_of old ≡ 0)
    × (memory_of new ≡ with_fault (with_hand (memory_of old))) × (room_of new ≡ room_of old)

-- How a crash may end, and why. It uses the room of one change, and of one more for each cell that was not sure; where
-- the record has that room, all is done, and else the crash fails and changes nothing.
abbrev pub CrashEnds : List ℕ → MemoryDevice → MemoryDevice → Result Crash Failed → Type 0
CrashEnds keep old new (Ok crash) =
    (memory_of new ≡ with_crash (memory_of old) keep)
    × (crash.unsure ≡ length (unsure_of (memory_of old).changes))
    × (crash.kept ≡ kept_count keep (unsure_of (memory_of old).changes))
    × (room_of new + crash.unsure + 1 ≡ room_of old)
CrashEnds keep old new (Err failed) =
    (room_of old < length (unsure_of (memory_of old).changes) + 1)
    × (memory_of new ≡ with_fault (with_hand (memory_of old))) × (room_of new ≡ room_of old)

-- Once a command goes by its plan, so does each row of its calls: faults and foreign writes are those of that plan.
abbrev pub APlanIsKept : Type 0
APlanIsKept =
    (begun now : MemoryDevice) → Called (state_of begun) (state_of now) → (memory_of begun).by_plan ≡ true
    → ((memory_of now).marks ≡ (memory_of begun).marks) × ((memory_of now).plan ≡ (memory_of begun).plan)
    × KeepsPlan (memory_of now)

-- Where a command goes by its plan, whatever a call has to record has room: a write into a blank cell, whoever writes,
-- and a sync of cells that are not sure.
abbrev pub ACommandHasRoom : Type 0
ACommandHasRoom =
    (begun now : MemoryDevice) → Called (state_of begun) (state_of now) → (memory_of begun).by_plan ≡ true
    → ((at : ℕ) → at < (memory_of now).cells → (state_of now).image at ≡ None → 1 ≤ room_of now)
    × (1 ≤ length (unsure_of (memory_of now).changes) → 1 ≤ room_of now)

-- The count of foreign writes is that of the record: no more and no fewer of its changes are somebody else's.
abbrev pub TheCountIsRecorded : Type 0
TheCountIsRecorded =
    (device : MemoryDevice) → (memory_of device).foreign_writes ≡ foreign_writes_in (memory_of device).changes

-- A crash finds room where there is one change more than there are cells: not more than these are unsure.
abbrev pub ACrashHasRoom : Type 0
ACrashHasRoom = (device : MemoryDevice) → length (unsure_of (memory_of device).changes) ≤ (memory_of device).cells
