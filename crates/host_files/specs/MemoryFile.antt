-- What a file in memory tells, read off its fields.
use Rattle.std.specs.Prelude.{◌-◌, ℕ, vec_len, vec_capacity}
use Rattle.host_files.specs.File.{FileState}
use Rattle.host_files.specs.Memory.{FileMemory, file_of}
use Rattle.host_files.specs.declared.memory_file.MemoryFile.{MemoryFile}

-- all that a file tells
abbrev pub file_memory : MemoryFile → FileMemory
file_memory file = record {
  first = file.first.items;
  changes = file.changes.items;
  calls = file.calls;
  fails = file.fails;
  faults = file.faults;
  parts = file.parts;
  blank_at = file.blank_at;
  blank_size = file.blank_size;
}

-- how many further changes its record has room for
abbrev pub file_room : MemoryFile → ℕ
file_room file = vec_capacity file.changes - vec_len file.changes

-- as a file
abbrev pub memory_file_state : MemoryFile → FileState
memory_file_state file = file_of (file_memory file)
