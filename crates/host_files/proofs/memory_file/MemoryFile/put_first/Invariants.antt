-- The places before this turn's are put.
use Rattle.std.proofs.Common.{◌≡◌, ◌+◌, ◌/◌}
use Rattle.host_files.specs.Memory.{HasPut}
use Rattle.host_files.specs.MemoryFile.{file_memory, file_room}
use Rattle.host_files.proofs.memory_file.MemoryFile.put_first.Given as goal

abbrev pub invariant-loop-place : goal.invariant-loop-place
invariant-loop-place l =
    HasPut l.place (l.from / 16) l.bytes (file_memory l.initial.self) (file_memory l.self)
    × (file_room l.self + l.place ≡ file_room l.initial.self)
