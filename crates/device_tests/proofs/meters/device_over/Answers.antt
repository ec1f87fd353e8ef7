use Rattle.std.specs.Prelude.{ℕ}
use Rattle.std.proofs.Common.{subst, sym}
use Rattle.host_files.specs.Device.{SureStands}
use Rattle.host_files.specs.MemoryFile.{memory_file_state}
use Rattle.host_files.specs.declared.memory_file.MemoryFile.{MemoryFile}
use Rattle.device_tests.proofs.meters.device_over.Goals as goal

-- what is sure of the file stands, and it is the file that was handed in
pub over-requires : goal.over-requires
over-requires g c =
    subst (λ (file : MemoryFile). (cells : ℕ) → SureStands cells (memory_file_state file).told) (sym c.new-metered.ensures)
    c.in_ok-file.ensures.stands
