-- A command that ran over a device as it is made has run over one blank cell.
use Rattle.std.proofs.Common.{◌≡◌, ℕ, List, Result, subst}
use Rattle.cell_types.specs.declared.refusal.Refusal.{Refusal}
use Rattle.host_ports.specs.Sinks.{SinkState}
use Rattle.host_ports.specs.Sources.{SourceState}
use Rattle.worm_memory.specs.Memory.{Memory, device_of}
use Rattle.volume_commands.specs.Ports.{ports_of}
use Rattle.record_top.specs.Runs.{Runs}
use Rattle.program_host.specs.declared.fault.Fault.{Fault}
use Rattle.program.specs.InMemory.{WorksInMemory, one_cell, outcome_of, ran}

pub ran_on_one_cell : (words : List (List ℕ)) (made left : Memory) (source source' : SourceState)
    (sink sink' : SinkState) (done : Result Unit Refusal) (result : Result Unit Fault) → made ≡ one_cell
    → Runs words (ports_of (device_of made) source sink) (ports_of (device_of left) source' sink') done
    → result ≡ outcome_of done → WorksInMemory words source source' sink sink' result
ran_on_one_cell words made left source source' sink sink' done result is runs answer = ran (record {
  left = left;
  done = done;
  runs = subst (λ (m : Memory). Runs words (ports_of (device_of m) source sink)
      (ports_of (device_of left) source' sink') done) is runs;
  answer = answer;
})
