-- What a command does where no file is named: its device is one blank cell in memory.
use Rattle.std.specs.Prelude.{◌≡◌, ℕ, List, [], false, Result, Ok, Err}
use Rattle.cell_types.specs.declared.refusal.Refusal.{Refusal}
use Rattle.cell_types.specs.declared.refusal.Refusal.TheVariants as refusals
use Rattle.worm_memory.specs.Memory.{Memory, device_of}
use Rattle.worm_memory.specs.Plans.{no_plan}
use Rattle.host_ports.specs.Sinks.{SinkState}
use Rattle.host_ports.specs.Sources.{SourceState}
use Rattle.volume_commands.specs.Ports.{ports_of}
use Rattle.record_top.specs.Runs.{Runs}
use Rattle.program_host.specs.Faults.{fault_of}
use Rattle.program_host.specs.declared.fault.Fault.{Fault}
use Rattle.program_host.specs.declared.fault.Fault.TheVariants.{Refused}

-- one blank cell: nothing is planned, and all counts are 0
abbrev pub one_cell : Memory
one_cell = record {
  cells = 1;
  changes = [];
  made_in = [];
  marks = [];
  steps = 0;
  calls = 0;
  plan = no_plan;
  faults = 0;
  reads = 0;
  foreign_writes = 0;
  by_plan = false;
}

-- what the program answers where a command ended so
abbrev pub outcome_of : Result Unit Refusal → Result Unit Fault
outcome_of (Ok done) = Ok done
outcome_of (Err refusal) = Err (fault_of refusal)

-- The command ran with these words over one blank cell, the source and the sink.
pub record RanInMemory (words : List (List ℕ)) (source source' : SourceState) (sink sink' : SinkState)
    (result : Result Unit Fault) : Type 0 where
  pub left : Memory
  pub done : Result Unit Refusal
  pub runs : Runs words (ports_of (device_of one_cell) source sink) (ports_of (device_of left) source' sink') done
  pub answer : result ≡ outcome_of done

-- What the program does with the words behind a hyphen.
pub data WorksInMemory (words : List (List ℕ)) (source source' : SourceState) (sink sink' : SinkState)
    (result : Result Unit Fault) : Type 0 where
  -- no memory was to be had, and nothing is done
  lacked : source' ≡ source → sink' ≡ sink → result ≡ Err (Refused refusals.NoMemory)
      → WorksInMemory words source source' sink sink' result
  -- the command was carried out, or refused
  ran : RanInMemory words source source' sink sink' result → WorksInMemory words source source' sink sink' result
