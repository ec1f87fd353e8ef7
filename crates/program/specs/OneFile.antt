-- What a command over one file does, and what the program answers.
use Rattle.std.specs.Prelude.{◌≡◌, ◌<◌, ◌/◌, ◌⊎◌, ℕ, List, [], Option, Some, None, Result, Ok, Err, MatchResult}
use Rattle.cell_types.specs.declared.geometry.TheConstants.{MAX_CELLS}
use Rattle.cell_types.specs.declared.refusal.Refusal.{Refusal}
use Rattle.cell_types.specs.declared.refusal.Refusal.TheVariants as refusals
use Rattle.worm_device.specs.State.{DeviceState}
use Rattle.worm_device.specs.declared.device.Failed.{Failed}
use Rattle.host_files.specs.Device.{device_over}
use Rattle.host_files.specs.File.{FileState}
use Rattle.host_ports.specs.Memories.{GatheredBytes, gathered_of}
use Rattle.host_ports.specs.Sinks.{SinkState, Gets, PutsPart}
use Rattle.host_ports.specs.Sources.{SourceState}
use Rattle.volume_commands.specs.Ports.{ports_of}
use Rattle.record_top.specs.Runs.{Runs}
use Rattle.program_host.specs.Faults.{fault_of}
use Rattle.program_host.specs.declared.fault.Fault.{Fault}
use Rattle.program_host.specs.declared.fault.Fault.TheVariants.{Image, Refused}

-- what the program is given besides its words: the host whose files it opens, the source and the sink, as they are at
-- one moment
pub record World (H : Type 0) : Type 0 where
  pub host : H
  pub source : SourceState
  pub sink : SinkState

-- these three
abbrev pub world_of : {H : Type 0} → H → SourceState → SinkState → World H
world_of host source sink = record { host = host; source = source; sink = sink }

-- a file as a device of which nothing was read yet
abbrev pub new_device : FileState → DeviceState
new_device file = device_over (file.size / 16) 0 file

-- a file of so many bytes is no device
abbrev pub IsNoDevice : FileState → Type 0
IsNoDevice file = (file.size / 16 ≡ 0) ⊎ (MAX_CELLS < file.size / 16)

-- no text yet
abbrev pub no_text : GatheredBytes
no_text = record { held = []; faults = 0 }

-- The text was put into the sink whole; or the sink failed, and may have got some first bytes of it.
abbrev pub IsShown : List ℕ → SinkState → SinkState → Result Unit Failed → Type 0
IsShown text old new shown = MatchResult shown (λ _. Gets old.held new.held text) (λ _. PutsPart text old new)

-- What the program answers, by how the command ended and whether its text could be shown. What the command puts out is
-- kept in memory, so that this sink fails is want of memory.
abbrev pub answer_of : Result Unit Refusal → Result Unit Failed → Result Unit Fault
answer_of (Ok done) (Ok shown) = Ok done
answer_of (Ok done) (Err failed) = Err (Refused refusals.SinkFault)
answer_of (Err refusals.SinkFault) shown = Err (Refused refusals.NoMemory)
answer_of (Err refusal) shown = Err (fault_of refusal)

-- The command ran with these words over a device that shows a file, the source, and a sink in memory that held nothing.
-- By state a file is what it is.
pub record RanOver {F : Type 0} (state : F → FileState) (words : List (List ℕ)) (device : DeviceState)
    (old new : SourceState) (text : GatheredBytes) (done : Result Unit Refusal) : Type 0 where
  -- the file as it was let go, of how many cells the device over it was, and how many of them were read
  pub left : F
  pub cells : ℕ
  pub reads : ℕ
  pub runs : Runs words (ports_of device old (gathered_of no_text))
      (ports_of (device_over cells reads (state left)) new (gathered_of text)) done

-- A file was opened at this path, and the command ran over it, of which nothing was read before. Then the text that it
-- had put out went into the sink. By Opened a path was opened, and a file came of it, if any.
pub record WasDoneOn {H F : Type 0} (Opened : H → List ℕ → Option F → H → Type 0) (state : F → FileState)
    (path : List ℕ) (words : List (List ℕ)) (old new : World H) (result : Result Unit Fault) : Type 0 where
  pub file : F
  pub opened : Opened old.host path (Some file) new.host
  -- what the command put out, and how it ended
  pub text : GatheredBytes
  pub done : Result Unit Refusal
  pub ran : RanOver state words (new_device (state file)) old.source new.source text done
  -- whether it could be shown
  pub shown : Result Unit Failed
  pub shows : IsShown text.held old.sink new.sink shown
  pub answer : result ≡ answer_of done shown

-- What the program does with the words behind a path.
pub data WorksOver {H F : Type 0} (Opened : H → List ℕ → Option F → H → Type 0) (state : F → FileState)
    (path : List ℕ) (words : List (List ℕ)) (old new : World H) (result : Result Unit Fault) : Type 0 where
  -- no memory was to be had, and nothing is done
  lacked : new ≡ old → result ≡ Err (Refused refusals.NoMemory)
      → WorksOver Opened state path words old new result
  -- the path could not be opened
  unopened : Opened old.host path None new.host → new.source ≡ old.source → new.sink ≡ old.sink → result ≡ Err Image
      → WorksOver Opened state path words old new result
  -- the file that was opened has no cell, or more than a device may have
  no_device : (file : F) → Opened old.host path (Some file) new.host → IsNoDevice (state file)
      → new.source ≡ old.source → new.sink ≡ old.sink → result ≡ Err Image
      → WorksOver Opened state path words old new result
  -- the command was carried out over it, or refused
  done_on : WasDoneOn Opened state path words old new result → WorksOver Opened state path words old new result
