-- What a command is given besides its words, and what it puts out.
use Rattle.std.specs.Prelude.{◌≡◌, ℕ, List, Result, Ok, Err, ⊤}
use Rattle.cell_types.specs.declared.refusal.Refusal.{Refusal}
use Rattle.cell_types.specs.declared.refusal.Refusal.TheVariants.{Absent, NoMemory, SinkFault}
use Rattle.host_ports.specs.Sinks.{SinkState, Gets, PutsPart}
use Rattle.host_ports.specs.Sources.{SourceState}
use Rattle.worm_device.specs.State.{DeviceState}

-- the device, the source and the sink that a command is given, as they are at one moment
pub record Ports : Type 0 where
  pub device : DeviceState
  pub source : SourceState
  pub sink : SinkState

-- these three
abbrev pub ports_of : DeviceState → SourceState → SinkState → Ports
ports_of device source sink = record { device = device; source = source; sink = sink }

-- the sink holds what it held
abbrev pub KeepsSink : Ports → Ports → Type 0
KeepsSink old new = new.sink.held ≡ old.sink.held

-- the text was put out whole
abbrev pub PutsOut : List ℕ → Ports → Ports → Type 0
PutsOut text old new = Gets old.sink.held new.sink.held text

-- the sink failed, and may have got some first bytes of the text
abbrev pub PutsOutPart : List ℕ → Ports → Ports → Type 0
PutsOutPart text old new = PutsPart text old.sink new.sink

-- How a command ends, by what its engine answered: what it tells was put out, or the sink failed then; and a refusal of
-- the engine is the command's, of which nothing is put out.
abbrev pub Tells : {A : Type 0} → (A → List ℕ) → Result A Refusal → Ports → Ports → Result Unit Refusal → Type 0
Tells text (Ok a) old new (Ok u) = PutsOut (text a) old new
Tells text (Ok a) old new (Err SinkFault) = PutsOutPart (text a) old new
Tells text (Ok a) old new (Err refusal) = ⊥
Tells text (Err refused) old new (Ok u) = ⊥
Tells text (Err refused) old new (Err refusal) = (refusal ≡ refused) × KeepsSink old new

-- The same where the text is made in memory before its first byte goes out: then no memory may be had for it, and
-- nothing is put out.
abbrev pub TellsFromMemory
    : {A : Type 0} → (A → List ℕ) → Result A Refusal → Ports → Ports → Result Unit Refusal → Type 0
TellsFromMemory text (Ok a) old new (Err NoMemory) = KeepsSink old new
TellsFromMemory text answer old new result = Tells text answer old new result

-- the answer is Ok
abbrev pub IsOkAlone : Result Unit Refusal → Type 0
IsOkAlone (Ok _) = ⊤
IsOkAlone (Err refusal) = ⊥

-- the answer is Ok, or no document has the identifier
abbrev pub IsOkOrAbsent : Result Unit Refusal → Type 0
IsOkOrAbsent (Ok _) = ⊤
IsOkOrAbsent (Err Absent) = ⊤
IsOkOrAbsent (Err refusal) = ⊥

-- the answer is Ok, or want of memory
abbrev pub IsOkOrNoMemory : Result Unit Refusal → Type 0
IsOkOrNoMemory (Ok _) = ⊤
IsOkOrNoMemory (Err NoMemory) = ⊤
IsOkOrNoMemory (Err refusal) = ⊥
