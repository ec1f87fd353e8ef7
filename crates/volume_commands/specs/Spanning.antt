-- The command `between`: it searches the documents of a span of time, and puts out which these are.
use Rattle.std.specs.Prelude.{◌≡◌, ◌++◌, ℕ, List, codes, Result}
use Rattle.std.specs.Fmt.{decimal}
use Rattle.std.specs.Global.{Vec}
use Rattle.cell_types.specs.Layout.{Layout, TakesStamps}
use Rattle.cell_types.specs.declared.refusal.Refusal.{Refusal}
use Rattle.worm_device.specs.Counts.{IsStill}
use Rattle.command_laws.specs.WholeLogs.{HasSteadyVolume}
use Rattle.time_index.specs.Spans.{FindsBetween}
use Rattle.time_index.specs.declared.found.TimeMatch.{TimeMatch}
use Rattle.command_line.specs.Lines.{found_lines}
use Rattle.volume_commands.specs.Ports.{Ports, TellsFromMemory}

-- what the line of a document begins with: its slot, and its identifier
abbrev pub line_start : ℕ → List ℕ → List ℕ
line_start slot identifier = decimal slot ++ (codes " " ++ (identifier ++ codes " "))

-- the line that tells of a document with its stamp: its slot, its identifier, the seconds, and how many bytes its body
-- has
abbrev pub stamped_line : ℕ → List ℕ → ℕ → ℕ → List ℕ
stamped_line slot identifier seconds bytes =
    line_start slot identifier ++ (decimal seconds ++ (codes " " ++ (decimal bytes ++ codes "\n")))

-- the line that tells of a match
abbrev pub time_line : TimeMatch → List ℕ
time_line m = stamped_line m.slot m.identifier m.seconds m.bytes

-- the text that tells of what was found: a line a match, and how many they are
abbrev pub span_text : List TimeMatch → List ℕ
span_text matches = found_lines time_line matches

-- the same of the engine's answer
abbrev pub between_text : Vec TimeMatch → List ℕ
between_text matches = span_text matches.items

-- What the command does: the documents of the span are asked for, as the engine says, and its answer is told. The text
-- is made before its first byte goes out.
pub record DoesBetween (from to : ℕ) (old new : Ports) (result : Result Unit Refusal) : Type 0 where
  pub answer : Result (Vec TimeMatch) Refusal
  pub finds : FindsBetween from to old.device new.device answer
  pub source : new.source ≡ old.source
  pub tells : TellsFromMemory between_text answer old new result

-- all is as the command wants it: the volume's documents are stamped
pub record IsReadyBetween (g : Layout) (old new : Ports) : Type 0 where
  pub stamped : TakesStamps g
  pub log : HasSteadyVolume g old.device new.device
  pub no_sink_fault : IsStill old.sink.faults new.sink.faults
