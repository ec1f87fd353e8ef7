-- The command `copy`: it copies a volume to another device, and puts out where its documents were and where they are.
use Rattle.std.specs.Prelude.{◌≡◌, ◌++◌, ◌↔◌, ℕ, List, codes, length, Result, Ok, Err}
use Rattle.std.specs.Fmt.{decimal}
use Rattle.std.specs.Global.{Vec}
use Rattle.cell_types.specs.declared.refusal.CopyRefusal.{CopyRefusal}
use Rattle.cell_types.specs.declared.refusal.CopyRefusal.TheVariants.{NoMemory, SinkFault, Usage}
use Rattle.worm_device.specs.Calls.{Called}
use Rattle.worm_device.specs.State.{DeviceState}
use Rattle.host_ports.specs.Sinks.{SinkState, Gets, PutsPart}
use Rattle.volume_copy.specs.Copies.{Copies}
use Rattle.volume_copy.specs.declared.moved.Moved.{Moved}
use Rattle.command_line.specs.Asking.{AsksWithNumbers}
use Rattle.command_line.specs.Lines.{lines_of}

-- the words are `copy` and these numbers of slots and lists
abbrev pub AsksToCopy : List (List ℕ) → ℕ → ℕ → Type 0
AsksToCopy words slots lists = AsksWithNumbers (codes "copy") words slots lists

-- the words ask for no copy
abbrev pub AsksNoCopy : List (List ℕ) → Type 0
AsksNoCopy words = (slots lists : ℕ) → AsksToCopy words slots lists → ⊥

-- the line that tells of a document: its slot in the volume that is copied, and its slot in the target
abbrev pub slots_line : ℕ → ℕ → List ℕ
slots_line old new = decimal old ++ (codes " " ++ (decimal new ++ codes "\n"))

-- the line of a pair
abbrev pub moved_line : Moved → List ℕ
moved_line m = slots_line m.old m.new

-- the line that says how many documents were copied, or found in the target
abbrev pub copied_line : ℕ → List ℕ
copied_line count = decimal count ++ codes " copied\n"

-- the text that tells of a copy: a line a document, and how many they are
abbrev pub copy_text : List Moved → List ℕ
copy_text moved = lines_of moved_line moved ++ copied_line (length moved)

-- How the command ends, by what the copy answered: the text was put out whole; or the sink failed, and may have got
-- some first bytes of it; or no memory was to be had for it, and nothing is put out. A refusal of the copy is the
-- command's, and nothing is put out.
abbrev pub TellsCopy : Result (Vec Moved) CopyRefusal → SinkState → SinkState → Result Unit CopyRefusal → Type 0
TellsCopy (Ok moved) old new (Ok u) = Gets old.held new.held (copy_text moved.items)
TellsCopy (Ok moved) old new (Err SinkFault) = PutsPart (copy_text moved.items) old new
TellsCopy (Ok moved) old new (Err NoMemory) = new.held ≡ old.held
TellsCopy (Ok moved) old new (Err refusal) = ⊥
TellsCopy (Err refused) old new (Ok u) = ⊥
TellsCopy (Err refused) old new (Err refusal) = (refusal ≡ refused) × (new.held ≡ old.held)

-- What the command does: the volume is copied, as the engine says, and its answer is told. The text is made before its
-- first byte goes out.
pub record DoesCopy (slots lists : ℕ) (from from' to to' : DeviceState) (old new : SinkState)
    (result : Result Unit CopyRefusal) : Type 0 where
  pub answer : Result (Vec Moved) CopyRefusal
  pub copies : Copies slots lists from from' to to' answer
  pub tells : TellsCopy answer old new result

-- What a call with these words does to both devices and the sink, and how it ends.
pub record RunsCopy (words : List (List ℕ)) (from from' to to' : DeviceState) (old new : SinkState)
    (result : Result Unit CopyRefusal) : Type 0 where
  -- Whatever the words are, what is written on either device stays, and what is sure.
  pub from_called : Called from from'
  pub to_called : Called to to'
  -- Usage comes exactly where the words ask for no copy, and then nothing is done.
  pub usage : (result ≡ Err Usage) ↔ AsksNoCopy words
  pub unused : result ≡ Err Usage → (from' ≡ from) × (to' ≡ to) × (new ≡ old)
  -- The copy that the words ask for is made, and told; or it ends for a cause that is named.
  pub does : (slots lists : ℕ) → AsksToCopy words slots lists → DoesCopy slots lists from from' to to' old new result
