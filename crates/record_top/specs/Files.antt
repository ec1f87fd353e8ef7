-- What a command does to the bytes of a file.
use Rattle.std.specs.Prelude.{◌≡◌, ℕ, List, [], ◌∷◌, ◌++◌, Option, Some, None, Result, Ok, Err, ⊤}
use Rattle.cell_types.specs.declared.refusal.Refusal.{Refusal}
use Rattle.host_files.specs.Cells.{image_of_bytes}
use Rattle.host_files.specs.Crashes.{CrashLeaves}
use Rattle.host_files.specs.File.{Told}
use Rattle.host_ports.specs.Sinks.{SinkState, Gets}
use Rattle.host_ports.specs.Sources.{SourceState, Gives}
use Rattle.volume_commands.specs.Ingesting.{WasStored, acknowledgement}
use Rattle.volume_meaning.specs.Documents.{Document, Stands}
use Rattle.volume_meaning.specs.Slots.{HasStamp}
use Rattle.volume_meaning.specs.Keeping.{Kept}
use Rattle.ingest_engine.specs.Ingesting.{document_in}

-- what the file below tells, the source and the sink that a command is given, as they are at one moment
pub record FilePorts : Type 0 where
  pub told : Option Told
  pub source : SourceState
  pub sink : SinkState

-- these three
abbrev pub file_ports : Option Told → SourceState → SinkState → FilePorts
file_ports told source sink = record { told = told; source = source; sink = sink }

-- Where the file tells its bytes, this holds of what it told and tells. A file that tells goes on telling, and one that
-- doesn't goes on not telling.
abbrev pub WhereTold : Option Told → Option Told → (Told → Told → Type 0) → Type 0
WhereTold None None P = ⊤
WhereTold None (Some new) P = ⊥
WhereTold (Some old) None P = ⊥
WhereTold (Some old) (Some new) P = P old new

-- The document is one of the volume's, in slot n, in the bytes that no crash takes, as the first so many cells of the
-- file, and in each file that a crash leaves from now on.
pub record IsKeptIn (cells : ℕ) (told : Told) (n : ℕ) (id body : List ℕ) : Type 0 where
  pub sure : Stands cells (image_of_bytes cells told.now.sure) n id body
  pub left : (bytes : List ℕ) → CrashLeaves told.now bytes → Stands cells (image_of_bytes cells bytes) n id body

-- Slot n has this stamp in the bytes that no crash takes, and in each file that a crash leaves from now on.
pub record IsStampedIn (cells : ℕ) (told : Told) (n seconds : ℕ) : Type 0 where
  pub sure : HasStamp (image_of_bytes cells told.now.sure) n seconds
  pub left : (bytes : List ℕ) → CrashLeaves told.now bytes → HasStamp (image_of_bytes cells bytes) n seconds

-- each document of the volume that these bytes are is kept
abbrev pub KeepsAllOfFile : ℕ → List ℕ → Told → Type 0
KeepsAllOfFile cells bytes told =
    (n : ℕ) (id body : List ℕ) → Stands cells (image_of_bytes cells bytes) n id body → IsKeptIn cells told n id body

-- at Ok this slot was acknowledged
abbrev pub Acknowledges : Result Unit Refusal → ℕ → SinkState → SinkState → Type 0
Acknowledges (Ok _) n old new = Gets old.held new.held (acknowledgement n)
Acknowledges (Err refusal) n old new = ⊤

-- The index leads to these documents in the bytes that no crash takes, and in each file that a crash leaves from now
-- on.
pub record IsLedToIn (cells : ℕ) (told : Told) (documents : List Document) : Type 0 where
  pub sure : Kept cells (image_of_bytes cells told.now.sure) documents
  pub left : (bytes : List ℕ) → CrashLeaves told.now bytes → Kept cells (image_of_bytes cells bytes) documents

-- The document is kept in a slot, which was acknowledged at Ok, and so is its stamp, if one was given. The index leads
-- to it, and to each document to which it led in the bytes before.
pub record IsDocumentStored (cells : ℕ) (id : List ℕ) (stamp : Option ℕ) (body : List ℕ) (before after : Told)
    (old new : SinkState) (result : Result Unit Refusal) : Type 0 where
  pub slot : ℕ
  pub kept : IsKeptIn cells after slot id body
  pub stamped : (seconds : ℕ) → stamp ≡ Some seconds → IsStampedIn cells after slot seconds
  pub led : (documents : List Document) → Kept cells (image_of_bytes cells before.now.bytes) documents
      → IsLedToIn cells after (documents ++ document_in slot id body ∷ [])
  pub named : Acknowledges result slot old new

-- Where `ingest` of an identifier has stored its document over a file that tells its bytes, the file keeps the
-- document with its stamp, whose body is what the source gave, and each document of the volume that the file was at
-- entry.
pub record KeepsIn (cells : ℕ) (id : List ℕ) (stamp : Option ℕ) (old new : FilePorts) (result : Result Unit Refusal)
    : Type 0 where
  pub given : List ℕ
  pub gives : Gives old.source.left new.source.left given
  pub kept : WasStored result → WhereTold old.told new.told (λ before after.
      IsDocumentStored cells id stamp given before after old.sink new.sink result
      × KeepsAllOfFile cells before.now.bytes after)
