-- The command `receipt`: it puts out a receipt of the document with this identifier.
use Rattle.std.specs.Prelude.{◌≡◌, ℕ, List, Result, Ok, Err, ⊤}
use Rattle.cell_types.specs.Layout.{Layout}
use Rattle.cell_types.specs.declared.refusal.Refusal.{Refusal}
use Rattle.cell_types.specs.declared.refusal.Refusal.TheVariants.{Absent, BadIdentifier, NoMemory, ReceiptTooLong}
use Rattle.volume_meaning.specs.Documents.{IsIdentifier}
use Rattle.worm_device.specs.Counts.{IsStill}
use Rattle.command_laws.specs.WholeLogs.{HasSteadyVolume}
use Rattle.receipt_text.specs.Form.{text_of_receipt}
use Rattle.receipt_text.specs.declared.receipt.Receipt.{Receipt}
use Rattle.receipt_check.specs.Making.{MakesReceipt}
use Rattle.volume_commands.specs.Ports.{Ports, TellsFromMemory}

-- What the command does, by how far it comes.
pub data DoesReceipt (id : List ℕ) (old new : Ports) (result : Result Unit Refusal) : Type 0 where
  -- the word is no identifier, and nothing is done
  misnamed : (IsIdentifier id → ⊥) → result ≡ Err BadIdentifier → new ≡ old → DoesReceipt id old new result
  -- A receipt is made, as the engine says, or that is ended, and its text is told. The text is made before its first
  -- byte goes out.
  made : (answer : Result Receipt Refusal) → IsIdentifier id → MakesReceipt id old.device new.device answer
      → new.source ≡ old.source → TellsFromMemory text_of_receipt answer old new result → DoesReceipt id old new result

-- all is as the command wants it
pub record IsReadyForReceipt (id : List ℕ) (g : Layout) (old new : Ports) : Type 0 where
  pub identifier : IsIdentifier id
  pub log : HasSteadyVolume g old.device new.device
  pub no_sink_fault : IsStill old.sink.faults new.sink.faults

-- the answer is Ok; or no document has the identifier, its receipt would have too many cells, or no memory was to be
-- had
abbrev pub IsOkOrNoReceipt : Result Unit Refusal → Type 0
IsOkOrNoReceipt (Ok _) = ⊤
IsOkOrNoReceipt (Err Absent) = ⊤
IsOkOrNoReceipt (Err (ReceiptTooLong count)) = ⊤
IsOkOrNoReceipt (Err NoMemory) = ⊤
IsOkOrNoReceipt (Err refusal) = ⊥
