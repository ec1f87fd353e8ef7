-- The command `check`: it reads a receipt from the source, and says whether its cells stand on the device and keep its
-- document. It settles nothing and writes nothing.
use Rattle.std.specs.Prelude.{◌≡◌, ◌++◌, ℕ, List, codes, Some, Result, Ok, Err, IsTrue}
use Rattle.cell_types.specs.Image.{Extends}
use Rattle.cell_types.specs.declared.refusal.Refusal.{Refusal}
use Rattle.host_ports.specs.Sources.{Gives, IsAtEnd}
use Rattle.worm_device.specs.Counts.{IsStill}
use Rattle.receipt_text.specs.Form.{IsReceiptOn, refusal_of_receipt, text_of_receipt}
use Rattle.receipt_text.specs.Listed.{listed_image}
use Rattle.receipt_text.specs.Reading.{ReadReceiptEnds}
use Rattle.receipt_text.specs.declared.receipt.Receipt.{Receipt}
use Rattle.receipt_text.specs.declared.receipt.ReceiptFault.{ReceiptFault}
use Rattle.receipt_check.specs.Checks.{ChecksReceipt, ShowsDocument, refusal_of_check}
use Rattle.receipt_check.specs.declared.checking.CheckRefusal.{CheckRefusal}
use Rattle.receipt_check.specs.declared.checking.Checked.{Checked}
use Rattle.command_line.specs.Lines.{document_line}
use Rattle.volume_commands.specs.Ports.{KeepsSink, Ports, TellsFromMemory}
use Rattle.volume_commands.specs.Taking.{AreBytesUpTo, BodyFails, refusal_of_body_fault}
use Rattle.volume_commands.specs.declared.body.BodyFault.{BodyFault}
use Rattle.volume_commands.specs.declared.body.TheConstants.{MAX_RECEIPT_BYTES}

-- the line that tells of the document that a receipt showed: its slot, its identifier, and how many bytes its body has
abbrev pub kept_line : Receipt → Checked → List ℕ
kept_line r done = codes "kept " ++ document_line done.slot r.identifier done.bytes

-- what the check answered, as a command does
abbrev pub answer_of : Result Checked CheckRefusal → Result Checked Refusal
answer_of (Ok done) = Ok done
answer_of (Err refusal) = Err (refusal_of_check refusal)

-- What the command does, by how far it comes. The device is asked for how many cells it has, and else left alone,
-- before a receipt is read.
pub data DoesCheck (old new : Ports) (result : Result Unit Refusal) : Type 0 where
  -- no text is taken
  untaken : (given : List ℕ) (fault : BodyFault) → Gives old.source.left new.source.left given
      → BodyFails MAX_RECEIPT_BYTES given old.source new.source fault → result ≡ Err (refusal_of_body_fault fault)
      → new.device ≡ old.device → KeepsSink old new → DoesCheck old new result
  -- the text is no receipt of such a device, or no memory was to be had to read it
  unread : (text : List ℕ) (fault : ReceiptFault) → AreBytesUpTo MAX_RECEIPT_BYTES text
      → Gives old.source.left new.source.left text → IsAtEnd new.source.left
      → ReadReceiptEnds old.device.cells text (Err fault) → result ≡ Err (refusal_of_receipt fault)
      → new.device ≡ old.device → KeepsSink old new → DoesCheck old new result
  -- The text that the source gives up to its end is the receipt's. It is checked, as the engine says, and its answer is
  -- told. The line is made before its first byte goes out.
  checked : (r : Receipt) (answer : Result Checked CheckRefusal) → IsReceiptOn old.device.cells r
      → AreBytesUpTo MAX_RECEIPT_BYTES (text_of_receipt r) → Gives old.source.left new.source.left (text_of_receipt r)
      → IsAtEnd new.source.left → ChecksReceipt r old.device new.device answer
      → TellsFromMemory (kept_line r) (answer_of answer) old new result → DoesCheck old new result

-- All is as the command wants it: the source holds the text of a receipt whose cells show a document and stand on the
-- device, and no call fails.
pub record IsReadyToCheck (r : Receipt) (body : List ℕ) (old new : Ports) : Type 0 where
  pub is_receipt : IsReceiptOn old.device.cells r
  pub shows : ShowsDocument old.device.cells r body
  pub tells : IsTrue old.device.tells
  pub stand : Extends (listed_image r.cells) old.device.image
  pub source : old.source.left ≡ Some (text_of_receipt r)
  pub no_device_fault : IsStill old.device.faults new.device.faults
  pub no_source_fault : IsStill old.source.faults new.source.faults
  pub no_sink_fault : IsStill old.sink.faults new.sink.faults
