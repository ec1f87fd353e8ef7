-- The status that a program ends with after each refusal, and a fault over a device as a refusal.
use Rattle.std.specs.Prelude.{ℕ}
use Rattle.cell_types.specs.declared.refusal.CopyRefusal.{CopyRefusal}
use Rattle.cell_types.specs.declared.refusal.CopyRefusal.TheVariants as copies
use Rattle.cell_types.specs.declared.refusal.Fault.{Fault}
use Rattle.cell_types.specs.declared.refusal.Fault.TheVariants as faults
use Rattle.cell_types.specs.declared.refusal.Refusal.{Refusal}
use Rattle.cell_types.specs.declared.refusal.Refusal.TheVariants.{Usage, Duplicate, BadIdentifier, TooLong, TooManyTerms, BadWord, BadScript, Full, SlotsFull, PathFull, Tampered, DeviceFault, SourceFault, SinkFault, NoMemory, NotFormatted, NotAVolume, WrongSize, NotBlank, TooSmall, Absent, StampNeeded, StampUnused, StampTooEarly, NoStamps, ReceiptTooLong, BadReceipt, CellDiffers, NotShown}

-- 1: the words; 2: the input; 3: no room; 4: tampering; 5, 6, 7: a fault of device, source or sink;
-- 8: memory; 9: the volume; 10: nothing found; 11: a receipt that the device does not bear out
abbrev pub status_of : Refusal → ℕ
status_of Usage = 1
status_of (Duplicate slot) = 2
status_of BadIdentifier = 2
status_of TooLong = 2
status_of (TooManyTerms list count) = 2
status_of (BadWord word) = 2
status_of (BadScript event) = 2
status_of (Full need free) = 3
status_of SlotsFull = 3
status_of PathFull = 3
status_of (Tampered evidence) = 4
status_of DeviceFault = 5
status_of SourceFault = 6
status_of SinkFault = 7
status_of NoMemory = 8
status_of NotFormatted = 9
status_of (NotAVolume found) = 9
status_of (WrongSize stated real) = 9
status_of (NotBlank cell) = 9
status_of TooSmall = 9
status_of Absent = 10
status_of StampNeeded = 2
status_of StampUnused = 2
status_of (StampTooEarly given last) = 2
status_of NoStamps = 9
status_of (ReceiptTooLong cells) = 3
status_of (BadReceipt line) = 2
status_of (CellDiffers cell) = 11
status_of (NotShown slot) = 11

-- that of either volume's refusal where one refuses, and 9 where the two volumes do not fit
abbrev pub status_of_copy : CopyRefusal → ℕ
status_of_copy copies.Usage = 1
status_of_copy copies.NoMemory = 8
status_of_copy copies.SinkFault = 7
status_of_copy (copies.From refusal) = status_of refusal
status_of_copy (copies.To refusal) = status_of refusal
status_of_copy (copies.OtherVolume found) = 9
status_of_copy (copies.Differs old new) = 9
status_of_copy (copies.Longer new) = 9

-- as a command refuses
abbrev pub refusal_of_fault : Fault → Refusal
refusal_of_fault (faults.Tampered evidence) = Tampered evidence
refusal_of_fault faults.Failed = DeviceFault
