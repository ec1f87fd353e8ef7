-- What it means that a receipt is made of the document that a look-up gives, and why none is.
use Rattle.std.specs.Prelude.{◌≡◌, ◌<◌, ◌⊎◌, ℕ, List, [], ◌∷◌, length, Result, Ok, Err, IsTrue, ⊤}
use Rattle.cell_types.specs.Image.{Extends}
use Rattle.cell_types.specs.Layout.{done_at}
use Rattle.cell_types.specs.declared.refusal.Refusal.{Refusal}
use Rattle.cell_types.specs.declared.refusal.Refusal.TheVariants.{Absent, DeviceFault, NoMemory, NotAVolume, NotFormatted, ReceiptTooLong, Tampered, WrongSize}
use Rattle.commit_record.specs.Licences.{IsLicensed}
use Rattle.volume_meaning.specs.Keeping.{Kept}
use Rattle.tamper_rules.specs.Rules.{TrailRule}
use Rattle.tamper_rules.specs.declared.numbers.TheConstants.{MISSING_TRAIL}
use Rattle.worm_device.specs.Calls.{Called}
use Rattle.worm_device.specs.Counts.{IsStill, Rose}
use Rattle.worm_device.specs.State.{DeviceState}
use Rattle.recovery_engine.specs.Settling.{SettleEnds, SettlesFirst}
use Rattle.record_query.specs.LookingUp.{IsAbsent, IsLookUpEvidence, IsLookUpRule, IsLookedUp}
use Rattle.kept_documents.specs.Kept.{document_of}
use Rattle.receipt_text.specs.Form.{IsReceiptOn}
use Rattle.receipt_text.specs.Listed.{AreListed, listed_image}
use Rattle.receipt_text.specs.declared.receipt.Receipt.{Receipt}
use Rattle.receipt_text.specs.declared.receipt.TheConstants.{MAX_RECEIPT_CELLS}
use Rattle.receipt_check.specs.Checks.{ShowsDocument}
use Rattle.receipt_check.specs.Needing.{ListsNeeded}

-- The receipt is of the document that a look-up gives: its cells alone keep this document, and they stand; and they
-- are just those that its being kept rests on.
pub record IsReceiptOf (id : List ℕ) (old new : DeviceState) (r : Receipt) : Type 0 where
  pub identifier : r.identifier ≡ id
  pub listed : AreListed new.cells r.cells
  pub body : List ℕ
  pub first : IsTrue old.tells → IsLookedUp id body r.slot old new
  pub shows : ShowsDocument new.cells r body
  pub stand : IsTrue old.tells → Extends (listed_image r.cells) new.image
  pub needed : IsTrue old.tells → ListsNeeded new.cells new.image (document_of r.slot r.identifier body) r.cells

-- such a receipt has so many cells, which are more than it may have
pub record IsTooLong (id : List ℕ) (old new : DeviceState) (count : ℕ) : Type 0 where
  pub receipt : Receipt
  pub is : IsReceiptOf id old new receipt
  pub counted : length receipt.cells ≡ count
  pub more : MAX_RECEIPT_CELLS < count

-- The cell is the done cell of the slot of the document that a look-up gives. The slot kept no body with the
-- identifier at entry; and where nobody else wrote, the document's postings do not exist, or one of them has no trail.
pub record IsUnkept (id : List ℕ) (old new : DeviceState) (cell : ℕ) : Type 0 where
  pub slot : ℕ
  pub body : List ℕ
  pub first : IsLookedUp id body slot old new
  pub done : cell ≡ done_at slot
  pub before : (other : List ℕ) → Kept old.cells old.image (document_of slot id other ∷ []) → ⊥
  pub alone : IsStill old.foreign_writes new.foreign_writes → TrailRule first.first.layout new.image slot body → ⊥

-- How the making of a receipt may end, and why. Memory is wanted once the document was looked up.
abbrev pub MakeEnds : List ℕ → DeviceState → DeviceState → Result Receipt Refusal → Type 0
MakeEnds id old new (Ok r) = IsReceiptOn new.cells r × IsReceiptOf id old new r
MakeEnds id old new (Err Absent) = IsTrue old.tells → IsAbsent id old new
MakeEnds id old new (Err (Tampered e)) =
    IsTrue old.tells → IsLicensed old new e × (e.rule ≡ MISSING_TRAIL → IsUnkept id old new e.cell)
MakeEnds id old new (Err (ReceiptTooLong count)) = IsTooLong id old new count
MakeEnds id old new (Err DeviceFault) = Rose old.faults new.faults
MakeEnds id old new (Err NoMemory) = IsTrue old.tells → (n : ℕ) × (body : List ℕ) × IsLookedUp id body n old new
MakeEnds id old new (Err NotFormatted) = SettleEnds old new (Err NotFormatted)
MakeEnds id old new (Err (NotAVolume found)) = SettleEnds old new (Err (NotAVolume found))
MakeEnds id old new (Err (WrongSize stated real)) = SettleEnds old new (Err (WrongSize stated real))
MakeEnds id old new (Err refusal) = ⊥

-- the rules that are named: those of a look-up, and that a document's postings have their trails
abbrev pub IsMakingRule : ℕ → Type 0
IsMakingRule number = IsLookUpRule number ⊎ (number ≡ MISSING_TRAIL)

-- where it ends with evidence, this is by one of these rules
abbrev pub NamesMakingRule : DeviceState → Result Receipt Refusal → Type 0
NamesMakingRule old (Ok r) = ⊤
NamesMakingRule old (Err (Tampered e)) = IsTrue old.tells → IsMakingRule e.rule
NamesMakingRule old (Err refusal) = ⊤

-- where it ends with evidence, the look-up named this, as settling or on the identifier's path; or it is by the rule of
-- trails, of which `MakeEnds` says the slot
abbrev pub NamesMakingEvidence : List ℕ → DeviceState → DeviceState → Result Receipt Refusal → Type 0
NamesMakingEvidence id old new (Ok r) = ⊤
NamesMakingEvidence id old new (Err (Tampered e)) =
    IsTrue old.tells → IsLookUpEvidence id old new e ⊎ (e.rule ≡ MISSING_TRAIL)
NamesMakingEvidence id old new (Err refusal) = ⊤

-- what it means that a receipt is made, or that this was ended
pub record MakesReceipt (id : List ℕ) (old new : DeviceState) (result : Result Receipt Refusal) : Type 0 where
  pub called : Called old new
  pub comes : SettlesFirst Receipt old new result
  pub ends : MakeEnds id old new result
  pub rule : NamesMakingRule old result
  pub named : NamesMakingEvidence id old new result
