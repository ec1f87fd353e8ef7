-- How the check of a receipt may end, and why.
use Rattle.std.specs.Prelude.{◌≡◌, ◌≢◌, ◌<◌, ℕ, List, [], ◌∷◌, length, Some, Result, Ok, Err, IsTrue}
use Rattle.cell_types.specs.Image.{Extends, IsUnchanged}
use Rattle.cell_types.specs.declared.refusal.Refusal.{Refusal}
use Rattle.cell_types.specs.declared.refusal.Refusal.TheVariants as refusals
use Rattle.volume_meaning.specs.Keeping.{Kept}
use Rattle.worm_device.specs.Calls.{Called}
use Rattle.worm_device.specs.Counts.{IsStill, Rose}
use Rattle.worm_device.specs.State.{DeviceState}
use Rattle.kept_documents.specs.Kept.{document_of}
use Rattle.receipt_text.specs.Listed.{listed_image}
use Rattle.receipt_text.specs.declared.receipt.Receipt.{Receipt}
use Rattle.receipt_check.specs.declared.checking.CheckRefusal.{CheckRefusal}
use Rattle.receipt_check.specs.declared.checking.CheckRefusal.TheVariants.{CellDiffers, DeviceFault, NoMemory, NotShown}
use Rattle.receipt_check.specs.declared.checking.Checked.{Checked}

-- On a device of so many cells the receipt's cells alone keep a document with this body. It is a fact of the receipt, over
-- devices that don't tell what stands in them, too.
abbrev pub ShowsDocument : ℕ → Receipt → List ℕ → Type 0
ShowsDocument cells r body = Kept cells (listed_image r.cells) (document_of r.slot r.identifier body ∷ [])

-- Cell c is listed with a value that does not stand there, and each listed cell below it stands.
pub record IsFirstCellToDiffer (listed : List (ℕ × List ℕ)) (device : DeviceState) (c : ℕ) : Type 0 where
  pub value : List ℕ
  pub is : listed_image listed c ≡ Some value
  pub differs : device.image c ≢ Some value
  pub least : (q : ℕ) (other : List ℕ) → q < c → listed_image listed q ≡ Some other → device.image q ≡ Some other

-- how comparing the listed cells with the device may end
abbrev pub ListedEnds : List (ℕ × List ℕ) → DeviceState → DeviceState → Result Unit CheckRefusal → Type 0
ListedEnds listed old new (Ok u) = IsTrue old.tells → Extends (listed_image listed) new.image
ListedEnds listed old new (Err (CellDiffers c)) = IsTrue old.tells → IsFirstCellToDiffer listed new c
ListedEnds listed old new (Err DeviceFault) = Rose old.faults new.faults
ListedEnds listed old new (Err (NoMemory lack)) = ⊥
ListedEnds listed old new (Err (NotShown n)) = ⊥

-- comparing writes nothing
pub record ComparesListed (listed : List (ℕ × List ℕ)) (old new : DeviceState) (result : Result Unit CheckRefusal) : Type 0
  where
    pub called : Called old new
    pub only : IsStill old.foreign_writes new.foreign_writes → IsUnchanged old.image new.image
    pub ends : ListedEnds listed old new result

-- the listed cells below the next one stand, and nothing was written
pub record ComparedSoFar (listed : List (ℕ × List ℕ)) (next : ℕ) (old now : DeviceState) : Type 0 where
  pub called : Called old now
  pub only : IsStill old.foreign_writes now.foreign_writes → IsUnchanged old.image now.image
  pub stand : IsTrue old.tells → (q : ℕ) (value : List ℕ) → q < next → listed_image listed q ≡ Some value
      → now.image q ≡ Some value

-- A receipt was accepted: its cells show a document with a body of so many bytes. They stand on the device, so the
-- document is kept there too, and in each image that extends this one.
pub record IsAccepted (r : Receipt) (old new : DeviceState) (done : Checked) : Type 0 where
  pub slot : done.slot ≡ r.slot
  pub body : List ℕ
  pub bytes : done.bytes ≡ length body
  pub shows : ShowsDocument old.cells r body
  pub stand : IsTrue old.tells → Extends (listed_image r.cells) new.image
  pub kept : IsTrue old.tells → Kept new.cells new.image (document_of r.slot r.identifier body ∷ [])

-- How a check may end, and why. Memory is wanted once all listed cells were found to stand, so its want hides no other cell.
abbrev pub CheckAnswer : Receipt → DeviceState → DeviceState → Result Checked CheckRefusal → Type 0
CheckAnswer r old new (Ok done) = IsAccepted r old new done
CheckAnswer r old new (Err (CellDiffers c)) = IsTrue old.tells → IsFirstCellToDiffer r.cells new c
CheckAnswer r old new (Err (NotShown n)) =
    (n ≡ r.slot) × ((body : List ℕ) → ShowsDocument old.cells r body → ⊥)
    × (IsTrue old.tells → Extends (listed_image r.cells) new.image)
CheckAnswer r old new (Err DeviceFault) = Rose old.faults new.faults
CheckAnswer r old new (Err (NoMemory lack)) = IsTrue old.tells → Extends (listed_image r.cells) new.image

-- A check writes nothing: where nobody else writes, the same stands in each cell at its exit.
pub record ChecksReceipt (r : Receipt) (old new : DeviceState) (result : Result Checked CheckRefusal) : Type 0 where
  pub called : Called old new
  pub only : IsStill old.foreign_writes new.foreign_writes → IsUnchanged old.image new.image
  pub ends : CheckAnswer r old new result

-- what a receipt that is not accepted is to a command
abbrev pub refusal_of_check : CheckRefusal → Refusal
refusal_of_check (CellDiffers c) = refusals.CellDiffers c
refusal_of_check (NotShown n) = refusals.NotShown n
refusal_of_check DeviceFault = refusals.DeviceFault
refusal_of_check (NoMemory lack) = refusals.NoMemory
