-- What it means that the cells of a slot's document, and those of a hash path, are listed.
use Rattle.std.specs.Prelude.{◌≡◌, ◌⊎◌, ℕ, List, Option, Some, None, Result, Ok, Err, IsTrue, ⊤}
use Rattle.sha2.specs.Sha256.{sha256}
use Rattle.cell_types.specs.Layout.{Layout, TakesStamps, root_at}
use Rattle.cell_types.specs.declared.record_cell.RecordCell.TheVariants as records
use Rattle.cell_types.specs.declared.refusal.Fault.{Fault}
use Rattle.cell_types.specs.declared.refusal.Fault.TheVariants as faults
use Rattle.volume_meaning.specs.Documents.{Stands}
use Rattle.volume_meaning.specs.HashPaths.{HashTrail, fingerprint_of}
use Rattle.volume_meaning.specs.Keeping.{sought_in}
use Rattle.volume_meaning.specs.Volumes.{Holds, IsVolume}
use Rattle.volume_meaning.specs.declared.held_bucket.HeldBucket.{HeldBucket}
use Rattle.worm_device.specs.Counts.{Rose}
use Rattle.worm_device.specs.Views.{ViewState, Viewed}
use Rattle.kept_documents.specs.declared.fault.AskFault.{AskFault}
use Rattle.kept_documents.specs.declared.fault.AskFault.TheVariants.{NoMemory, ReadFault}
use Rattle.receipt_cells.specs.Needed.{ListsJust, PathRests, SlotRests}

-- why a listing is given up; want of memory is free
abbrev pub ListFails : ViewState → ViewState → AskFault → Type 0
ListFails old new ReadFault = Rose old.base.faults new.base.faults
ListFails old new (NoMemory lack) = ⊤

-- a fault of a look gives the listing up where a read failed, and else ends it
abbrev pub IsUnlisted : Fault → Result Unit AskFault → Type 0
IsUnlisted faults.Failed result = result ≡ Err ReadFault
IsUnlisted (faults.Tampered e) result = result ≡ Ok tt

-- so many of a done slot's cells are log cells: four where documents are stamped, and else three
abbrev pub AreLogCells : Layout → ℕ → Type 0
AreLogCells g count = (TakesStamps g × (count ≡ 4)) ⊎ ((TakesStamps g → ⊥) × (count ≡ 3))

-- Where a document stood in slot n at entry, just the cells of the slot are listed.
abbrev pub SlotListEnds : Layout → ℕ → ViewState → ViewState → List (ℕ × List ℕ) → List (ℕ × List ℕ)
    → Result Unit AskFault → Type 0
SlotListEnds g n old new listed later (Ok u) =
    IsTrue old.base.tells → IsVolume old.cells old.image g → (id body : List ℕ) → Stands old.cells old.image n id body
    → ListsJust (SlotRests g new.image n) new.image listed later
SlotListEnds g n old new listed later (Err why) = ListFails old new why

pub record ListsSlot (g : Layout) (n : ℕ) (old new : ViewState) (listed later : List (ℕ × List ℕ))
    (result : Result Unit AskFault) : Type 0 where
  pub viewed : Viewed old new
  pub ends : SlotListEnds g n old new listed later result

-- cell c is one of the slot of a bucket with the digest's fingerprint
abbrev pub IsOfMate : Layout → ViewState → List ℕ → HeldBucket → ℕ → Type 0
IsOfMate g s digest b c = (b.fingerprint ≡ fingerprint_of digest) × SlotRests g s.image b.slot c

-- Where the bucket has the digest's fingerprint and a document stood in its slot at entry, or has another, just the
-- cells of that slot are listed, if it has it.
abbrev pub MateListEnds : Layout → List ℕ → HeldBucket → ViewState → ViewState → List (ℕ × List ℕ)
    → List (ℕ × List ℕ) → Result Unit AskFault → Type 0
MateListEnds g digest b old new listed later (Ok u) =
    IsTrue old.base.tells → IsVolume old.cells old.image g
    → (b.fingerprint ≡ fingerprint_of digest
    → (id : List ℕ) × (body : List ℕ) × Stands old.cells old.image b.slot id body)
    → ListsJust (IsOfMate g new digest b) new.image listed later
MateListEnds g digest b old new listed later (Err why) = ListFails old new why

pub record ListsMate (g : Layout) (digest : List ℕ) (b : HeldBucket) (old new : ViewState)
    (listed later : List (ℕ × List ℕ)) (result : Result Unit AskFault) : Type 0 where
  pub viewed : Viewed old new
  pub ends : MateListEnds g digest b old new listed later result

-- the bucket that stands at exit, whose cell alone is listed; or that none stood at entry
abbrev pub BucketListEnds : ℕ → ViewState → ViewState → List (ℕ × List ℕ) → List (ℕ × List ℕ)
    → Result (Option HeldBucket) AskFault → Type 0
BucketListEnds at old new listed later (Ok (Some b)) =
    IsTrue old.base.tells
    → Holds new.image at (records.Bucket b.slot b.fingerprint) × ListsJust (λ c. c ≡ at) new.image listed later
BucketListEnds at old new listed later (Ok None) =
    IsTrue old.base.tells → (slot : ℕ) (fingerprint : List ℕ) → Holds old.image at (records.Bucket slot fingerprint) → ⊥
BucketListEnds at old new listed later (Err why) = ListFails old new why

pub record ListsBucket (at : ℕ) (old new : ViewState) (listed later : List (ℕ × List ℕ))
    (result : Result (Option HeldBucket) AskFault) : Type 0 where
  pub viewed : Viewed old new
  pub ends : BucketListEnds at old new listed later result

-- the same of a child cell
abbrev pub ChildListEnds : ℕ → ViewState → ViewState → List (ℕ × List ℕ) → List (ℕ × List ℕ)
    → Result (Option ℕ) AskFault → Type 0
ChildListEnds at old new listed later (Ok (Some target)) =
    IsTrue old.base.tells
    → Holds new.image at (records.Child target) × ListsJust (λ c. c ≡ at) new.image listed later
ChildListEnds at old new listed later (Ok None) =
    IsTrue old.base.tells → (target : ℕ) → Holds old.image at (records.Child target) → ⊥
ChildListEnds at old new listed later (Err why) = ListFails old new why

pub record ListsChild (at : ℕ) (old new : ViewState) (listed later : List (ℕ × List ℕ))
    (result : Result (Option ℕ) AskFault) : Type 0 where
  pub viewed : Viewed old new
  pub ends : ChildListEnds at old new listed later result

-- Where slot n stood with the identifier at entry, and had a hash trail from the node of this level, just the cells of
-- the path from there on are listed.
abbrev pub PathListEnds : Layout → ℕ → List ℕ → ℕ → ℕ → ViewState → ViewState → List (ℕ × List ℕ)
    → List (ℕ × List ℕ) → Result Unit AskFault → Type 0
PathListEnds g n id node level old new listed later (Ok u) =
    IsTrue old.base.tells → IsVolume old.cells old.image g → (body : List ℕ) → Stands old.cells old.image n id body
    → HashTrail old.image (sought_in old.cells g id) n node level
    → ListsJust (λ c. PathRests g new.image (sought_in new.cells g id) c node level) new.image listed later
PathListEnds g n id node level old new listed later (Err why) = ListFails old new why

pub record ListsPathFrom (g : Layout) (n : ℕ) (id : List ℕ) (node level : ℕ) (old new : ViewState)
    (listed later : List (ℕ × List ℕ)) (result : Result Unit AskFault) : Type 0 where
  pub viewed : Viewed old new
  pub ends : PathListEnds g n id node level old new listed later result

-- the same of each identifier with this digest
pub record ListsDown (g : Layout) (n : ℕ) (digest : List ℕ) (node level : ℕ) (old new : ViewState)
    (listed later : List (ℕ × List ℕ)) (result : Result Unit AskFault) : Type 0 where
  pub viewed : Viewed old new
  pub ends : (id : List ℕ) → digest ≡ sha256 id → PathListEnds g n id node level old new listed later result

-- the same from the root
abbrev pub ListsPath : Layout → ℕ → List ℕ → ViewState → ViewState → List (ℕ × List ℕ) → List (ℕ × List ℕ)
    → Result Unit AskFault → Type 0
ListsPath g n id old new listed later result = ListsPathFrom g n id (root_at g) 0 old new listed later result
