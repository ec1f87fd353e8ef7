-- What planning the index of a document says of it.
use Rattle.std.specs.Prelude.{◌≡◌, ◌≤◌, ◌+◌, ◌*◌, ◌⊎◌, ℕ, List, length, Option, Some, None, Result, Ok, Err, IsTrue, nat_lt, if◌then◌else◌, ⊤}
use Rattle.sha2.specs.Sha256.{sha256}
use Rattle.cell_types.specs.Image.{Image, Extends, IsUnchanged}
use Rattle.cell_types.specs.Layout.{Layout}
use Rattle.cell_types.specs.declared.refusal.Evidence.{Evidence}
use Rattle.cell_types.specs.declared.refusal.Refusal.{Refusal}
use Rattle.cell_types.specs.declared.refusal.Refusal.TheVariants.{DeviceFault, NoMemory, Tampered, TooManyTerms}
use Rattle.volume_meaning.specs.Documents.{Stands}
use Rattle.volume_meaning.specs.Slots.{IsEdge, IsHorizon, IsStampOf}
use Rattle.volume_meaning.specs.Volumes.{IsVolume}
use Rattle.volume_meaning.specs.Keeping.{IsKept, sought_in}
use Rattle.volume_meaning.specs.Postings.{ArePostings, HasPostings, ListedPosting}
use Rattle.tamper_rules.specs.Rules.{IsBroken, IsPlaceOf}
use Rattle.tamper_rules.specs.declared.numbers.TheConstants.{BLOCK_OUT_OF_ORDER, FAKE_POSTING, LOST_POINTER, LOST_CHILD}
use Rattle.term_tags.specs.Listing.{GetsTooMany}
use Rattle.worm_device.specs.Calls.{Called}
use Rattle.worm_device.specs.Counts.{IsStill, Rose}
use Rattle.worm_device.specs.Overlays.{over}
use Rattle.worm_device.specs.State.{DeviceState}
use Rattle.jump_insertion.specs.Evidence.{IsPastStamps}
use Rattle.hash_tree.specs.Levels.{IsLedWithin}
use Rattle.hash_tree.specs.declared.level.Level.{Level}
use Rattle.hash_tree.specs.declared.path.Open.{Open}
use Rattle.hash_tree.specs.Readiness.{PassedDown, blank_of, cost_of}
use Rattle.ingest_plan.specs.Granting.{GivesWhatIsLedTo}
use Rattle.ingest_plan.specs.Indexes.{HoldsIndexRecord}
use Rattle.ingest_plan.specs.Journal.{IsJournal}
use Rattle.ingest_plan.specs.Standing.{HasKeysBetween, IndexStands, ListsStand}
use Rattle.ingest_plan.specs.declared.place.IndexPlace.{IndexPlace}
use Rattle.ingest_plan.specs.declared.plan.PlannedIndex.{PlannedIndex}

-- The journal copies index cells alone, which lie from the first list on and before this cell.
pub record IsJournalBefore (g : Layout) (to : ℕ) (planned : Image) (journal : List (List ℕ)) : Type 0 where
  pub is : IsJournal planned journal
  pub index : (cell : ℕ) (value : List ℕ) → planned cell ≡ Some value → HoldsIndexRecord g cell value
  pub before : (cell : ℕ) → to ≤ cell → planned cell ≡ None

-- the stamp that is given, if one is, is past those of the done slots below n
abbrev pub IsLater : Layout → Image → ℕ → Option ℕ → Type 0
IsLater g image n None = ⊤
IsLater g image n (Some seconds) = IsPastStamps g image n seconds

-- Once each planned cell stands, the document that stands in slot n, with this stamp, is kept, whatever else is written: each
-- of its postings has a trail, and the slot has a hash trail, where the path of its identifier is passed down to the place.
abbrev pub KeepsDocument : Layout → ℕ → Option ℕ → List ℕ → Level → Open → ℕ → Image → Image → Type 0
KeepsDocument g n stamp body level place to below planned =
    (id : List ℕ) (image : Image) → sha256 id ≡ level.digest → Extends below image → Extends planned image
    → to ≤ g.cells → Stands g.cells image n id body → IsStampOf g image n stamp
    → PassedDown g image (sought_in g.cells g id) level place.child
    → IsKept g.cells image g (record { slot = n; id = id; body = body })

-- an image up to a cell: from there on it is blank
abbrev pub cut_at : ℕ → Image → Image
cut_at edge image = λ cell. if nat_lt cell edge then image cell else None

-- planned cells over an image
abbrev pub laid_over : Image → Image → Image
laid_over planned image = λ cell. over (planned cell) (image cell)

-- Planned over this image, the index stands as it should, with keys below these bounds, at the cost that its postings and
-- its bucket must have: as many cells as the journal has, and as its new blocks and its new node do.
pub record StandsAtCost (g : Layout) (n edge : ℕ) (behind : ℕ → ℕ) (rows : List ListedPosting) (level : Level)
    (place : Open) (p : PlannedIndex) (image planned : Image) : Type 0 where
  pub stands : IndexStands g n behind rows level place edge (edge + p.block_length) image (laid_over planned image)
  pub cost : length p.journal.items + p.block_length ≡ stands.lists.cost + cost_of place

-- The index of a body is planned, in slot n, with this stamp, and its blocks from the edge on: each of them is led to by a
-- planned cell.
-- On each image a posting takes 1 to 258 cells, and the bucket 1 to 34.
-- Where the place was blank, no planned cell was written before the edge. Where nobody else wrote, and all lists stood as
-- they should up to the edge, with keys below bounds that the postings' keys are past, the whole index does, with keys
-- below any bounds behind the postings', at the cost that it must have.
pub record IsPlanned (g : Layout) (n edge : ℕ) (level : Level) (place : Open) (stamp : Option ℕ) (body : List ℕ)
    (p : PlannedIndex) (old new : DeviceState) : Type 0 where
  pub rows : List ListedPosting
  pub are : ArePostings g stamp body n rows
  pub few : length rows ≤ 256 * g.lists + 1
  pub least : length rows + 1 ≤ length p.journal.items
  pub most : length p.journal.items + p.block_length ≤ 258 * length rows + 34
  pub planned : Image
  pub journal : IsJournalBefore g (edge + p.block_length) planned p.journal.items
  pub grants : GivesWhatIsLedTo planned edge (edge + p.block_length)
  pub keeps : IsTrue old.tells → KeepsDocument g n stamp body level place (edge + p.block_length) new.image
      planned
  pub blank : IsTrue old.tells → cut_at edge old.image (blank_of place) ≡ None → (cell : ℕ) (value : List ℕ)
      → planned cell ≡ Some value → cut_at edge old.image cell ≡ None
  pub stands : IsTrue old.tells → IsStill old.foreign_writes new.foreign_writes
      → (bound behind : ℕ → ℕ) → HasKeysBetween rows bound behind → ListsStand g (cut_at edge old.image) edge bound
      → StandsAtCost g n edge behind rows level place p (cut_at edge old.image) planned

-- the rules that planning names: those of a block's cells, of its postings and of its pointers, and that of child cells
abbrev pub IsGrowthRule : ℕ → Type 0
IsGrowthRule number =
    (number ≡ BLOCK_OUT_OF_ORDER) ⊎ (number ≡ FAKE_POSTING) ⊎ (number ≡ LOST_POINTER) ⊎ (number ≡ LOST_CHILD)

-- The licence of evidence. No list gets too many tags of the body, and the evidence stands on the device. Where the child
-- cell that led to the level is one of a node, it is at a place of its rule; and where besides nobody else wrote in the
-- call, cell 0 states this volume, the slot and the edge are a horizon and an edge of the image, and the stamp is past
-- those of the done slots, the rule is broken there.
pub record PlanNamesCell (g : Layout) (n edge : ℕ) (level : Level) (stamp : Option ℕ) (body : List ℕ)
    (old new : DeviceState) (e : Evidence) : Type 0 where
  pub postings : HasPostings g body
  pub rule : IsGrowthRule e.rule
  pub stands : new.image e.cell ≡ Some e.found
  pub place : IsLedWithin g new.image level.led_by → IsPlaceOf g e.rule e.cell
  pub broken : IsLedWithin g new.image level.led_by → IsStill old.foreign_writes new.foreign_writes
      → IsVolume new.cells new.image g → IsHorizon g new.image new.image n → IsLater g new.image n stamp
      → IsEdge g new.image new.image edge → IsBroken new.cells new.image e.rule e.cell

-- how planning may end, and why
abbrev pub PlanEnds
    : Layout → ℕ → ℕ → Level → Open → Option ℕ → List ℕ → DeviceState → DeviceState → Result PlannedIndex Refusal → Type 0
PlanEnds g n edge level place stamp body old new (Ok p) = IsPlanned g n edge level place stamp body p old new
PlanEnds g n edge level place stamp body old new (Err (TooManyTerms list count)) =
    GetsTooMany g body list count × (new ≡ old)
PlanEnds g n edge level place stamp body old new (Err (Tampered e)) =
    IsTrue old.tells → PlanNamesCell g n edge level stamp body old new e
PlanEnds g n edge level place stamp body old new (Err DeviceFault) = Rose old.faults new.faults
PlanEnds g n edge level place stamp body old new (Err NoMemory) = ⊤
PlanEnds g n edge level place stamp body old new (Err refusal) = ⊥

-- What planning does: it reads alone, so that where nobody else wrote the device stands as it did.
pub record PlansIndex (g : Layout) (index : IndexPlace) (stamp : Option ℕ) (body : List ℕ) (old new : DeviceState)
    (result : Result PlannedIndex Refusal) : Type 0 where
  pub called : Called old new
  pub quiet : IsStill old.foreign_writes new.foreign_writes → IsUnchanged old.image new.image
  pub ends : PlanEnds g index.slot index.edge index.end.level index.end.place stamp body old new result
