-- What is planned for a document on a settled volume, and that it is well made.
use Rattle.std.specs.Prelude.{◌≡◌, ◌<◌, ◌≤◌, ◌+◌, ◌^◌, ℕ, List, length, Option, Some, None, IsTrue}
use Rattle.sha2.specs.Sha256.{sha256}
use Rattle.cell_types.specs.Image.{Image, Extends, IsUnchanged}
use Rattle.cell_types.specs.Layout.{Layout, IsLayout}
use Rattle.volume_meaning.specs.Documents.{IsBody, IsIdentifier, Stands, stored_bytes}
use Rattle.volume_meaning.specs.Slots.{EndsBelow, IsHorizon, IsStampFor, IsStampOf, cells_for}
use Rattle.volume_meaning.specs.Volumes.{IsVolume}
use Rattle.volume_meaning.specs.Keeping.{IsKept, sought_in}
use Rattle.volume_meaning.specs.Postings.{ArePostings, ListedPosting}
use Rattle.tamper_rules.specs.Settling.{IsSettled, IsWith}
use Rattle.ingest_laws.specs.Filling.{IsWellPlanned}
use Rattle.ingest_laws.specs.Ingesting.{Plan, stored_of}
use Rattle.ingest_laws.specs.Needs.{IsNeed}
use Rattle.worm_device.specs.Counts.{IsStill}
use Rattle.worm_device.specs.State.{DeviceState}
use Rattle.hash_tree.specs.declared.level.Level.{Level}
use Rattle.hash_tree.specs.declared.path.Open.{Open}
use Rattle.hash_tree.specs.Readiness.{PassedDown}
use Rattle.ingest_plan.specs.Granting.{GivesWhatIsLedTo}
use Rattle.ingest_plan.specs.Indexes.{HoldsIndexRecord}
use Rattle.ingest_plan.specs.Journal.{IsJournal}
use Rattle.ingest_plan.specs.Standing.{IndexStands}
use Rattle.plan_laws.specs.Standing.{EndsPath, below_slot, seconds_of}
use Rattle.ingest_plan.specs.Planning.{IsLater, IsPlanned}
use Rattle.ingest_plan.specs.declared.plan.PlannedIndex.{PlannedIndex}

-- The plan takes the slot at the horizon of a settled volume, and the cells from the edge on: blocks up to this one,
-- and the cells of its document and its journal. It has a stamp exactly where documents are stamped, which is past
-- those of the done slots. No slot stands with its identifier.
pub record TakesSlot (g : Layout) (old : Image) (p : Plan) (to : ℕ) : Type 0 where
  pub layout : IsLayout g
  pub volume : IsVolume g.cells old g
  pub settled : IsSettled g old
  pub horizon : IsHorizon g old old p.slot
  pub slot : p.slot < g.slots
  pub begins : EndsBelow g old p.slot p.start
  pub room : p.start + p.reserved ≡ to + cells_for (length (stored_of p)) + length p.journal
  pub inside : p.start + p.reserved ≤ g.cells
  pub stamp : IsStampFor g p.stamp
  pub later : IsLater g old p.slot p.stamp
  pub seconds : seconds_of p.stamp < 2 ^ 32
  pub identifier : IsIdentifier p.id
  pub body : IsBody p.body
  pub absent : (m : ℕ) (other : List ℕ) → Stands g.cells old m p.id other → ⊥

-- The index of the plan's document is planned, and laid is the old image with its cells: index cells that were blank,
-- which the plan's journal copies. Its postings and its bucket go where lists and path ask for them; each new block and
-- node is led to by a planned cell; and once these cells stand, the document is kept where it stands.
pub record IsPlannedIndex (g : Layout) (old laid : Image) (p : Plan) (rows : List ListedPosting) (level : Level)
    (place : Open) (to : ℕ) (planned : Image) : Type 0 where
  pub takes : TakesSlot g old p to
  pub rows_are : ArePostings g p.stamp p.body p.slot rows
  pub ends : EndsPath g old level place
  pub digest : level.digest ≡ sha256 p.id
  pub passed : PassedDown g old (sought_in g.cells g p.id) level place.child
  pub journal : IsJournal planned p.journal
  pub index : (cell : ℕ) (value : List ℕ) → planned cell ≡ Some value → HoldsIndexRecord g cell value
  pub before : (cell : ℕ) → to ≤ cell → planned cell ≡ None
  pub blank : (cell : ℕ) (value : List ℕ) → planned cell ≡ Some value → old cell ≡ None
  pub grants : GivesWhatIsLedTo planned p.start to
  pub laid_is : IsWith (λ cell value. planned cell ≡ Some value) old laid
  pub stands : IndexStands g p.slot (below_slot g (p.slot + 1) (seconds_of p.stamp + 1)) rows level place p.start to old
      laid
  pub keeps : (image : Image) → Extends old image → Extends planned image → Stands g.cells image p.slot p.id p.body
      → IsStampOf g image p.slot p.stamp
      → IsKept g.cells image g (record { slot = p.slot; id = p.id; body = p.body })

-- so the plan is well made: with its cells the old image becomes one of which `ingest_laws` has its laws
abbrev pub PlanIsWell : Type 0
PlanIsWell =
    (g : Layout) (old laid : Image) (p : Plan) (rows : List ListedPosting) (level : Level) (place : Open) (to : ℕ)
    (planned : Image)
    → IsPlannedIndex g old laid p rows level place to planned → (new : Image) × IsWellPlanned g old new p

-- And so is what planning answers, where nobody else wrote meanwhile: the plan of its journal, which takes the cells of
-- its new blocks and its new node, of the document, and of the journal.
abbrev pub AnswerIsWell : Type 0
AnswerIsWell =
    (g : Layout) (p : Plan) (level : Level) (place : Open) (made : PlannedIndex) (old new : DeviceState)
    → IsTrue old.tells → IsStill old.foreign_writes new.foreign_writes → IsUnchanged old.image new.image
    → TakesSlot g old.image p (p.start + made.block_length) → p.journal ≡ made.journal.items
    → EndsPath g old.image level place → level.digest ≡ sha256 p.id
    → PassedDown g old.image (sought_in g.cells g p.id) level place.child
    → IsPlanned g p.slot p.start level place p.stamp p.body made old new
    → (after : Image) × IsWellPlanned g old.image after p

-- What a document takes with the index that was planned for it on a settled volume, where nobody else wrote meanwhile,
-- is exactly its need: the cells of the document and of the journal, the new blocks and the new node. It is so also
-- where the device has no room for them.
abbrev pub AnswerIsNeed : Type 0
AnswerIsNeed =
    (g : Layout) (n edge : ℕ) (stamp : Option ℕ) (id body : List ℕ) (level : Level) (place : Open)
    (made : PlannedIndex) (old new : DeviceState)
    → IsTrue old.tells → IsStill old.foreign_writes new.foreign_writes → IsLayout g → IsSettled g old.image
    → IsHorizon g old.image old.image n → n < g.slots → EndsBelow g old.image n edge → IsStampFor g stamp
    → IsLater g old.image n stamp
    → EndsPath g old.image level place → level.digest ≡ sha256 id
    → PassedDown g old.image (sought_in g.cells g id) level place.child
    → IsPlanned g n edge level place stamp body made old new
    → IsNeed g old.image n id body stamp
    (cells_for (length (stored_bytes id body)) + length made.journal.items + made.block_length)
