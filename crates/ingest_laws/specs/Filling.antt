-- A plan whose cells are all written.
use Rattle.std.specs.Prelude.{◌≡◌, ◌<◌, ◌≤◌, ◌+◌, ◌^◌, ◌⊎◌, ℕ, List, [], ◌∷◌, ◌++◌, length, slice_get, Some, None}
use Rattle.sha2.specs.Sha256.{sha256}
use Rattle.cell_types.specs.Image.{Image}
use Rattle.cell_types.specs.Layout.{Layout, outcome_at, done_at, all_lists, list_at, root_at, pool_at}
use Rattle.cell_types.specs.Records.{IsRecordCell}
use Rattle.cell_types.specs.declared.record_cell.RecordCell.{RecordCell}
use Rattle.cell_types.specs.declared.record_cell.RecordCell.TheVariants.{Commit, Done, Bucket, Child}
use Rattle.volume_meaning.specs.Blocks.{PostingFields, posting_record, Trail}
use Rattle.volume_meaning.specs.Documents.{Document, AreDocuments, IsIdentifier, IsBody, Stands, document_at}
use Rattle.volume_meaning.specs.HashPaths.{HashTrail, fingerprint_of, nibble}
use Rattle.volume_meaning.specs.Keeping.{sought_in}
use Rattle.ingest_laws.specs.ListShapes.{IsWellListed}
use Rattle.volume_meaning.specs.Nodes.{IsBlockOf, IsNode, IsOnPath, AreApart}
use Rattle.ingest_laws.specs.TreeShapes.{IsWellRooted}
use Rattle.volume_meaning.specs.Postings.{IsPostingOf, HasPostings}
use Rattle.ingest_laws.specs.Ingesting.{Plan, Phase, stored_of, AnyRow, IsLeftIn, LeavesSound}
use Rattle.tamper_rules.specs.Journals.{IsIndexRecord, IsIndexCell, LiesInBlocks}
use Rattle.tamper_rules.specs.Rules.{TilingRule}
use Rattle.tamper_rules.specs.Settling.{IsSettled, IsWith}
use Rattle.volume_meaning.specs.Slots.{cells_for, Reserves, IsDoneSlot, IsHorizon, EndsBelow, HasStamp, IsStampOf}
use Rattle.volume_meaning.specs.Volumes.{Holds, IsWritten, IsVolume}

-- where a plan's block part ends and its document begins
abbrev pub blocks_end : Plan → ℕ
blocks_end p = document_at p.start p.reserved (length (stored_of p)) (length p.journal)

-- this place of a plan's journal copies this index cell
pub record IsCopyInPlan (p : Plan) (place target : ℕ) (copied : RecordCell) : Type 0 where
  pub value : List ℕ
  pub entry : slice_get p.journal place ≡ Some value
  pub index : IsIndexRecord copied
  pub address : target < 2 ^ 32
  pub is : IsRecordCell copied target value

-- the place is in order: a later target than that before, an index cell of the old image or a cell of the new blocks
pub record IsPlannedCopy (g : Layout) (old : Image) (p : Plan) (place : ℕ) : Type 0 where
  pub target : ℕ
  pub copied : RecordCell
  pub entry : IsCopyInPlan p place target copied
  pub rises : (place ≡ 0) ⊎ ((before : ℕ) × (lower : ℕ) × (other : RecordCell) × (place ≡ before + 1)
      × IsCopyInPlan p before lower other × (lower < target))
  pub before_document : target < blocks_end p
  pub index : IsIndexCell g old p.slot target ⊎ (p.start ≤ target)

-- New is old, which is settled, with the cells of a plan: its slot is at the horizon and its cells begin at the edge,
-- it stores a document, with a stamp past those of the done slots where documents are stamped, and its journal is in
-- order and tiles its blocks.
pub record IsFilled (g : Layout) (old new : Image) (p : Plan) : Type 0 where
  pub volume : IsVolume g.cells old g
  pub before : IsSettled g old
  pub horizon : IsHorizon g old old p.slot
  pub begins : EndsBelow g old p.slot p.start
  pub reserves : Reserves g new p.slot p.start p.reserved
  pub commit : Holds new (outcome_at p.slot) (Commit (length (stored_of p)) (length p.journal))
  pub done : Holds new (done_at p.slot) (Done p.slot)
  pub fits : cells_for (length (stored_of p)) + length p.journal ≤ p.reserved
  pub stamp : IsStampOf g new p.slot p.stamp
  pub rises : (m lower seconds : ℕ) → p.stamp ≡ Some seconds → IsDoneSlot g old m → HasStamp old m lower
      → lower < seconds
  pub rows : IsWith (AnyRow p) old new
  pub is_identifier : IsIdentifier p.id
  pub is_body : IsBody p.body
  pub in_order : (place : ℕ) → place < length p.journal → IsPlannedCopy g old p place
  pub tiles : TilingRule new p.start p.reserved (length (stored_of p)) (length p.journal)

-- A settled image with a filled plan, and what its index shows then.
--
-- The lists keep their shape, with the new blocks as their room; each block of a list is a first block or lies in the
-- block part of one slot; no block meets one of another list, or a node; and a block was one before or is new. What is
-- new in them are the document's postings, each of which has a trail.
-- The tree keeps its shape; a node was one before or is new; a new child cell leads to a new node, and a new bucket is
-- the document's, on its path. The document has a hash trail, and its identifier is new.
pub record IsWellPlanned (g : Layout) (old new : Image) (p : Plan) : Type 0 where
  pub filled : IsFilled g old new p
  pub lists : (l : ℕ) → l < all_lists g → IsWellListed new (pool_at g) (blocks_end p) (list_at g l)
  pub owners : (l block : ℕ) → IsBlockOf g new l block
      → (block ≡ list_at g l) ⊎ ((m : ℕ) × LiesInBlocks g new m block × LiesInBlocks g new m (block + 255))
  pub apart : (l k a b : ℕ) → IsBlockOf g new l a → IsBlockOf g new k b → ((b ≡ a) × (k ≡ l)) ⊎ AreApart a 256 b 256
  pub apart_nodes : (l a v node : ℕ) → IsBlockOf g new l a → IsNode g new v node → AreApart a 256 node 32
  pub blocks : (l block : ℕ) → IsBlockOf g new l block → IsBlockOf g old l block ⊎ (p.start ≤ block)
  pub postings : (l block place : ℕ) (q : PostingFields) → IsBlockOf g new l block → place < 128
      → old (block + place) ≡ None
      → Holds new (block + place) (posting_record q) → IsPostingOf g p.stamp p.body p.slot l q
  pub has_postings : HasPostings g p.body
  pub trails : (l : ℕ) (q : PostingFields) → l < all_lists g → IsPostingOf g p.stamp p.body p.slot l q
      → (at : ℕ) × Trail new (pool_at g) g.cells at q (list_at g l)
  pub tree : IsWellRooted g new (blocks_end p)
  pub nodes : (v node : ℕ) → IsNode g new v node → IsNode g old v node ⊎ (p.start ≤ node)
  pub new_children : (v node x target : ℕ) → IsNode g new v node → x < 16 → old (node + 16 + x) ≡ None
      → Holds new (node + 16 + x) (Child target) → p.start ≤ target
  pub new_buckets : (v node x : ℕ) → IsNode g new v node → x < 16 → old (node + x) ≡ None → IsWritten new (node + x)
      → Holds new (node + x) (Bucket p.slot (fingerprint_of (sha256 p.id)))
      × IsOnPath g new (sha256 p.id) v node × (x ≡ nibble (sha256 p.id) v)
  pub path : HashTrail new (sought_in g.cells g p.id) p.slot (root_at g) 0
  pub absent : (m : ℕ) (other : List ℕ) → Stands g.cells old m p.id other → ⊥

-- a plan keeps a volume settled
abbrev pub PlanIsSettled : Type 0
PlanIsSettled = (g : Layout) (old new : Image) (p : Plan) → IsWellPlanned g old new p
    → IsSettled g new × Stands g.cells new p.slot p.id p.body

-- a plan that is written in phases, and cut short in any of them, leaves a sound volume
abbrev pub PlanLeavesSound : Type 0
PlanLeavesSound =
    (g : Layout) (old new image : Image) (p : Plan) (phase : Phase)
    → IsWellPlanned g old new p → IsLeftIn p old image phase → LeavesSound g.cells old new p.slot image

-- and has the documents that there were, and its own behind them
abbrev pub PlanAddsOne : Type 0
PlanAddsOne =
    (g : Layout) (old new : Image) (p : Plan) (documents : List Document) → IsWellPlanned g old new p
    → AreDocuments g.cells old documents
    → AreDocuments g.cells new (documents ++ record { slot = p.slot; id = p.id; body = p.body } ∷ [])
