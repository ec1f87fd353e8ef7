-- The fifteen rules of a volume. Each is said as what holds at a written cell where it is kept; it is broken at a
-- written cell of its place where that does not hold.
use Rattle.std.specs.Prelude.{◌≡◌, ◌≢◌, ◌<◌, ◌≤◌, ◌+◌, ◌/◌, ◌⊎◌, ◌↔◌, ℕ, List, [], ◌∷◌, length, Option, None, Contains}
use Rattle.sha2.specs.Sha256.{sha256}
use Rattle.cell_types.specs.Image.{Image}
use Rattle.cell_types.specs.Layout.{Layout, FirstBlock, Root, LiesIn, TakesStamps, all_lists, reserve_at, outcome_at, done_at, spare_at, list_at, root_at, pool_at, lists_at}
use Rattle.cell_types.specs.declared.record_cell.RecordCell.{RecordCell}
use Rattle.cell_types.specs.declared.refusal.Evidence.{Evidence}
use Rattle.cell_types.specs.declared.record_cell.RecordCell.TheVariants.{Reserve, Commit, Abandon, Done, Jump, Bucket, Child}
use Rattle.volume_meaning.specs.Blocks.{PostingFields, posting_record, InFront, InSpan, pointer_at, Trail}
use Rattle.volume_meaning.specs.Documents.{IsIdentifier, IsBody, Spells, Stands, stored_bytes, document_at}
use Rattle.volume_meaning.specs.HashPaths.{HashTrail, fingerprint_of, nibble}
use Rattle.tamper_rules.specs.Journals.{journal_at, CopiesIndexCell, LiesInBlocks, IsNamed, IsInOrder}
use Rattle.volume_meaning.specs.Keeping.{sought_in}
use Rattle.volume_meaning.specs.Nodes.{IsBlockOf, IsNode, IsOnPath, AreApart}
use Rattle.volume_meaning.specs.Slots.{cells_for, Reserves, Stores, IsCommitted, IsDone, IsDoneSlot, HasEnded, EndsBelow, IsEdge, IsLive, HasStamp, IsStamped, IsStampOf}
use Rattle.tamper_rules.specs.declared.numbers.TheConstants.{RESERVE_CELL, OUTCOME_CELL, DONE_CELL, BROKEN_DOCUMENT, BROKEN_JOURNAL, OTHER_TARGET, STRAY_CELL, BLOCK_OUT_OF_ORDER, FAKE_POSTING, LOST_POINTER, FAKE_BUCKET, LOST_CHILD, MISSING_TRAIL, MISSING_PATH, UNTILED_BLOCKS}
use Rattle.volume_meaning.specs.Volumes.{Holds, IsWritten, IsVolume}
use Rattle.volume_meaning.specs.Postings.{IsPostingOf, HasPostings}

-- Rule 1, at the reserve cell of slot n: it reserves cells of the pool, which begin where those of the slot before
-- end, and for slot 0 where the pool begins; and the slot before is abandoned or done.
pub record ReserveRule (g : Layout) (image : Image) (n : ℕ) : Type 0 where
  pub start : ℕ
  pub length : ℕ
  pub reserves : Reserves g image n start length
  pub begins : EndsBelow g image n start
  pub before : (m : ℕ) → n ≡ m + 1 → HasEnded g image image m

-- Rule 2, at the outcome cell of slot n: the slot's reserve cell is written, and the cell is an abandon cell, or a
-- commit cell of no more cells than the reserve cell states, where this is well-formed; on a volume of stamped
-- documents a slot with a commit cell has a stamp.
pub record OutcomeRule (g : Layout) (image : Image) (n : ℕ) : Type 0 where
  pub reserve : IsWritten image (reserve_at n)
  pub outcome : Holds image (outcome_at n) Abandon
      ⊎ ((bytes : ℕ) × (journal : ℕ) × Holds image (outcome_at n) (Commit bytes journal)
      × ((start reserved : ℕ) → Holds image (reserve_at n) (Reserve start reserved)
      → cells_for bytes + journal ≤ reserved)
      × (TakesStamps g → IsStamped image n))

-- Rule 3, at the done cell of slot n: it is the done cell of this slot, and the outcome cell is a commit cell.
pub record DoneRule (image : Image) (n : ℕ) : Type 0 where
  pub done : Holds image (done_at n) (Done n)
  pub bytes : ℕ
  pub journal : ℕ
  pub commit : Holds image (outcome_at n) (Commit bytes journal)

-- so many stored bytes spell a document here
pub record HasDocument (image : Image) (from bytes : ℕ) : Type 0 where
  pub id : List ℕ
  pub body : List ℕ
  pub count : bytes ≡ length (stored_bytes id body)
  pub spells : Spells image from (stored_bytes id body)
  pub is_identifier : IsIdentifier id
  pub is_body : IsBody body

-- Rule 4, at the commit cell of slot n, where this is committed or done: its cells spell a document.
abbrev pub DocumentRule : Layout → Image → ℕ → Type 0
DocumentRule g image n =
    (start reserved bytes journal : ℕ) → Stores g image n start reserved bytes journal
    → HasDocument image (document_at start reserved bytes journal) bytes

-- Rule 5, at a journal cell of a slot that is committed or done: it is in order, so that one behind a cell that copies
-- nothing is not; and at such a slot's commit cell: each journal cell is written.
pub record JournalRule (g : Layout) (image : Image) (cell : ℕ) : Type 0 where
  pub copy : (n start reserved bytes journal place : ℕ) → Stores g image n start reserved bytes journal
      → place < journal
      → cell ≡ journal_at start reserved journal + place → IsInOrder g image n start reserved bytes journal place
  pub commit : (n start reserved bytes journal place : ℕ) → Stores g image n start reserved bytes journal
      → place < journal
      → cell ≡ outcome_at n → IsWritten image (journal_at start reserved journal + place)

-- Rule 6, at a journal cell: where the slot is done its target holds the same; where the slot is committed its target
-- holds the same or is blank.
pub record RedoneRule (g : Layout) (image : Image) (cell : ℕ) : Type 0 where
  pub done : (n start reserved bytes journal place target : ℕ) (copied : RecordCell)
      → IsDone g image n start reserved bytes journal
      → CopiesIndexCell image start reserved journal place target copied
      → cell ≡ journal_at start reserved journal + place
      → image target ≡ image cell
  pub committed : (n start reserved bytes journal place target : ℕ) (copied : RecordCell)
      → IsCommitted g image image n start reserved bytes journal
      → CopiesIndexCell image start reserved journal place target copied
      → cell ≡ journal_at start reserved journal + place
      → (image target ≡ None) ⊎ (image target ≡ image cell)

-- the cell lies in a first block, in the root, or in the block part of a slot that is done
pub data IsDoneIndexCell (g : Layout) (image : Image) (cell : ℕ) : Type 0 where
  of_list : (l : ℕ) → LiesIn g (FirstBlock l) cell → IsDoneIndexCell g image cell
  of_root : LiesIn g Root cell → IsDoneIndexCell g image cell
  of_slot : (m start reserved bytes journal : ℕ) → IsDone g image m start reserved bytes journal → start ≤ cell
      → cell < document_at start reserved bytes journal → IsDoneIndexCell g image cell

-- the stamp of slot n is in order: the volume's documents are stamped, the slot's reserve cell is written, and the
-- stamp is greater than that of each lower done slot
pub record IsTrueStamp (g : Layout) (image : Image) (n : ℕ) : Type 0 where
  pub version : TakesStamps g
  pub reserve : IsWritten image (reserve_at n)
  pub seconds : ℕ
  pub stamp : HasStamp image n seconds
  pub rises : (m lower : ℕ) → m < n → IsDoneSlot g image m → HasStamp image m lower → lower < seconds

-- Rule 7: the cell is none of 1 to 3; a spare cell is a stamp in order; where the cell lies in a first block, in the
-- root or in the block part of a done slot, a done slot's journal names it; and where it lies in the pool it lies
-- before each edge.
pub record BlankRule (g : Layout) (image : Image) (cell : ℕ) : Type 0 where
  pub kept_blank : 1 ≤ cell → 4 ≤ cell
  pub spare : (n : ℕ) → n < g.slots → cell ≡ spare_at n → IsTrueStamp g image n
  pub named : IsDoneIndexCell g image cell → IsNamed g image cell
  pub edge : (at : ℕ) → IsEdge g image image at → pool_at g ≤ cell → cell < at

-- the place of the block holds a posting, and is the first, or the place before holds one with a smaller key
pub record HoldsInOrder (image : Image) (block place : ℕ) : Type 0 where
  pub p : PostingFields
  pub holds : Holds image (block + place) (posting_record p)
  pub rises : (place ≡ 0)
      ⊎ ((before : ℕ) × (q : PostingFields) × (place ≡ before + 1)
      × Holds image (block + before) (posting_record q) × (q.key < p.key))

-- Rule 8, at a cell of a block before its pointers or behind them: before them it is in order, and behind them nothing
-- stands.
pub record EntryRule (g : Layout) (image : Image) (cell : ℕ) : Type 0 where
  pub entry : (l block place : ℕ) → IsBlockOf g image l block → place < 128 → cell ≡ block + place
      → HoldsInOrder image block place
  pub blank : (l block place : ℕ) → IsBlockOf g image l block → 248 ≤ place → place < 256 → cell ≢ block + place

-- the posting is one of a live slot's document in list l
pub record IsTruePosting (g : Layout) (image : Image) (l : ℕ) (p : PostingFields) : Type 0 where
  pub slot : ℕ
  pub live : IsLive g image slot
  pub id : List ℕ
  pub body : List ℕ
  pub stands : Stands g.cells image slot id body
  pub postings : HasPostings g body
  pub stamp : Option ℕ
  pub is_stamp : IsStampOf g image slot stamp
  pub is : IsPostingOf g stamp body slot l p

-- Rule 9, at a posting in a block of list l: it is one of its slot's document, which is live.
abbrev pub PostingRule : Layout → Image → ℕ → Type 0
PostingRule g image cell =
    (l block place : ℕ) (p : PostingFields) → IsBlockOf g image l block → place < 128 → cell ≡ block + place
    → Holds image cell (posting_record p) → IsTruePosting g image l p

-- the front of the block ends with this posting, its greatest
pub record EndsFront (image : Image) (block : ℕ) (greatest : PostingFields) : Type 0 where
  pub place : ℕ
  pub in_places : place < 128
  pub in_front : InFront image block place greatest
  pub ends : place + 1 < 128 → (next : PostingFields) → InFront image block (place + 1) next → ⊥

-- The pointer of a level and a digit leads well from a block of list l: it is a jump cell; each entry place of its
-- block is written; the target's cells lie in the pool, before each edge, and in the block part of one slot that is
-- committed or done; some key of the target's front lies in the pointer's span; and the target's cells meet no block
-- that begins elsewhere, none of another list, and no node.
pub record LeadsWell (g : Layout) (image : Image) (l block level digit : ℕ) : Type 0 where
  pub target : ℕ
  pub jump : Holds image (pointer_at block level digit) (Jump target)
  pub full : (place : ℕ) → place < 128 → IsWritten image (block + place)
  pub from : pool_at g ≤ target
  pub to : target + 256 ≤ g.cells
  pub edge : (at : ℕ) → IsEdge g image image at → target + 256 ≤ at
  pub owner : ℕ
  pub owns_first : LiesInBlocks g image owner target
  pub owns_last : LiesInBlocks g image owner (target + 255)
  pub greatest : PostingFields
  pub ends : EndsFront image block greatest
  pub place : ℕ
  pub some : PostingFields
  pub in_places : place < 128
  pub in_front : InFront image target place some
  pub in_span : InSpan greatest.key level digit some.key
  pub blocks : (k other : ℕ) → IsBlockOf g image k other
      → ((other ≡ target) × (k ≡ l)) ⊎ AreApart target 256 other 256
  pub nodes : (v node : ℕ) → IsNode g image v node → AreApart target 256 node 32

-- Rule 10, at a pointer place of a block: the pointer leads well.
abbrev pub PointerRule : Layout → Image → ℕ → Type 0
PointerRule g image cell =
    (l block level digit : ℕ) → IsBlockOf g image l block → level < 8 → 1 ≤ digit → digit ≤ 15
    → cell ≡ pointer_at block level digit → LeadsWell g image l block level digit

-- Bucket x of a node is a true one: it is a bucket; its slot is live; its fingerprint is that of the identifier of the
-- slot's document, and it is on this identifier's path.
pub record IsTrueBucket (g : Layout) (image : Image) (node x : ℕ) : Type 0 where
  pub slot : ℕ
  pub fingerprint : List ℕ
  pub bucket : Holds image (node + x) (Bucket slot fingerprint)
  pub live : IsLive g image slot
  pub id : List ℕ
  pub body : List ℕ
  pub stands : Stands g.cells image slot id body
  pub same : fingerprint ≡ fingerprint_of (sha256 id)
  pub level : ℕ
  pub on_path : IsOnPath g image (sha256 id) level node
  pub here : x ≡ nibble (sha256 id) level

-- Rule 11, at a bucket of a node: it is a true one.
abbrev pub BucketRule : Layout → Image → ℕ → Type 0
BucketRule g image cell = (v node x : ℕ) → IsNode g image v node → x < 16 → cell ≡ node + x
    → IsTrueBucket g image node x

-- Child cell x of a node leads down well: it is a child cell; the bucket of the same half byte is written; the node is
-- at a level below 63; the target's cells lie in the pool and before each edge; some slot that is committed or done has
-- this cell in its journal and the target in its block part; no lower child cell of a node has the same target; and
-- the target's cells meet no block and no other node.
pub record LeadsDownWell (g : Layout) (image : Image) (v node x : ℕ) : Type 0 where
  pub target : ℕ
  pub child : Holds image (node + 16 + x) (Child target)
  pub bucket : IsWritten image (node + x)
  pub level : v < 63
  pub from : pool_at g ≤ target
  pub to : target + 32 ≤ g.cells
  pub edge : (at : ℕ) → IsEdge g image image at → target + 32 ≤ at
  pub owner : ℕ
  pub start : ℕ
  pub reserved : ℕ
  pub bytes : ℕ
  pub journal : ℕ
  pub stores : Stores g image owner start reserved bytes journal
  pub place : ℕ
  pub in_journal : place < journal
  pub same : image (journal_at start reserved journal + place) ≡ image (node + 16 + x)
  pub in_blocks : start ≤ target
  pub before_document : target < document_at start reserved bytes journal
  pub once : (w other y : ℕ) → IsNode g image w other → y < 16 → other + 16 + y < node + 16 + x
      → Holds image (other + 16 + y) (Child target) → ⊥
  pub blocks : (k other : ℕ) → IsBlockOf g image k other → AreApart target 32 other 256
  pub nodes : (w other : ℕ) → IsNode g image w other → (other ≡ target) ⊎ AreApart target 32 other 32

-- Rule 12, at a child cell of a node: it leads down well.
abbrev pub ChildRule : Layout → Image → ℕ → Type 0
ChildRule g image cell = (v node x : ℕ) → IsNode g image v node → x < 16 → cell ≡ node + 16 + x
    → LeadsDownWell g image v node x

-- Rule 13, at the done cell of slot n: the postings of its document exist, and each of them has a trail.
pub record TrailRule (g : Layout) (image : Image) (n : ℕ) (body : List ℕ) : Type 0 where
  pub postings : HasPostings g body
  pub stamp : Option ℕ
  pub is_stamp : IsStampOf g image n stamp
  pub trails : (l : ℕ) (p : PostingFields) → l < all_lists g → IsPostingOf g stamp body n l p
      → (at : ℕ) × Trail image (pool_at g) g.cells at p (list_at g l)

-- Rule 14, at the done cell of slot n: its document has a hash trail, and no lower done slot stands with the same
-- identifier.
pub record PathRule (g : Layout) (image : Image) (n : ℕ) (id : List ℕ) : Type 0 where
  pub path : HashTrail image (sought_in g.cells g id) n (root_at g) 0
  pub alone : (m : ℕ) (other : List ℕ) → m < n → Stands g.cells image m id other → ⊥

-- the journal has a jump cell to this target
abbrev pub HasJump : Image → ℕ → ℕ → ℕ → ℕ → Type 0
HasJump image start reserved journal target = (place : ℕ) × (at : ℕ)
    × CopiesIndexCell image start reserved journal place at (Jump target)

-- and a child cell to it
abbrev pub HasChild : Image → ℕ → ℕ → ℕ → ℕ → Type 0
HasChild image start reserved journal target = (place : ℕ) × (at : ℕ)
    × CopiesIndexCell image start reserved journal place at (Child target)

-- so many cells belong to this target: 256 where a jump cell leads to it, and 32 otherwise
abbrev pub IsSize : Image → ℕ → ℕ → ℕ → ℕ → ℕ → Type 0
IsSize image start reserved journal target size =
    ((size ≡ 256) × HasJump image start reserved journal target)
    ⊎ ((size ≡ 32) × (HasJump image start reserved journal target → ⊥))

-- these targets in this order, each with its size, tile the cells from one up to another
abbrev pub Tile : Image → ℕ → ℕ → ℕ → ℕ → ℕ → List ℕ → Type 0
Tile image start reserved journal from to [] = from ≡ to
Tile image start reserved journal from to (target ∷ targets) =
    (target ≡ from) × (size : ℕ) × IsSize image start reserved journal target size
    × Tile image start reserved journal (from + size) to targets

-- Rule 15, at the commit cell of slot n, where this is done: the targets of the jump and child cells of its journal
-- that lie in its own block part tile that part, in rising order.
pub record TilingRule (image : Image) (start reserved bytes journal : ℕ) : Type 0 where
  pub targets : List ℕ
  pub each : (target : ℕ)
      → ((HasJump image start reserved journal target ⊎ HasChild image start reserved journal target)
      × (start ≤ target) × (target < document_at start reserved bytes journal)) ↔ Contains targets target
  pub tile : Tile image start reserved journal start (document_at start reserved bytes journal) targets

-- the rules
pub data Rule : Type 0 where
  ReserveCells : Rule
  OutcomeCells : Rule
  DoneCells : Rule
  Documents : Rule
  Journals : Rule
  Targets : Rule
  StrayCells : Rule
  Entries : Rule
  Postings : Rule
  Pointers : Rule
  Buckets : Rule
  Children : Rule
  Trails : Rule
  Paths : Rule
  Tilings : Rule

-- their numbers
abbrev pub number_of : Rule → ℕ
number_of ReserveCells = RESERVE_CELL
number_of OutcomeCells = OUTCOME_CELL
number_of DoneCells = DONE_CELL
number_of Documents = BROKEN_DOCUMENT
number_of Journals = BROKEN_JOURNAL
number_of Targets = OTHER_TARGET
number_of StrayCells = STRAY_CELL
number_of Entries = BLOCK_OUT_OF_ORDER
number_of Postings = FAKE_POSTING
number_of Pointers = LOST_POINTER
number_of Buckets = FAKE_BUCKET
number_of Children = LOST_CHILD
number_of Trails = MISSING_TRAIL
number_of Paths = MISSING_PATH
number_of Tilings = UNTILED_BLOCKS

-- the rule is kept at this cell
abbrev pub IsMet : Layout → Image → Rule → ℕ → Type 0
IsMet g image ReserveCells cell = (n : ℕ) → n < g.slots → cell ≡ reserve_at n → ReserveRule g image n
IsMet g image OutcomeCells cell = (n : ℕ) → n < g.slots → cell ≡ outcome_at n → OutcomeRule g image n
IsMet g image DoneCells cell = (n : ℕ) → n < g.slots → cell ≡ done_at n → DoneRule image n
IsMet g image Documents cell = (n : ℕ) → n < g.slots → cell ≡ outcome_at n → DocumentRule g image n
IsMet g image Journals cell = JournalRule g image cell
IsMet g image Targets cell = RedoneRule g image cell
IsMet g image StrayCells cell = BlankRule g image cell
IsMet g image Entries cell = EntryRule g image cell
IsMet g image Postings cell = PostingRule g image cell
IsMet g image Pointers cell = PointerRule g image cell
IsMet g image Buckets cell = BucketRule g image cell
IsMet g image Children cell = ChildRule g image cell
IsMet g image Trails cell = (n : ℕ) (id body : List ℕ) → cell ≡ done_at n → Stands g.cells image n id body
    → TrailRule g image n body
IsMet g image Paths cell = (n : ℕ) (id body : List ℕ) → cell ≡ done_at n → Stands g.cells image n id body
    → PathRule g image n id
IsMet g image Tilings cell =
    (n start reserved bytes journal : ℕ) → cell ≡ outcome_at n → IsDone g image n start reserved bytes journal
    → TilingRule image start reserved bytes journal

-- the cell is the reserve cell of a slot, and so on
abbrev pub IsOfSlot : Layout → (ℕ → ℕ) → ℕ → Type 0
IsOfSlot g place cell = (n : ℕ) × (n < g.slots) × (cell ≡ place n)

-- the cell lies in the pool
abbrev pub IsOfPool : Layout → ℕ → Type 0
IsOfPool g cell = (pool_at g ≤ cell) × (cell < g.cells)

-- where a rule can have its evidence, on a volume of this layout
abbrev pub IsPlace : Layout → Rule → ℕ → Type 0
IsPlace g ReserveCells cell = IsOfSlot g reserve_at cell
IsPlace g OutcomeCells cell = IsOfSlot g outcome_at cell
IsPlace g DoneCells cell = IsOfSlot g done_at cell
IsPlace g Documents cell = IsOfSlot g outcome_at cell
IsPlace g Journals cell = IsOfSlot g outcome_at cell ⊎ IsOfPool g cell
IsPlace g Targets cell = IsOfPool g cell
IsPlace g StrayCells cell = ((1 ≤ cell) × (cell ≤ 3)) ⊎ IsOfSlot g spare_at cell
    ⊎ ((lists_at g ≤ cell) × (cell < g.cells))
IsPlace g Entries cell = ((l : ℕ) × LiesIn g (FirstBlock l) cell) ⊎ IsOfPool g cell
IsPlace g Postings cell = ((l : ℕ) × LiesIn g (FirstBlock l) cell) ⊎ IsOfPool g cell
IsPlace g Pointers cell = ((l : ℕ) × LiesIn g (FirstBlock l) cell) ⊎ IsOfPool g cell
IsPlace g Buckets cell = LiesIn g Root cell ⊎ IsOfPool g cell
IsPlace g Children cell = LiesIn g Root cell ⊎ IsOfPool g cell
IsPlace g Trails cell = IsOfSlot g done_at cell
IsPlace g Paths cell = IsOfSlot g done_at cell
IsPlace g Tilings cell = IsOfSlot g outcome_at cell

-- the cell is one of those where the rule of this number can have its evidence
abbrev pub IsPlaceOf : Layout → ℕ → ℕ → Type 0
IsPlaceOf g number cell = (rule : Rule) × (number ≡ number_of rule) × IsPlace g rule cell

-- the rule of this number is broken at the cell: the cell is written and one of the rule's places, and the rule is
-- not kept there
pub record IsBroken (cells : ℕ) (image : Image) (number cell : ℕ) : Type 0 where
  pub layout : Layout
  pub volume : IsVolume cells image layout
  pub rule : Rule
  pub named : number ≡ number_of rule
  pub place : IsPlace layout rule cell
  pub written : IsWritten image cell
  pub not_met : IsMet layout image rule cell → ⊥

-- the cell is a place of the rule that the evidence names
abbrev pub HasPlace : Layout → Evidence → Type 0
HasPlace g e = (rule : Rule) × (e.rule ≡ number_of rule) × IsPlace g rule e.cell
