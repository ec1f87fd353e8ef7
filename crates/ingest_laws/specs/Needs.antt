-- How many cells of the pool an ingest takes: its need.
--
--     the document's cells         1 for each 15 stored bytes
--     a posting                    1: its journal cell; 2 with a jump cell; 258 with a new block besides
--     the bucket                   1: its journal cell; 34 with a child cell and a new node
use Rattle.std.specs.Prelude.{◌≡◌, ◌<◌, ◌≤◌, ◌+◌, ◌*◌, ℕ, List, [], ◌∷◌, length, Option, None}
use Rattle.cell_types.specs.Image.{Image}
use Rattle.cell_types.specs.Layout.{Layout, list_at, root_at, pool_at}
use Rattle.cell_types.specs.declared.record_cell.RecordCell.TheVariants.{Jump}
use Rattle.volume_meaning.specs.Documents.{stored_bytes}
use Rattle.volume_meaning.specs.Slots.{cells_for, IsEdge}
use Rattle.volume_meaning.specs.Volumes.{Holds, IsWritten}
use Rattle.tamper_rules.specs.Settling.{IsSettled}
use Rattle.volume_meaning.specs.Blocks.{PostingFields, posting_record, Hop, InFront, IsFull, InSpan, pointer_at, Trail}
use Rattle.volume_meaning.specs.HashPaths.{IsPassed, PassedTo, nibble}
use Rattle.volume_meaning.specs.Keeping.{sought_in}
use Rattle.volume_meaning.specs.Postings.{ListedPosting, ArePostings}
use Rattle.ingest_laws.specs.ListShapes.{AddsOneCell}

-- this is the first blank entry place of the block
pub record IsBlankEntry (image : Image) (block place : ℕ) : Type 0 where
  pub in_places : place < 128
  pub blank : image (block + place) ≡ None
  pub before : (i : ℕ) → i < place → IsWritten image (block + i)

-- a full block leads on for a key: the pointer of the key's span is a jump cell to the target
pub record LeadsOn (image : Image) (block key target : ℕ) : Type 0 where
  pub greatest : PostingFields
  pub full : IsFull image block greatest
  pub level : ℕ
  pub digit : ℕ
  pub span : InSpan greatest.key level digit key
  pub jump : Holds image (pointer_at block level digit) (Jump target)

-- a full block leads no further for a key: the pointer of the key's span is this cell, and blank
pub record EndsAtPointer (image : Image) (block key pointer : ℕ) : Type 0 where
  pub greatest : PostingFields
  pub full : IsFull image block greatest
  pub level : ℕ
  pub digit : ℕ
  pub span : InSpan greatest.key level digit key
  pub at : pointer ≡ pointer_at block level digit
  pub blank : image pointer ≡ None

-- the walk from a block along the pointers of a key's spans comes to this block
pub data WalksTo (image : Image) (key last : ℕ) : ℕ → Type 0 where
  arrived : (block : ℕ) → block ≡ last → WalksTo image key last block
  onwards : (block target : ℕ) → LeadsOn image block key target → WalksTo image key last target
      → WalksTo image key last block

-- A trail of the posting that ends at the last block: the posting stands in this place of its front.
pub data TrailTo (image : Image) (from to last place : ℕ) (p : PostingFields) : ℕ → Type 0 where
  at_end : (block : ℕ) → block ≡ last → place < 128 → InFront image last place p
      → TrailTo image from to last place p block
  through : (block target : ℕ) → Hop image from to block p.key target → TrailTo image from to last place p target
      → TrailTo image from to last place p block

-- The trail of the list's greatest key ends at this block, in a list that begins at head and has the range for its
-- other blocks: no posting with a trail from head has a greater key.
pub record IsTail (image : Image) (from to head block : ℕ) : Type 0 where
  pub greatest : PostingFields
  pub place : ℕ
  pub trail : TrailTo image from to block place greatest head
  pub most : (at : ℕ) (p : PostingFields) → Trail image from to at p head → p.key ≤ greatest.key

-- new is old with this posting in one cell, and with a jump cell to the target besides
pub record AddsBoth (old new : Image) (at pointer target : ℕ) (p : PostingFields) : Type 0 where
  pub mid : Image
  pub adds : AddsOneCell at old mid
  pub posting : Holds mid at (posting_record p)
  pub adds_jump : AddsOneCell pointer mid new
  pub jump : Holds new pointer (Jump target)

-- What one posting adds to the list that begins at head, and costs, where other blocks lie from `from` up to `next`,
-- and new ones begin there. The walk for its key ends at a block with a blank entry, and the posting goes there; or at
-- a blank pointer, which is set to the list's tail, where this has a blank entry, or else to a new block.
pub data PostingCosts (from head : ℕ) (p : PostingFields) (old new : Image) (next to cost : ℕ) : Type 0 where
  in_block : (block place : ℕ) → WalksTo old p.key block head → IsBlankEntry old block place
      → AddsOneCell (block + place) old new → Holds new (block + place) (posting_record p)
      → to ≡ next → cost ≡ 1 → PostingCosts from head p old new next to cost
  in_tail : (block pointer tail place : ℕ) → WalksTo old p.key block head → EndsAtPointer old block p.key pointer
      → IsTail old from next head tail → IsBlankEntry old tail place → AddsBoth old new (tail + place) pointer tail p
      → to ≡ next → cost ≡ 2 → PostingCosts from head p old new next to cost
  in_new_block : (block pointer tail : ℕ) → WalksTo old p.key block head → EndsAtPointer old block p.key pointer
      → IsTail old from next head tail → ((i : ℕ) → i < 128 → IsWritten old (tail + i))
      → AddsBoth old new next pointer next p
      → to ≡ next + 256 → cost ≡ 258 → PostingCosts from head p old new next to cost

-- What a document's postings cost one after another: what one adds stands before the next is taken. New blocks may pass
-- the device's end, so that the need is known also where it is greater than what is free.
pub data PostingsCost (g : Layout) (new : Image) (to : ℕ) : List ListedPosting → Image → ℕ → ℕ → Type 0 where
  none : (old : Image) (next cost : ℕ) → old ≡ new → next ≡ to → cost ≡ 0 → PostingsCost g new to [] old next cost
  one : (a : ListedPosting) (rows : List ListedPosting) (old mid : Image) (next then cost first rest : ℕ)
      → PostingCosts (pool_at g) (list_at g a.list) a.posting old mid next then first
      → PostingsCost g new to rows mid then rest
      → cost ≡ first + rest → PostingsCost g new to (a ∷ rows) old next cost

-- What the bucket costs: the identifier's path ends at a blank bucket, or at a blank child cell.
pub data BucketCosts (g : Layout) (image : Image) (id : List ℕ) (cost : ℕ) : Type 0 where
  in_bucket : (level node : ℕ) → PassedTo image (sought_in g.cells g id) (root_at g) node level
      → image (node + nibble (sought_in g.cells g id).digest level) ≡ None → cost ≡ 1 → BucketCosts g image id cost
  in_new_node : (level node : ℕ) → level < 63 → PassedTo image (sought_in g.cells g id) (root_at g) node level
      → IsPassed image (sought_in g.cells g id) (node + nibble (sought_in g.cells g id).digest level)
      → image (node + 16 + nibble (sought_in g.cells g id).digest level) ≡ None → cost ≡ 34
      → BucketCosts g image id cost

-- the need of a document with this stamp in slot n of a settled image
pub record IsNeed (g : Layout) (image : Image) (n : ℕ) (id body : List ℕ) (stamp : Option ℕ) (need : ℕ) : Type 0 where
  pub edge : ℕ
  pub is_edge : IsEdge g image image edge
  pub rows : List ListedPosting
  pub are : ArePostings g stamp body n rows
  pub new : Image
  pub to : ℕ
  pub postings : ℕ
  pub costs : PostingsCost g new to rows image edge postings
  pub bucket : ℕ
  pub bucket_costs : BucketCosts g image id bucket
  pub sum : need ≡ cells_for (length (stored_bytes id body)) + postings + bucket

-- each posting costs at least its journal cell, and at most a block, a jump cell and its own
abbrev pub NeedIsBounded : Type 0
NeedIsBounded =
    (g : Layout) (image : Image) (n : ℕ) (id body : List ℕ) (stamp : Option ℕ) (need : ℕ)
    → (is : IsNeed g image n id body stamp need)
    → (cells_for (length (stored_bytes id body)) + length is.rows + 1 ≤ need)
    × (need ≤ cells_for (length (stored_bytes id body)) + 258 * length is.rows + 34)

-- a document has one need on a settled image
abbrev pub NeedIsOne : Type 0
NeedIsOne =
    (g : Layout) (image : Image) (n : ℕ) (id body : List ℕ) (stamp : Option ℕ) (one other : ℕ) → IsSettled g image
    → IsNeed g image n id body stamp one → IsNeed g image n id body stamp other → one ≡ other
