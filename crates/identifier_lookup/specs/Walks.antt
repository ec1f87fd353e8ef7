-- What a walk along the path of an identifier finds, what it passes, and what licence its evidence has.
use Rattle.std.specs.Prelude.{◌≡◌, ◌<◌, ◌+◌, ◌⊎◌, ℕ, List, Option, Some, None, Result, Ok, Err, IsTrue, ⊤}
use Rattle.sha2.specs.Sha256.{sha256}
use Rattle.cell_types.specs.Image.{Image}
use Rattle.cell_types.specs.Layout.{Layout, done_at, outcome_at, reserve_at, root_at}
use Rattle.cell_types.specs.declared.record_cell.RecordCell.TheVariants.{Bucket}
use Rattle.cell_types.specs.declared.refusal.Evidence.{Evidence}
use Rattle.cell_types.specs.declared.refusal.Fault.{Fault}
use Rattle.cell_types.specs.declared.refusal.Fault.TheVariants.{Tampered, Failed}
use Rattle.volume_meaning.specs.Documents.{Stands}
use Rattle.volume_meaning.specs.Slots.{IsEdge, IsHorizon}
use Rattle.volume_meaning.specs.Volumes.{Holds, IsVolume}
use Rattle.volume_meaning.specs.HashPaths.{HashTrail, IsPassed, PassedTo, fingerprint_of, nibble}
use Rattle.volume_meaning.specs.Keeping.{sought_in}
use Rattle.tamper_rules.specs.Rules.{IsBroken, IsPlaceOf}
use Rattle.tamper_rules.specs.declared.numbers.TheConstants.{BROKEN_DOCUMENT, DONE_CELL, FAKE_BUCKET, LOST_CHILD, OUTCOME_CELL, RESERVE_CELL}
use Rattle.worm_device.specs.Counts.{IsStill, Rose}
use Rattle.worm_device.specs.Views.{ViewState, Viewed}
use Rattle.document_store.specs.Looks.{HasPart, HoldsIdentifier}
use Rattle.hash_tree.specs.Levels.{IsLedWithin, IsLevelPlaced, IsLevelReached, node_of}
use Rattle.hash_tree.specs.Steps.{IsHashRule, IsOpenOf}
use Rattle.hash_tree.specs.declared.level.Level.{Level}
use Rattle.hash_tree.specs.declared.path.Open.{Open}
use Rattle.identifier_lookup.specs.Costs.{WalkCosts}
use Rattle.identifier_lookup.specs.declared.answers.Walk.{Walk}
use Rattle.identifier_lookup.specs.declared.answers.Walk.TheVariants.{End, Found, PathFull}

-- The path of the identifier is passed up to the node of this level: the bucket of each level above it has another
-- fingerprint, or its slot stands with another identifier.
abbrev pub IsPassedTo : Layout → ℕ → Image → List ℕ → ℕ → ℕ → Type 0
IsPassedTo g cells image id node level = PassedTo image (sought_in cells g id) (root_at g) node level

-- this bucket is passed as well
abbrev pub IsPassedBucket : Layout → ℕ → Image → List ℕ → ℕ → Type 0
IsPassedBucket g cells image id bucket = IsPassed image (sought_in cells g id) bucket

-- slot n stands with this identifier, and has a hash trail from the root
pub record HasIdentifierTrail (g : Layout) (cells : ℕ) (image : Image) (id : List ℕ) (n : ℕ) : Type 0 where
  pub body : List ℕ
  pub stands : Stands cells image n id body
  pub trail : HashTrail image (sought_in cells g id) n (root_at g) 0

-- no slot that stands with this identifier has a hash trail
abbrev pub NoneHasTrail : Layout → ℕ → Image → List ℕ → Type 0
NoneHasTrail g cells image id = (n : ℕ) → HasIdentifierTrail g cells image id n → ⊥

-- Slot n is the first on the path: its bucket stands in the node of this level, up to which the path is passed.
pub record IsFirstOnPath (g : Layout) (cells : ℕ) (image : Image) (id : List ℕ) (n : ℕ) : Type 0 where
  pub node : ℕ
  pub level : ℕ
  pub passed : IsPassedTo g cells image id node level
  pub bucket : Holds image (node + nibble (sha256 id) level) (Bucket n (fingerprint_of (sha256 id)))

-- Slot n was found: it holds a document with this identifier. Where cell 0 stated this volume at entry, it is the first
-- on the path, and no other slot that stood with the identifier had a hash trail.
pub record IsFound (g : Layout) (id : List ℕ) (old new : ViewState) (n : ℕ) : Type 0 where
  pub holds : HoldsIdentifier g new.image n id
  pub first : IsVolume old.cells old.image g → IsFirstOnPath g new.cells new.image id n
  pub alone : IsVolume old.cells old.image g → (m : ℕ) → HasIdentifierTrail g old.cells old.image id m → m ≡ n

-- the place is blank: the bucket, or the child cell under it
abbrev pub IsBlankIn : Image → ℕ → Option ℕ → Type 0
IsBlankIn image bucket None = image bucket ≡ None
IsBlankIn image bucket (Some child) = image child ≡ None

-- where the place is a child cell the bucket above it is passed
abbrev pub IsPassedAbove : Layout → ℕ → Image → List ℕ → ℕ → Option ℕ → Type 0
IsPassedAbove g cells image id bucket None = ⊤
IsPassedAbove g cells image id bucket (Some child) = IsPassedBucket g cells image id bucket

-- The path of the identifier is passed up to this place in the node of this level.
pub record IsPassedUpToPlace (g : Layout) (cells : ℕ) (image : Image) (id : List ℕ) (place : Open) (level : Level)
    : Type 0 where
  pub passed : IsPassedTo g cells image id (node_of g level) level.number
  pub above : IsPassedAbove g cells image id place.bucket place.child

-- The path ends at this place: it is blank, its node is one of the volume's, and the child cell that led there is one of
-- a node. Where cell 0 stated this volume at
-- entry, the path is passed up to there, and no slot that stood with the identifier had a hash trail.
pub record EndsThere (g : Layout) (id : List ℕ) (old new : ViewState) (place : Open) (level : Level) : Type 0 where
  pub blank : IsBlankIn new.image place.bucket place.child
  pub reached : IsLevelReached g new.image level
  pub led_within : IsLedWithin g new.image level.led_by
  pub passed : IsVolume old.cells old.image g → IsPassedUpToPlace g new.cells new.image id place level
  pub none : IsVolume old.cells old.image g → NoneHasTrail g old.cells old.image id

-- The path is passed up to the last level, and its bucket there is passed: all 64 are.
pub record IsPassedWhole (g : Layout) (cells : ℕ) (image : Image) (id : List ℕ) : Type 0 where
  pub node : ℕ
  pub passed : IsPassedTo g cells image id node 63
  pub last : IsPassedBucket g cells image id (node + nibble (sha256 id) 63)

-- The path is full: where cell 0 stated this volume at entry, it is passed whole, and no slot that stood with the
-- identifier had a hash trail.
pub record IsPathFull (g : Layout) (id : List ℕ) (old new : ViewState) : Type 0 where
  pub passed : IsVolume old.cells old.image g → IsPassedWhole g new.cells new.image id
  pub none : IsVolume old.cells old.image g → NoneHasTrail g old.cells old.image id

-- the rules that a walk names: those of a slot's cells, that its document is whole, and those of the path
abbrev pub IsWalkRule : ℕ → Type 0
IsWalkRule number =
    (number ≡ RESERVE_CELL) ⊎ (number ≡ OUTCOME_CELL) ⊎ (number ≡ DONE_CELL) ⊎ (number ≡ BROKEN_DOCUMENT)
    ⊎ IsHashRule number

-- The licence of evidence. It stands in what the view shows. Where nobody else wrote in the call, cell 0 states this
-- volume, and the horizon and the edge are such in this image, the rule is broken there.
pub record IsPathLicensed (g : Layout) (horizon edge : ℕ) (old new : ViewState) (e : Evidence) : Type 0 where
  pub rule : IsWalkRule e.rule
  pub stands : new.image e.cell ≡ Some e.found
  pub broken : IsStill old.base.foreign_writes new.base.foreign_writes → IsVolume new.cells new.image g
      → IsHorizon g new.image new.image horizon → IsEdge g new.image new.image edge
      → IsBroken new.cells new.image e.rule e.cell

-- why a walk gives no answer
abbrev pub WalkFails : Layout → ℕ → ℕ → ViewState → ViewState → Fault → Type 0
WalkFails g horizon edge old new Failed = Rose old.base.faults new.base.faults
WalkFails g horizon edge old new (Tampered e) =
    IsPlaceOf g e.rule e.cell × (new.base.faults ≡ old.base.faults)
    × (IsTrue old.base.tells → IsPathLicensed g horizon edge old new e)

-- the evidence is a cell of slot n: the one that its rule is about, which of a broken document is the commit cell
abbrev pub IsOfSlot : ℕ → Evidence → Type 0
IsOfSlot n e =
    ((e.rule ≡ RESERVE_CELL) × (e.cell ≡ reserve_at n)) ⊎ ((e.rule ≡ OUTCOME_CELL) × (e.cell ≡ outcome_at n))
    ⊎ ((e.rule ≡ DONE_CELL) × (e.cell ≡ done_at n)) ⊎ ((e.rule ≡ BROKEN_DOCUMENT) × (e.cell ≡ outcome_at n))

-- The evidence lies on the path of the identifier: up to a node the path is passed, and it is that node's bucket there;
-- or its child cell there, under a bucket that is passed, too; or a cell of the slot that this bucket names with the
-- identifier's fingerprint.
pub data LiesOnPath (g : Layout) (cells : ℕ) (image : Image) (id : List ℕ) (e : Evidence) : Type 0 where
  at_bucket : (node level : ℕ) → IsPassedTo g cells image id node level → e.rule ≡ FAKE_BUCKET
      → e.cell ≡ node + nibble (sha256 id) level → LiesOnPath g cells image id e
  at_child : (node level : ℕ) → IsPassedTo g cells image id node level
      → IsPassedBucket g cells image id (node + nibble (sha256 id) level) → level < 63 → e.rule ≡ LOST_CHILD
      → e.cell ≡ node + 16 + nibble (sha256 id) level → LiesOnPath g cells image id e
  in_slot : (n : ℕ) → IsFirstOnPath g cells image id n → IsOfSlot n e → LiesOnPath g cells image id e

-- what a walk names lies on the path at exit, where cell 0 stated this volume at entry
abbrev pub NamesOnPath : Layout → List ℕ → ViewState → ViewState → Fault → Type 0
NamesOnPath g id old new Failed = ⊤
NamesOnPath g id old new (Tampered e) =
    IsTrue old.base.tells → IsVolume old.cells old.image g → LiesOnPath g new.cells new.image id e

-- the same of an answer, which names nothing
abbrev pub WalkNames : Layout → List ℕ → ViewState → ViewState → Result Walk Fault → Type 0
WalkNames g id old new (Ok walked) = ⊤
WalkNames g id old new (Err fault) = NamesOnPath g id old new fault

abbrev pub LookUpNames : Layout → List ℕ → ViewState → ViewState → Result (Option ℕ) Fault → Type 0
LookUpNames g id old new (Ok found) = ⊤
LookUpNames g id old new (Err fault) = NamesOnPath g id old new fault

-- How a walk may end, and why. What it says of the image holds at its exit. What was found is a part, and so each call that
-- asks for one takes it.
abbrev pub WalkEnds : Layout → ℕ → ℕ → List ℕ → ViewState → ViewState → Result Walk Fault → Type 0
WalkEnds g horizon edge id old new (Ok (Found part)) =
    (part.slot < horizon) × (new.base.faults ≡ old.base.faults) × (IsTrue old.base.tells → IsFound g id old new part.slot)
    × HasPart g new part
WalkEnds g horizon edge id old new (Ok (End place level)) =
    (level.digest ≡ sha256 id) × IsLevelPlaced g edge new level × IsOpenOf g level place
    × (new.base.faults ≡ old.base.faults) × (IsTrue old.base.tells → EndsThere g id old new place level)
WalkEnds g horizon edge id old new (Ok PathFull) =
    (new.base.faults ≡ old.base.faults) × (IsTrue old.base.tells → IsPathFull g id old new)
WalkEnds g horizon edge id old new (Err fault) = WalkFails g horizon edge old new fault

-- what a walk does
pub record WalksPath (g : Layout) (horizon edge : ℕ) (id : List ℕ) (old new : ViewState) (result : Result Walk Fault)
    : Type 0 where
  pub viewed : Viewed old new
  pub costs : WalkCosts g id old new
  pub ends : WalkEnds g horizon edge id old new result
  pub named : WalkNames g id old new result

-- how a look-up may end, and why
abbrev pub LookUpSlotEnds : Layout → ℕ → ℕ → List ℕ → ViewState → ViewState → Result (Option ℕ) Fault → Type 0
LookUpSlotEnds g horizon edge id old new (Ok (Some n)) =
    (n < horizon) × (new.base.faults ≡ old.base.faults) × (IsTrue old.base.tells → IsFound g id old new n)
LookUpSlotEnds g horizon edge id old new (Ok None) =
    (new.base.faults ≡ old.base.faults)
    × (IsTrue old.base.tells → IsVolume old.cells old.image g → NoneHasTrail g old.cells old.image id)
LookUpSlotEnds g horizon edge id old new (Err fault) = WalkFails g horizon edge old new fault

-- what a look-up does
pub record LooksUpSlot (g : Layout) (horizon edge : ℕ) (id : List ℕ) (old new : ViewState)
    (result : Result (Option ℕ) Fault) : Type 0 where
  pub viewed : Viewed old new
  pub costs : WalkCosts g id old new
  pub ends : LookUpSlotEnds g horizon edge id old new result
  pub named : LookUpNames g id old new result
