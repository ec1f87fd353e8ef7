-- What an insertion names as evidence, and what licence that has.
use Rattle.std.specs.Prelude.{◌≡◌, ◌≢◌, ◌<◌, ◌≤◌, ◌+◌, ◌*◌, ◌⊎◌, ℕ, List, Some, None}
use Rattle.cell_types.specs.Image.{Image}
use Rattle.cell_types.specs.Layout.{Layout, list_at, root_at, pool_at}
use Rattle.cell_types.specs.declared.refusal.Evidence.{Evidence}
use Rattle.volume_meaning.specs.Slots.{HasStamp, IsDoneSlot, IsEdge, IsHorizon}
use Rattle.volume_meaning.specs.Volumes.{Holds, IsVolume}
use Rattle.volume_meaning.specs.Blocks.{PostingFields, posting_record, InFront, InSpan, Leads, pointer_at}
use Rattle.volume_meaning.specs.Nodes.{IsBlockOf, IsNode}
use Rattle.tamper_rules.specs.Rules.{IsBroken, HasPlace}
use Rattle.tamper_rules.specs.declared.numbers.TheConstants.{BLOCK_OUT_OF_ORDER, FAKE_POSTING, LOST_POINTER}
use Rattle.jump_block.specs.Fronts.{IsBadEntry}
use Rattle.jump_block.specs.Pointers.{IsNoJump}
use Rattle.jump_block.specs.Pointing.{HasFull, HasPointer, IsPointerPlace}
use Rattle.worm_device.specs.Views.{ViewState}
use Rattle.worm_device.specs.declared.owner.Owner.{Owner}
use Rattle.jump_insertion.specs.Readiness.{IsBlockReached}

-- the evidence stands below, and nothing is planned there
pub record StandsBelow (s : ViewState) (e : Evidence) : Type 0 where
  pub free : s.planned e.cell ≡ None
  pub before : e.cell < s.fresh
  pub stands : s.image e.cell ≡ Some e.found

-- A planned cell that is for another lies in this block of the list, or is of another block of the list that meets it.
pub record IsMetBy (s : ViewState) (head block cell : ℕ) (owner : Owner) : Type 0 where
  pub planned : s.owners cell ≡ Some owner
  pub other : owner.head ≡ head → owner.base ≡ block → ⊥
  pub meets : ((block ≤ cell) × (cell < block + 256))
      ⊎ ((owner.head ≡ head) × (owner.base < block + 256) × (block < owner.base + 256))

pub record IsBlockMet (s : ViewState) (head block : ℕ) : Type 0 where
  pub cell : ℕ
  pub owner : Owner
  pub is : IsMetBy s head block cell owner

-- Why a pointer that stands below leads nowhere: it is no jump cell; its target lies outside; its block is full, and no
-- key of the target's front lies in its span; or the target meets what is planned for another, or a block of the list
-- that begins elsewhere.
pub data IsBadHop (s : ViewState) (head floor block level digit : ℕ) (found : List ℕ) : Type 0 where
  no_jump : IsNoJump s.image (pointer_at block level digit) found → IsBadHop s head floor block level digit found
  outside : (target : ℕ) → HasPointer s.image block level digit target → (target < floor) ⊎ (s.fresh < target + 256)
      → IsBadHop s head floor block level digit found
  no_key : (target l : ℕ) → HasPointer s.image block level digit target → HasFull s.image block l
      → target + 256 ≤ s.fresh → floor ≤ target
      → ((place : ℕ) (p : PostingFields) → place < 128 → InFront s.image target place p → InSpan l level digit p.key → ⊥)
      → IsBadHop s head floor block level digit found
  meets : (target : ℕ) → HasPointer s.image block level digit target → floor ≤ target → target + 256 ≤ s.fresh
      → IsBlockMet s head target → IsBadHop s head floor block level digit found
  meets_block : (target home : ℕ) → HasPointer s.image block level digit target → floor ≤ target
      → target + 256 ≤ s.fresh → IsBlockReached s head floor home
      → home ≢ target → target < home + 256 → home < target + 256 → IsBadHop s head floor block level digit found

-- The evidence stands below in a block of the list: an entry out of order, a pointer that leads nowhere, or a posting
-- whose key is not below the new one.
pub data ShowsBelow (s : ViewState) (head floor key : ℕ) (e : Evidence) : Type 0 where
  bad_entry : (block place : ℕ) → Leads s.lower floor s.fresh block head → StandsBelow s e
      → e.rule ≡ BLOCK_OUT_OF_ORDER → e.cell ≡ block + place → place < 128
      → IsBadEntry s.image block place e.found → ShowsBelow s head floor key e
  bad_pointer : (block level digit : ℕ) → Leads s.lower floor s.fresh block head → StandsBelow s e
      → e.rule ≡ LOST_POINTER → IsPointerPlace level digit → e.cell ≡ pointer_at block level digit
      → IsBadHop s head floor block level digit e.found → ShowsBelow s head floor key e
  late : (block place : ℕ) (p : PostingFields) → Leads s.lower floor s.fresh block head → StandsBelow s e
      → e.rule ≡ FAKE_POSTING → e.cell ≡ block + place → place < 128
      → Holds s.image e.cell (posting_record p) → key ≤ p.key → ShowsBelow s head floor key e

-- nothing stands below what is planned before the cells that are new
abbrev pub NothingBelowPlans : ViewState → Type 0
NothingBelowPlans s =
    (cell : ℕ) (value : List ℕ) → s.planned cell ≡ Some value → cell < s.fresh → s.lower cell ≡ None

-- A planned cell lies in the block or node that its owner names, which is new, or one of the owner's list or tree as it
-- stands below.
pub data IsInItsPlace (g : Layout) (s : ViewState) (cell : ℕ) (owner : Owner) : Type 0 where
  of_new : s.fresh ≤ owner.base → owner.base ≤ cell → IsInItsPlace g s cell owner
  of_list : (l : ℕ) → owner.head ≡ list_at g l → IsBlockOf g s.lower l owner.base → owner.base ≤ cell
      → cell < owner.base + 256 → IsInItsPlace g s cell owner
  of_tree : (v : ℕ) → owner.head ≡ root_at g → IsNode g s.lower v owner.base → owner.base ≤ cell
      → cell < owner.base + 32 → IsInItsPlace g s cell owner

abbrev pub AreInTheirPlaces : Layout → ViewState → Type 0
AreInTheirPlaces g s = (cell : ℕ) (owner : Owner) → s.owners cell ≡ Some owner → IsInItsPlace g s cell owner

-- A late posting: it stands in a block of the list as it is below, and its key is not below the new one.
pub record IsLatePosting (s : ViewState) (head floor key : ℕ) (e : Evidence) : Type 0 where
  pub block : ℕ
  pub place : ℕ
  pub p : PostingFields
  pub leads : Leads s.lower floor s.fresh block head
  pub at : e.cell ≡ block + place
  pub in_places : place < 128
  pub posting : Holds s.lower e.cell (posting_record p)
  pub late : key ≤ p.key

-- Each stamp of a done slot below n is before this one.
abbrev pub IsPastStamps : Layout → Image → ℕ → ℕ → Type 0
IsPastStamps g image n seconds =
    (m before : ℕ) → m < n → IsDoneSlot g image m → HasStamp image m before → before < seconds

-- A key of list l is past those of the documents below slot n: in a list of words none of theirs is as great; the time
-- list's keys are stamps.
abbrev pub IsPastSlots : Layout → Image → ℕ → ℕ → ℕ → Type 0
IsPastSlots g image n l key = (l < g.lists → 256 * n ≤ key) × (l ≡ g.lists → IsPastStamps g image n key)

-- The licence of an insertion's evidence over what stands below, for list l of a volume whose pool begins at the floor.
-- It stands there, in a place of its rule. A posting that is named is late; where cell 0 states the volume, what is new
-- begins at an edge of what stands below, and the new key is past those of the slots below the horizon, it breaks its rule
-- there.
-- What else is named does so where cell 0 states the volume, what is new begins at an edge, nothing stands below what is
-- planned before that, and what is planned is in its place.
pub record IsLicensedBelow (g : Layout) (s : ViewState) (l key : ℕ) (e : Evidence) : Type 0 where
  pub stands : s.lower e.cell ≡ Some e.found
  pub place : s.fresh ≤ g.cells → HasPlace g e
  pub late : e.rule ≡ FAKE_POSTING → IsLatePosting s (list_at g l) (pool_at g) key e
  pub past : (n : ℕ) → IsHorizon g s.lower s.lower n → IsPastSlots g s.lower n l key → e.rule ≡ FAKE_POSTING
      → IsVolume g.cells s.lower g → IsEdge g s.lower s.lower s.fresh → IsBroken g.cells s.lower e.rule e.cell
  pub broken : e.rule ≢ FAKE_POSTING → IsVolume g.cells s.lower g → IsEdge g s.lower s.lower s.fresh
      → NothingBelowPlans s → AreInTheirPlaces g s → IsBroken g.cells s.lower e.rule e.cell
