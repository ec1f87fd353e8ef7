-- Which slots the list of a term must not pass, for which it vouches, and to which it comes.
use Rattle.std.specs.Prelude.{◌≡◌, ◌<◌, ◌+◌, ◌/◌, ℕ, List, Some, IsTrue, slice_get}
use Rattle.cell_types.specs.Image.{Image}
use Rattle.cell_types.specs.Layout.{list_at}
use Rattle.volume_meaning.specs.Slots.{IsDoneSlot}
use Rattle.volume_meaning.specs.Volumes.{Holds, IsVolume}
use Rattle.volume_meaning.specs.Blocks.{PostingFields, posting_record, Leads, Trail}
use Rattle.volume_meaning.specs.Postings.{HasPostings, HasTag, IsWordPosting}
use Rattle.worm_device.specs.Views.{ViewState}
use Rattle.posting_list.specs.declared.reach.Reach.{Reach}
use Rattle.posting_list.specs.declared.sought_term.SoughtTerm.{SoughtTerm}

-- The term's list must not pass the slot: of some body that has the term's tag the postings exist, and those that it
-- has in the term's list, under the slot, all have trails from the list's first block. Whether a document of this body
-- stands in the slot is not asked. Where a view does not tell its image nothing is known to stand.
pub record IsSlotOwed (r : Reach) (term : SoughtTerm) (s : ViewState) (slot : ℕ) : Type 0 where
  pub tells : IsTrue s.base.tells
  pub volume : IsVolume s.cells s.image r.volume.geometry
  pub list : term.list < r.volume.geometry.lists
  pub body : List ℕ
  pub postings : HasPostings r.volume.geometry body
  pub tagged : HasTag r.volume.geometry body term.list term.tag
  pub trails : (p : PostingFields) → IsWordPosting r.volume.geometry body slot term.list p
      → (at : ℕ) × Trail s.image r.bounds.pool s.cells at p (list_at r.volume.geometry term.list)

-- The term's list vouches for the slot: a posting with the term's tag and a key of the slot stands in a block of the
-- list, which lies within the bounds or is the first.
pub record IsVouched (r : Reach) (term : SoughtTerm) (image : Image) (slot : ℕ) : Type 0 where
  pub block : ℕ
  pub place : ℕ
  pub p : PostingFields
  pub leads : Leads image r.bounds.pool r.bounds.edge block (list_at r.volume.geometry term.list)
  pub in_places : place < 128
  pub holds : Holds image (block + place) (posting_record p)
  pub same_tag : p.tag ≡ term.tag
  pub same_slot : p.key / 256 ≡ slot

-- A posting of the slot stands in a block of the term's list, whichever tag it has.
pub record HasPosting (r : Reach) (term : SoughtTerm) (image : Image) (slot : ℕ) : Type 0 where
  pub block : ℕ
  pub place : ℕ
  pub p : PostingFields
  pub leads : Leads image r.bounds.pool r.bounds.edge block (list_at r.volume.geometry term.list)
  pub in_places : place < 128
  pub holds : Holds image (block + place) (posting_record p)
  pub same_slot : p.key / 256 ≡ slot

-- the term of this number must not be passed at the slot
pub record Owes (r : Reach) (terms : List SoughtTerm) (s : ViewState) (which slot : ℕ) : Type 0 where
  pub term : SoughtTerm
  pub there : slice_get terms which ≡ Some term
  pub owed : IsSlotOwed r term s slot

-- where the view tells its image, the list of the term of this number vouches for the slot
abbrev pub Vouches : Reach → List SoughtTerm → ViewState → ℕ → ℕ → Type 0
Vouches r terms s which slot =
    IsTrue s.base.tells
    → (term : SoughtTerm) × (slice_get terms which ≡ Some term) × IsVouched r term s.image slot

-- where the view tells its image, the list of the term of this number has a posting of the slot
abbrev pub Lands : Reach → List SoughtTerm → ViewState → ℕ → ℕ → Type 0
Lands r terms s which slot =
    IsTrue s.base.tells
    → (term : SoughtTerm) × (slice_get terms which ≡ Some term) × HasPosting r term s.image slot

-- the slot lies below the horizon, is one of the volume, and is done where the view tells its image: such slots alone are
-- answered
abbrev pub IsLiveSlot : Reach → ViewState → ℕ → Type 0
IsLiveSlot r s slot =
    (slot < r.horizon)
    × (slot < r.volume.geometry.slots)
    × (IsTrue s.base.tells → IsDoneSlot r.volume.geometry s.image slot)
