-- How the postings of the time list are found one after another.
use Rattle.std.specs.Prelude.{◌≡◌, ◌≤◌, ◌⊎◌, ℕ, Option, Some, None, Result, Ok, Err, IsTrue}
use Rattle.byteorder.specs.Endian.{big_number}
use Rattle.cell_types.specs.declared.refusal.Fault.{Fault}
use Rattle.volume_meaning.specs.Blocks.{PostingFields}
use Rattle.worm_device.specs.Views.{ViewState, Viewed}
use Rattle.jump_block.specs.Entries.{posting_of}
use Rattle.jump_block.specs.declared.held_entry.Entry.{Entry}
use Rattle.jump_index.specs.Searches.{HasBoundedTrail, IsListEntry, IsEntryBehind}
use Rattle.posting_list.specs.Naming.{FaultSays}
use Rattle.posting_list.specs.Searches.{head_of, within}
use Rattle.posting_list.specs.declared.reach.Reach.{Reach}

-- the slot that a posting of the time list names, in the first four bytes of its tag
abbrev pub slot_named : PostingFields → ℕ
slot_named p = big_number 4 p.tag

-- the posting in the cell at has a trail from the first block of the time list
abbrev pub IsTimed : Reach → ViewState → ℕ → PostingFields → Type 0
IsTimed r s at p = HasBoundedTrail r.bounds s (head_of r r.volume.geometry.lists) at p

-- Of two entries, of which there may be no second, this is the second where it has the key of the first, and else the
-- first.
abbrev pub IsOfKey : Entry → Option Entry → Entry → Type 0
IsOfKey first None e = e ≡ first
IsOfKey first (Some second) e = ((second.key ≡ first.key) × (e ≡ second)) ⊎ ((second.key ≡ first.key → ⊥) × (e ≡ first))

-- The entry is the first of the time list with a stamp from one to another: no posting that had a trail at entry has a
-- stamp of this span that is less, and one with its stamp is this one.
pub record IsNextPosting (r : Reach) (from to : ℕ) (old new : ViewState) (e : Entry) : Type 0 where
  pub from_is : from ≤ e.key
  pub to_is : e.key ≤ to
  pub entry : IsListEntry old.cells e
  pub behind : IsTrue old.base.tells
      → IsEntryBehind (within r) new.image (head_of r r.volume.geometry.lists) e
  pub first : IsTrue old.base.tells → (at : ℕ) (p : PostingFields) → IsTimed r old at p → from ≤ p.key
      → (e.key ≤ p.key) × (p.key ≡ e.key → p ≡ posting_of e)

-- how the search for it may end, and why
abbrev pub NextPostingEnds : Reach → ℕ → ℕ → ViewState → ViewState → Result (Option Entry) Fault → Type 0
NextPostingEnds r from to old new (Ok (Some e)) = IsNextPosting r from to old new e
NextPostingEnds r from to old new (Ok None) =
    IsTrue old.base.tells → (at : ℕ) (p : PostingFields) → IsTimed r old at p → from ≤ p.key → p.key ≤ to → ⊥
NextPostingEnds r from to old new (Err fault) = FaultSays r old new fault

pub record NextPosting (r : Reach) (from to : ℕ) (old new : ViewState) (result : Result (Option Entry) Fault)
    : Type 0 where
  pub viewed : Viewed old new
  pub ends : NextPostingEnds r from to old new result
