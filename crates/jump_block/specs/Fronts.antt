-- How a look for a key in one block ends.
use Rattle.std.specs.Prelude.{◌≡◌, ◌<◌, ◌≤◌, ◌+◌, ◌%◌, ℕ, List, Option, Some, None, Result, Ok, Err, IsTrue}
use Rattle.cell_types.specs.Image.{Image}
use Rattle.cell_types.specs.declared.refusal.Fault.{Fault}
use Rattle.cell_types.specs.declared.refusal.Fault.TheVariants.{Tampered, Failed}
use Rattle.volume_meaning.specs.Volumes.{Holds}
use Rattle.volume_meaning.specs.Blocks.{PostingFields, posting_record, InFront}
use Rattle.tamper_rules.specs.declared.numbers.TheConstants.{BLOCK_OUT_OF_ORDER}
use Rattle.worm_device.specs.Counts.{Rose}
use Rattle.worm_device.specs.Views.{ViewState, Viewed}
use Rattle.jump_block.specs.Entries.{posting_of, IsNoPosting}
use Rattle.jump_block.specs.declared.known_front.Front.{Front}
use Rattle.jump_block.specs.declared.known_front.Front.TheVariants.{At, Open, Full}

-- a place of the block's front holds a posting with this key
pub record HasKeyAt (image : Image) (block place key : ℕ) : Type 0 where
  pub p : PostingFields
  pub in_front : InFront image block place p
  pub same : p.key ≡ key

-- The places before this one are of the block's front and hold keys below x: there are none, or the last of them
-- does, and keys rise.
pub record AreBelow (image : Image) (block place x : ℕ) : Type 0 where
  pub last : (before : ℕ) → place ≡ before + 1 → (p : PostingFields) × InFront image block before p × (p.key < x)

-- the greatest key before this place, where there is one
abbrev pub EndsWith : Image → ℕ → ℕ → Option ℕ → Type 0
EndsWith image block place None = place ≡ 0
EndsWith image block place (Some key) = (before : ℕ) × (place ≡ before + 1) × HasKeyAt image block before key

-- The entry at this place, behind places of the front, is out of order: it is no posting, or its key is not greater
-- than the one before.
pub data IsBadEntry (image : Image) (block place : ℕ) (found : List ℕ) : Type 0 where
  no_posting : IsNoPosting image (block + place) found → IsBadEntry image block place found
  does_not_rise : (before key : ℕ) (p : PostingFields) → place ≡ before + 1 → HasKeyAt image block before key
      → image (block + place) ≡ Some found → Holds image (block + place) (posting_record p) → p.key ≤ key
      → IsBadEntry image block place found

-- The first entry with a key at or past x, behind keys below it; or a blank place behind keys below it, or a full
-- front of such keys; or an entry behind such keys that is out of order.
abbrev pub FirstEnds : ℕ → ℕ → ViewState → ViewState → Result Front Fault → Type 0
FirstEnds x block old new (Ok (At e)) =
    (e.block ≡ block) × (e.place < 128) × (x ≤ e.key) × (e.key % 256 ≤ e.last)
    × (IsTrue old.base.tells → InFront new.image block e.place (posting_of e) × AreBelow new.image block e.place x)
FirstEnds x block old new (Ok (Open n greatest)) =
    (n < 128)
    × (IsTrue old.base.tells → (new.image (block + n) ≡ None) × AreBelow new.image block n x
    × EndsWith new.image block n greatest)
FirstEnds x block old new (Ok (Full l)) = (l < x) × (IsTrue old.base.tells → HasKeyAt new.image block 127 l)
FirstEnds x block old new (Err Failed) = Rose old.base.faults new.base.faults
FirstEnds x block old new (Err (Tampered e)) =
    (e.rule ≡ BLOCK_OUT_OF_ORDER) × (place : ℕ) × (place < 128) × (e.cell ≡ block + place)
    × (IsTrue old.base.tells → IsBadEntry new.image block place e.found × AreBelow new.image block place x)

-- a look for a key in a block, at a cost of so many reads at most
pub record FindsInFront (x block cost : ℕ) (old new : ViewState) (result : Result Front Fault) : Type 0 where
  pub viewed : Viewed old new
  pub reads : new.base.reads ≤ old.base.reads + cost
  pub ends : FirstEnds x block old new result
