-- Where two lists of a block suffice for rule 9.
use Rattle.std.specs.Prelude.{◌≡◌, ◌⊎◌, ℕ, List}
use Rattle.cell_types.specs.Image.{Image}
use Rattle.cell_types.specs.Layout.{Layout}
use Rattle.volume_meaning.specs.Blocks.{PostingFields, posting_record}
use Rattle.volume_meaning.specs.Volumes.{Holds}
use Rattle.list_audit.specs.Blocks.{IsAmongBlocks, IsShared}
use Rattle.list_audit.specs.Owing.{IsPostingOwed}
use Rattle.list_audit.specs.declared.listed.ListBlock.{ListBlock}

-- a list that has the block among these, and is not owed the posting
pub record IsForeign (g : Layout) (image : Image) (blocks : List ListBlock) (block : ℕ) (p : PostingFields) : Type 0 where
  pub list : ℕ
  pub among : IsAmongBlocks blocks list block
  pub not_owed : IsPostingOwed g image list p → ⊥

-- a posting at the first place of the block is foreign to a list that has it among these
abbrev pub BeginsForeign : Layout → Image → List ListBlock → ℕ → Type 0
BeginsForeign g image blocks block = (p : PostingFields) → Holds image block (posting_record p) → IsForeign g image blocks block p

-- so it is, where these are one block, to the list of one of them
abbrev pub IsDecided : Layout → Image → ListBlock → ListBlock → Type 0
IsDecided g image before b = before.block ≡ b.block → (p : PostingFields) → Holds image b.block (posting_record p)
    → (IsPostingOwed g image before.list p → ⊥) ⊎ (IsPostingOwed g image b.list p → ⊥)

-- and so it is if two lists have the block
abbrev pub AreDecided : Layout → Image → List ListBlock → Type 0
AreDecided g image blocks = (block : ℕ) → IsShared blocks block → BeginsForeign g image blocks block
