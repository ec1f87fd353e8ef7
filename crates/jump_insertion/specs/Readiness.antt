-- What may be planned, and for whom, when a posting is inserted into a list.
use Rattle.std.specs.Prelude.{◌≡◌, ◌<◌, ◌≤◌, ◌+◌, ◌*◌, ◌^◌, ◌⊎◌, ℕ, Some}
use Rattle.cell_types.specs.declared.record_cell.RecordCell.TheVariants.{Jump}
use Rattle.volume_meaning.specs.Volumes.{Holds}
use Rattle.volume_meaning.specs.Blocks.{PostingFields, InFront, Leads, pointer_at}
use Rattle.volume_meaning.specs.Nodes.{AreApart}
use Rattle.jump_block.specs.Pointing.{HasFull, IsPointerPlace, HasKeyIn}
use Rattle.worm_device.specs.Views.{ViewState}
use Rattle.worm_device.specs.declared.owner.Owner.{Owner}

-- No planned cell of this block is for another, and no other block of the list that has a planned cell meets it.
pub record IsOwnBlock (s : ViewState) (head block : ℕ) : Type 0 where
  pub inside : (cell : ℕ) (owner : Owner) → s.owners cell ≡ Some owner → block ≤ cell → cell < block + 256
      → (owner.head ≡ head) × (owner.base ≡ block)
  pub apart : (cell : ℕ) (owner : Owner) → s.owners cell ≡ Some owner → owner.head ≡ head
      → (owner.base ≡ block) ⊎ AreApart owner.base 256 block 256

-- The block is new, or one of the list as it stands below.
pub data IsBlockReached (s : ViewState) (head floor block : ℕ) : Type 0 where
  is_new : s.fresh ≤ block → IsBlockReached s head floor block
  stands_below : block + 256 ≤ s.fresh → Leads s.lower floor s.fresh block head → IsBlockReached s head floor block

-- A planned cell of a block is a posting of its front with a key below this one, or a pointer to a block that has a
-- planned posting of the pointer's span.
pub data IsListCell (s : ViewState) (head floor next key cell base : ℕ) : Type 0 where
  a_posting : (place : ℕ) (p : PostingFields) → cell ≡ base + place → place < 128 → InFront s.image base place p
      → p.key < key → IsListCell s head floor next key cell base
  a_pointer : (level digit target l at : ℕ) (owner : Owner) → IsPointerPlace level digit
      → cell ≡ pointer_at base level digit → Holds s.image cell (Jump target)
      → floor ≤ target → target + 256 ≤ next → HasFull s.image base l
      → HasKeyIn s.image target (l + digit * 16 ^ level) (l + digit * 16 ^ level + 16 ^ level)
      → s.owners at ≡ Some owner → owner.head ≡ head → owner.base ≡ target → IsListCell s head floor next key cell base

-- A posting with this key may be inserted into the list that begins at head, whose other blocks lie from `floor` on:
-- what is planned for the list was planned by insertions of smaller keys, in blocks of its own that lie before the
-- pool's next cell; and nobody else has planned a cell in them, or in the first block.
pub record IsReadyList (s : ViewState) (head floor next key : ℕ) : Type 0 where
  pub first : IsOwnBlock s head head
  pub mine : (cell : ℕ) (owner : Owner) → s.owners cell ≡ Some owner → owner.head ≡ head
      → IsListCell s head floor next key cell owner.base
  pub named : (cell : ℕ) (owner : Owner) → s.owners cell ≡ Some owner → owner.head ≡ head → IsOwnBlock s head owner.base
  pub reached : (cell : ℕ) (owner : Owner) → s.owners cell ≡ Some owner → owner.head ≡ head
      → IsBlockReached s head floor owner.base
  pub inside : (cell : ℕ) (owner : Owner) → s.owners cell ≡ Some owner → owner.head ≡ head
      → (owner.base ≤ cell) × (cell < owner.base + 256) × (owner.base + 256 ≤ next)

-- Nothing is planned for this list, and no cell of its first block is planned.
pub record IsUntouched (s : ViewState) (head : ℕ) : Type 0 where
  pub none : (cell : ℕ) (owner : Owner) → s.owners cell ≡ Some owner → owner.head ≡ head → ⊥
  pub first : (cell : ℕ) (owner : Owner) → s.owners cell ≡ Some owner → head ≤ cell → cell < head + 256 → ⊥
