-- What is found in an image that is written out, where anything is.
use Rattle.std.proofs.Common.{◌≡◌, ◌+◌, ◌⊎◌, inl, inr, ℕ, List, [], ◌∷◌, Some, true, sym, ◌∙◌, ap, arith, slice_index}
use Rattle.std.proofs.lemmas.Option.{none-some}
use Rattle.cell_types.specs.Layout.{Layout, reserve_at, root_at}
use Rattle.cell_types.specs.declared.record_cell.RecordCell.TheVariants.{Jump, Child}
use Rattle.volume_meaning.specs.Volumes.{Holds, IsWritten}
use Rattle.volume_meaning.specs.Blocks.{Leads, arrived, onwards, pointer_at}
use Rattle.volume_meaning.specs.Nodes.{IsNode, root, under}
use Rattle.small_volume.specs.Images.{image_with}
use Rattle.small_volume.specs.SmallVolume.{small_image, small_layout, small_cells}
use Rattle.small_volume.proofs.OneSlot.{IsAlone}
use Rattle.small_volume.proofs.Small.{slot_0}
use Rattle.small_volume.proofs.Values.{first_or_other, has_no, none_of_kind}

-- the cell has one of the row's numbers
abbrev pub IsOneOf : List (ℕ × List ℕ) → ℕ → Type 0
IsOneOf [] cell = ⊥
IsOneOf ((at, value) ∷ cells) cell = (cell ≡ at) ⊎ IsOneOf cells cell

-- each written cell has
pub one_of : (cells : List (ℕ × List ℕ)) (cell : ℕ) → IsWritten (image_with cells) cell → IsOneOf cells cell
one_of cells cell w = by cells w.stands
  where
    by : (cells : List (ℕ × List ℕ)) → image_with cells cell ≡ Some w.found → IsOneOf cells cell
    by [] stands = none-some w.found stands
    by ((at, first) ∷ cells) stands = elim (first_or_other at first cells cell) [
      | inl same ↦ inl same.0
      | inr differ ↦ inr (by cells (sym differ.1 ∙ stands))
    ]

-- where no cell of a row is a jump cell, no pointer is set
no_pointer : (cells : List (ℕ × List ℕ)) → has_no 7 cells ≡ true → (cell target : ℕ)
    → Holds (image_with cells) cell (Jump target) → ⊥
no_pointer cells none cell target h =
    none_of_kind 7 cells none cell h.cell h.stands (ap (λ v. slice_index v 0) h.is.same)

-- so a list has its first block and no other
pub heads_only : (cells : List (ℕ × List ℕ)) → has_no 7 cells ≡ true → {from to last block : ℕ}
    → Leads (image_with cells) from to last block → block ≡ last
heads_only cells none (arrived block is) = is
heads_only cells none (onwards block level digit target ls d1 d2 jump from to rest) =
    absurd (no_pointer cells none (pointer_at block level digit) target jump)

-- where no cell of a row is a child cell, no node is under another
no_child : (cells : List (ℕ × List ℕ)) → has_no 9 cells ≡ true → (cell target : ℕ)
    → Holds (image_with cells) cell (Child target) → ⊥
no_child cells none cell target h =
    none_of_kind 9 cells none cell h.cell h.stands (ap (λ v. slice_index v 0) h.is.same)

-- so the root is the one node
pub root_only : (g : Layout) (cells : List (ℕ × List ℕ)) → has_no 9 cells ≡ true → {v node : ℕ}
    → IsNode g (image_with cells) v node → (v ≡ 0) × (node ≡ root_at g)
root_only g cells none (root v node is at) = (is, at)
root_only g cells none (under v node w above x is rest xs less child from to) =
    absurd (no_child cells none (above + 16 + x) node child)

-- the numbers of the small volume's eleven written cells
pub numbers : (cell : ℕ) → IsWritten small_image cell
    → (cell ≡ 0) ⊎ (cell ≡ 4) ⊎ (cell ≡ 5) ⊎ (cell ≡ 6) ⊎ (cell ≡ 36) ⊎ (cell ≡ 37) ⊎ (cell ≡ 560)
    ⊎ (cell ≡ 580) ⊎ (cell ≡ 581) ⊎ (cell ≡ 582) ⊎ (cell ≡ 583) ⊎ ⊥
numbers cell w = one_of small_cells cell w

-- its slot 0 alone is taken
pub alone : IsAlone small_layout small_image 580 4 13 3
alone = record { some = omega arith; only = λ n inside w. omega (arith, numbers (reserve_at n) w); done = slot_0 }
