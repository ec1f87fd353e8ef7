-- Each cell of the device lies in a part of the volume, and no part goes past the device's end.
use Rattle.std.proofs.Common.{◌<◌, ◌+◌, ◌-◌, ◌*◌, ◌/◌, ℕ, inl, inr, arith}
use Rattle.std.proofs.lemmas.Bool.{cases_lt}
use Rattle.cell_types.specs.Layout.{Layout, IsLayout, Part, VolumeCell, BlankCells, Slot, FirstBlock, Root, Pool, LiesIn, PartsCoverTheDevice, pool_at, root_at}

-- the part of a cell
part_of : (g : Layout) → IsLayout g → (cell : ℕ) → cell < g.cells → (part : Part) × LiesIn g part cell
part_of g is cell inside = elim (cases_lt cell 1) [
  | inl volume ↦ (VolumeCell, record { exists = tt; from = omega arith; below = omega arith })
  | inr not_volume ↦ elim (cases_lt cell 4) [
    | inl blank ↦ (BlankCells, record { exists = tt; from = omega arith; below = omega arith })
    | inr not_blank ↦ elim (cases_lt cell (4 + 4 * g.slots)) [
      | inl slot ↦ (Slot ((cell - 4) / 4), record { exists = omega arith; from = omega arith; below = omega arith })
      | inr not_slot ↦ elim (cases_lt cell (root_at g)) [
        | inl block ↦ (FirstBlock ((cell - 4 - 4 * g.slots) / 256), record { exists = omega arith; from = omega arith; below = omega arith })
        | inr not_block ↦ elim (cases_lt cell (pool_at g)) [
          | inl behind ↦ elim (cases_lt cell (root_at g + 32)) [
            | inl root ↦ (Root, record { exists = tt; from = omega arith; below = omega arith })
            | inr time ↦ (FirstBlock g.lists, record { exists = omega arith; from = omega arith; below = omega arith })
          ]
          | inr pool ↦ (Pool, record { exists = tt; from = omega arith; below = omega arith })
        ]
      ]
    ]
  ]
]

-- a cell of a part is on the device
part_inside : (g : Layout) → IsLayout g → (part : Part) (cell : ℕ) → LiesIn g part cell → cell < g.cells
part_inside g is VolumeCell cell lies = omega arith
part_inside g is BlankCells cell lies = omega arith
part_inside g is (Slot n) cell lies = omega arith
part_inside g is (FirstBlock l) cell lies = omega arith
part_inside g is Root cell lies = omega arith
part_inside g is Pool cell lies = omega arith

-- the parts have each cell of the device and no other
pub parts_cover : PartsCoverTheDevice
parts_cover g is = (part_of g is, part_inside g is)
