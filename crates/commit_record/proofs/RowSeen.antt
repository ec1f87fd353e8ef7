-- What a row of a slot's cells holds, as what was found in them.
use Rattle.std.proofs.Common.{◌≡◌, ◌<◌, ◌≤◌, ◌+◌, arith, ℕ, List, length, Option, Some, subst}
use Rattle.std.specs.Prelude.{IsTrue, slice_get}
use Rattle.cell_types.specs.Image.{Image}
use Rattle.cell_types.specs.Layout.{Layout, TakesStamps, reserve_at, outcome_at, done_at, spare_at}
use Rattle.worm_device.specs.Looks.{IsOfCell, IsSeen}
use Rattle.worm_device.specs.ReadRows.{AreFoundBetween, IsFoundBetween}
use Rattle.worm_device.specs.Views.{ViewState}
use Rattle.worm_device.specs.declared.looks.Found.{Found}
use Rattle.worm_device.specs.declared.looks.Found.TheVariants.{Blank, Record, Stray}
use Rattle.commit_record.specs.SlotCells.{SeenCells, SeenStamp, found_cell}

-- what a cell was found to hold between two images was seen between them
found_seen : (before after : Image) (at : ℕ) (found : Found) → IsOfCell at found
    → IsFoundBetween before after at (found_cell found) → IsSeen before after at found
found_seen before after at Blank of between = between
found_seen before after at (Record cell held) of between = (between, of)
found_seen before after at (Stray cell) of between = (between, of)

-- rows of a slot's cells, from its reserve cell on
module _ (g : Layout) (n at : ℕ) (row : List (Option (List ℕ))) (old new : ViewState)
    (read : IsTrue old.base.tells → AreFoundBetween (length row) at row old.image new.image)
    (here : at ≡ reserve_at n) where
  -- one of them
  pub cell_seen : (place cell : ℕ) (found : Found) → cell ≡ reserve_at n + place → place < length row
      → IsOfCell cell found
      → slice_get row place ≡ Some (found_cell found) → IsTrue old.base.tells → IsSeen old.image new.image cell found
  cell_seen place cell found is less of holds tells =
      found_seen old.image new.image cell found of
      (subst (λ (k : ℕ). IsFoundBetween old.image new.image k (found_cell found)) (omega (arith, here, is))
      (read tells place (found_cell found) less holds))

  pub stamp_seen : (spare : Found) → TakesStamps g → 4 ≤ length row → IsOfCell (spare_at n) spare
      → slice_get row 3 ≡ Some (found_cell spare) → IsTrue old.base.tells
      → SeenStamp g n (Some spare) old.image new.image
  stamp_seen spare stamped four of holds tells =
      (stamped, cell_seen 3 (spare_at n) spare (omega arith) (omega (arith, four)) of holds tells)

  pub row_seen : (reserve outcome done : Found) (stamp : Option Found) → 3 ≤ length row
      → IsOfCell (reserve_at n) reserve → IsOfCell (outcome_at n) outcome → IsOfCell (done_at n) done
      → slice_get row 0 ≡ Some (found_cell reserve) → slice_get row 1 ≡ Some (found_cell outcome)
      → slice_get row 2 ≡ Some (found_cell done)
      → (IsTrue old.base.tells → SeenStamp g n stamp old.image new.image) → IsTrue old.base.tells
      → SeenCells g n reserve outcome done stamp old.image new.image
  row_seen reserve outcome done stamp three of_r of_o of_d is_r is_o is_d seen tells = (
    cell_seen 0 (reserve_at n) reserve (omega arith) (omega (arith, three)) of_r is_r tells,
    cell_seen 1 (outcome_at n) outcome (omega arith) (omega (arith, three)) of_o is_o tells,
    cell_seen 2 (done_at n) done (omega arith) (omega (arith, three)) of_d is_d tells,
    seen tells,
  )
