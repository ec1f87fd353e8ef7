-- What an overlay keeps of its maps.
use Rattle.std.specs.Prelude.{◌≡◌, ◌<◌, ◌≤◌, ℕ, List, Some, None}
use Rattle.std.specs.Ordering.{nat_cmp}
use Rattle.std.specs.BTreeMap.{BTreeMap, get}
use Rattle.cell_types.specs.Bytes.{IsCell}
use Rattle.worm_device.specs.declared.overlay.TheConstants.{OVERLAY_CELLS}
use Rattle.worm_device.specs.declared.owner.Owner.{Owner}

-- Planned cells are written cells of the overlay, and just these have an owner.
pub record AreOwned (planned : BTreeMap ℕ (List ℕ)) (owners : BTreeMap ℕ Owner) : Type 0 where
  pub inside : (cell : ℕ) (value : List ℕ) → get nat_cmp planned cell ≡ Some value → (cell < OVERLAY_CELLS) × IsCell value
  pub unowned : (cell : ℕ) → get nat_cmp planned cell ≡ None → get nat_cmp owners cell ≡ None
  pub unplanned : (cell : ℕ) → get nat_cmp owners cell ≡ None → get nat_cmp planned cell ≡ None

-- these maps hold what those held before
pub record AreAsBefore (planned : BTreeMap ℕ (List ℕ)) (owners : BTreeMap ℕ Owner) (new_planned : BTreeMap ℕ (List ℕ))
    (new_owners : BTreeMap ℕ Owner) : Type 0 where
  pub cells : (cell : ℕ) → get nat_cmp new_planned cell ≡ get nat_cmp planned cell
  pub names : (cell : ℕ) → get nat_cmp new_owners cell ≡ get nat_cmp owners cell

-- no cell is planned from this one up to, but not with, another
pub record AreUnplanned (planned : BTreeMap ℕ (List ℕ)) (from to : ℕ) : Type 0 where
  pub each : (cell : ℕ) → from ≤ cell → cell < to → get nat_cmp planned cell ≡ None
