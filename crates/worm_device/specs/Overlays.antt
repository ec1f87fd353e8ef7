-- What a view of planned cells shows, and what planning one more does.
use Rattle.std.specs.Prelude.{◌≡◌, ◌≢◌, ℕ, List, ◌∷◌, Option, Some, None, Result, Ok, Err, nat_lt, min, if◌then◌else◌}
use Rattle.std.specs.Ordering.{nat_cmp}
use Rattle.std.specs.BTreeMap.{BTreeMap, get}
use Rattle.cell_types.specs.Image.{Image}
use Rattle.cell_types.specs.declared.refusal.NoMemory.{NoMemory}
use Rattle.worm_device.specs.Views.{ViewState}
use Rattle.worm_device.specs.declared.overlay.Overlay.{Overlay}
use Rattle.worm_device.specs.declared.overlay.TheConstants.{OVERLAY_CELLS}
use Rattle.worm_device.specs.declared.owner.Owner.{Owner}

-- the planned value where there is one, and else what stands below
abbrev pub over : Option (List ℕ) → Option (List ℕ) → Option (List ℕ)
over (Some value) below = Some value
over None below = below

-- the planned cells over an image, which is asked only before this cell
abbrev pub planned_over : BTreeMap ℕ (List ℕ) → ℕ → Image → Image
planned_over planned fresh below = λ cell. over (get nat_cmp planned cell) (if nat_lt cell fresh then below cell else None)

-- a view as it shows itself with planned cells over it, which are held by a loan of this name
abbrev pub seen_over : ViewState → ℕ → BTreeMap ℕ (List ℕ) → BTreeMap ℕ Owner → ℕ → ViewState
seen_over s name planned owners fresh = record {
  cells = OVERLAY_CELLS;
  image = planned_over planned (min fresh s.cells) s.image;
  planned = λ cell. get nat_cmp planned cell;
  owners = λ cell. get nat_cmp owners cell;
  lower = s.image;
  fresh = min fresh s.cells;
  base = s.base;
  loans = name ∷ s.loans;
}

-- an overlay as it shows itself, over a view of this meaning
abbrev pub of_overlay : {V : Type 0} → (V → ViewState) → Overlay V → ViewState
of_overlay seen o = seen_over (seen o.view) o.own.ghost_name o.own.now.planned o.own.now.owners o.fresh

-- nothing is planned or said to be somebody's anew
pub record PlansNoMore (old new : ViewState) : Type 0 where
  pub image : (cell : ℕ) → new.image cell ≡ old.image cell
  pub planned : (cell : ℕ) → new.planned cell ≡ old.planned cell
  pub owners : (cell : ℕ) → new.owners cell ≡ old.owners cell

-- the cell is planned with this value, for this owner
pub record PlansCell (at : ℕ) (value : List ℕ) (owner : Owner) (new : ViewState) : Type 0 where
  pub image : new.image at ≡ Some value
  pub planned : new.planned at ≡ Some value
  pub for_whom : new.owners at ≡ Some owner

-- a cell more, or none where there is no memory
abbrev pub PlanCellEnds : ℕ → List ℕ → Owner → ViewState → ViewState → Result Unit NoMemory → Type 0
PlanCellEnds at value owner old new (Ok done) = PlansCell at value owner new
PlanCellEnds at value owner old new (Err none) = PlansNoMore old new

-- Planning one cell: what stands below, and what is planned in other cells, is as it was.
pub record Plans (at : ℕ) (value : List ℕ) (owner : Owner) (old new : ViewState) (result : Result Unit NoMemory)
    : Type 0 where
  pub cells : new.cells ≡ old.cells
  pub lower : new.lower ≡ old.lower
  pub fresh : new.fresh ≡ old.fresh
  pub base : new.base ≡ old.base
  pub loans : new.loans ≡ old.loans
  pub others : (cell : ℕ) → cell ≢ at
      → (new.image cell ≡ old.image cell) × (new.planned cell ≡ old.planned cell) × (new.owners cell ≡ old.owners cell)
  pub ends : PlanCellEnds at value owner old new result
