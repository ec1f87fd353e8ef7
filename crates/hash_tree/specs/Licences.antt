-- What licence the evidence of a step has.
use Rattle.std.specs.Prelude.{◌≡◌, ◌≤◌, ℕ, Some, None}
use Rattle.cell_types.specs.Image.{Image}
use Rattle.cell_types.specs.Layout.{Layout}
use Rattle.cell_types.specs.declared.record_cell.RecordCell.TheVariants.{Child}
use Rattle.cell_types.specs.declared.refusal.Evidence.{Evidence}
use Rattle.volume_meaning.specs.Slots.{IsEdge}
use Rattle.volume_meaning.specs.Volumes.{Holds, IsVolume}
use Rattle.tamper_rules.specs.Rules.{IsBroken}
use Rattle.worm_device.specs.Views.{ViewState}
use Rattle.hash_tree.specs.Levels.{IsLevelReached}
use Rattle.hash_tree.specs.declared.level.Level.{Level}

-- The licence of evidence, on an image of so many cells. It stands there; and where cell 0 states this volume, the
-- level was reached from its root, and the bounds end at an edge of the image, the rule is broken there.
pub record IsTreeLicensed (g : Layout) (edge : ℕ) (first : Level) (cells : ℕ) (image : Image)
    (e : Evidence) : Type 0 where
  pub stands : image e.cell ≡ Some e.found
  pub broken : IsVolume cells image g → IsLevelReached g image first → IsEdge g image image edge
      → IsBroken cells image e.rule e.cell

-- Ways from the root, as the view shows them, stand below it: no child cell is planned, and each cell up to the edge is
-- asked for below. So it is with every view of a device and no planned cells.
pub record AsksPathsBelow (edge : ℕ) (view : ViewState) : Type 0 where
  pub children : (at target : ℕ) → Holds view.planned at (Child target) → ⊥
  pub fresh : edge ≤ view.fresh

-- The evidence is licensed in what the view shows; and where its cell is not planned, in what stands below.
pub record IsLicensedBoth (g : Layout) (edge : ℕ) (first : Level) (old new : ViewState) (e : Evidence) : Type 0 where
  pub shown : IsTreeLicensed g edge first new.cells new.image e
  pub below : AsksPathsBelow edge old → old.planned e.cell ≡ None → IsTreeLicensed g edge first new.cells new.lower e
