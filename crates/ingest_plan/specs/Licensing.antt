-- What a refusal leaves planned, so that the evidence that it names is licensed.
use Rattle.std.specs.Prelude.{◌≤◌}
use Rattle.cell_types.specs.Image.{IsUnchanged}
use Rattle.cell_types.specs.Layout.{Layout}
use Rattle.worm_device.specs.Views.{ViewState}
use Rattle.jump_insertion.specs.Evidence.{AreInTheirPlaces, NothingBelowPlans}

-- Where what stands below is as it was, nothing stands below what is planned before the cells that are new; and where
-- these begin within the volume, each planned cell is in its place.
pub record IsLicensable (g : Layout) (old new : ViewState) : Type 0 where
  pub below : IsUnchanged old.lower new.lower → NothingBelowPlans new
  pub places : new.fresh ≤ g.cells → AreInTheirPlaces g new
