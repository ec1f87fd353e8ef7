-- What licence the evidence of an insertion has.
use Rattle.std.specs.Prelude.{◌<◌, ℕ}
use Rattle.cell_types.specs.Layout.{Layout, list_at, pool_at, all_lists}
use Rattle.cell_types.specs.declared.refusal.Evidence.{Evidence}
use Rattle.worm_device.specs.Views.{ViewState, IsView}
use Rattle.jump_insertion.specs.Evidence.{ShowsBelow, IsLicensedBelow}

-- what an insertion into a list of a volume shows is licensed over what stands below
abbrev pub EvidenceIsLicensed : Type 0
EvidenceIsLicensed =
    (g : Layout) (s : ViewState) (l key : ℕ) (e : Evidence) → IsView s → l < all_lists g
    → ShowsBelow s (list_at g l) (pool_at g) key e → IsLicensedBelow g s l key e
