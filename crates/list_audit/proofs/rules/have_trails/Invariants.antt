-- The postings before this turn's have trails.
use Rattle.std.proofs.Common.{◌≡◌, ◌<◌, ℕ, Some}
use Rattle.std.specs.Prelude.{slice_get}
use Rattle.cell_types.specs.Layout.{list_at}
use Rattle.volume_meaning.specs.Postings.{ListedPosting}
use Rattle.log_audit.specs.Kept.{image_of_kept}
use Rattle.list_audit.specs.Trails.{HasTrail}
use Rattle.list_audit.proofs.rules.have_trails.Given as goal

abbrev pub invariant-loop-row : goal.invariant-loop-row
invariant-loop-row l = (i : ℕ) (row : ListedPosting) → i < l.row-index → slice_get l.rows i ≡ Some row
    → HasTrail l.geometry (image_of_kept l.kept) row.posting (list_at l.geometry row.list)
