-- The tiles of the places before this turn's.
use Rattle.std.specs.Ordering.{nat_cmp}
use Rattle.std.specs.BTreeMap.{get}
use Rattle.log_audit.specs.Kept.{image_of_kept}
use Rattle.slot_audit.specs.Tables.{IsTable}
use Rattle.slot_audit.proofs.table.tiles_of.Given as goal

abbrev pub invariant-loop-place : goal.invariant-loop-place
invariant-loop-place l = IsTable (image_of_kept l.kept) l.stored l.place (λ t. get nat_cmp l.tiles t)
