-- A journal cell with the target can stand at the places from one to the other alone.
use Rattle.std.proofs.Common.{◌-◌}
use Rattle.log_audit.specs.Kept.{image_of_kept}
use Rattle.slot_audit.proofs.Rising.{IsOnlyAt}
use Rattle.slot_audit.proofs.places.journal_place_of.Given as goal

abbrev pub invariant-loop-low : goal.invariant-loop-low
invariant-loop-low l = IsOnlyAt (image_of_kept l.kept) l.stored l.cell l.low l.high

abbrev pub decreases-loop-low : goal.decreases-loop-low
decreases-loop-low l = l.high - l.low
