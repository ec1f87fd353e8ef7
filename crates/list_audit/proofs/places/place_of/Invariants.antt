-- The place of the key lies between the two.
use Rattle.std.proofs.Common.{◌-◌}
use Rattle.log_audit.specs.Kept.{image_of_kept}
use Rattle.list_audit.proofs.Placing.{IsBetween}
use Rattle.list_audit.proofs.places.place_of.Given as goal

abbrev pub invariant-loop-low : goal.invariant-loop-low
invariant-loop-low l = IsBetween (image_of_kept l.kept) l.block l.key l.low l.high

abbrev pub decreases-loop-low : goal.decreases-loop-low
decreases-loop-low l = l.high - l.low
