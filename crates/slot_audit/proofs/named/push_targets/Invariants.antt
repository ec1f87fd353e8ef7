-- What the places so far name is there.
use Rattle.log_audit.specs.Kept.{image_of_kept}
use Rattle.slot_audit.specs.Targets.{AddsTargets}
use Rattle.slot_audit.proofs.named.push_targets.Given as goal

abbrev pub invariant-loop-place : goal.invariant-loop-place
invariant-loop-place l = AddsTargets (image_of_kept l.kept) l.stored l.place l.fn.cells.items l.cells.items
