-- Nothing was found in the places before this turn's.
use Rattle.plan_writer.specs.Blank.{NothingFound}
use Rattle.plan_writer.proofs.blank.check_row.Given as goal

abbrev pub invariant-loop-place : goal.invariant-loop-place
invariant-loop-place l = NothingFound l.place l.row
