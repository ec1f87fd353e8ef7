-- Each ending, by the lemma of its kind.
use Rattle.std.proofs.Common.{arith}
use Rattle.cell_types.proofs.Passed.{handed}
use Rattle.jump_index.proofs.LookingHere.{before_read, before_blank, before_fault}
use Rattle.jump_index.proofs.here.look_before.Goals as goal
use Rattle.jump_index.proofs.here.look_before.Goals.{in_default-via-in-Some+else-from-low, in_default-via-in_default}

pub returns-in_err-found : goal.returns-in_err-found
returns-in_err-found g c =
    rw (handed c.from_residual.result c.in_err-found.field-0.0 c.from_residual.ensures.1)
    (before_fault c.args.block c.args.place c.args.low _ _ c.in_err-found.field-0.0 (omega arith)
    c.requires.place c.in_err-found.ensures)

pub returns-in_default : goal.returns-in_default
returns-in_default g c = elim c.in_default.branch [
  | in_default-via-in-Some+else-from-low w ↦
      before_read c.args.block c.args.place c.args.low _ _ w.in-Some.before (omega arith) (omega arith)
      (rw w.in-Some.is at c.in_ok-found.ensures)
  | in_default-via-in_default w ↦ before_blank c.args.block c.args.place c.args.low _ _ (omega arith)
      (rw w.in_default.is at c.in_ok-found.ensures)
]
