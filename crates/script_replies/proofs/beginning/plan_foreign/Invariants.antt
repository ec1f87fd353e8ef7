-- Those so far are planned.
use Rattle.std.proofs.Common.{take}
use Rattle.worm_memory.specs.Device.{memory_of}
use Rattle.script_replies.proofs.PlanRows.{WithForeign}
use Rattle.script_replies.proofs.beginning.plan_foreign.Given as goal

abbrev pub invariant-loop-timed : goal.invariant-loop-timed
invariant-loop-timed l = WithForeign (take l.timed-index l.foreign) (memory_of l.initial.device) (memory_of l.device)
