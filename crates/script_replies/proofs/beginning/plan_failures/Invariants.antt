-- Those so far are planned.
use Rattle.std.proofs.Common.{take}
use Rattle.worm_memory.specs.Device.{memory_of}
use Rattle.script_replies.proofs.PlanRows.{WithFailures}
use Rattle.script_replies.proofs.beginning.plan_failures.Given as goal

abbrev pub invariant-loop-moment : goal.invariant-loop-moment
invariant-loop-moment l = WithFailures (take l.moment-index l.fails) (memory_of l.initial.device) (memory_of l.device)
