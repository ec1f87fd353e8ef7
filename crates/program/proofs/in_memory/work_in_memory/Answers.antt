-- The command ran over the device that was made.
use Rattle.std.proofs.Common.{sym, ap, ◌∙◌, Err}
use Rattle.worm_memory.specs.Device.{memory_of}
use Rattle.program.specs.InMemory.{outcome_of}
use Rattle.program.proofs.InMemory.{ran_on_one_cell}
use Rattle.program.proofs.in_memory.work_in_memory.Goals as goal

pub returns-in-Ok-run : goal.returns-in-Ok-run
returns-in-Ok-run g c =
    ran_on_one_cell _ _ (memory_of c.run.new.device) _ _ _ _ c.run.result _ c.in-Ok.ensures.blank c.run.ensures
    (sym (ap outcome_of c.in-Ok-run.is))

pub returns : goal.returns
returns g c =
    ran_on_one_cell _ _ (memory_of c.run.new.device) _ _ _ _ c.run.result _ c.in-Ok.ensures.blank c.run.ensures
    (ap Err c.from-in-Err-run.ensures ∙ sym (ap outcome_of c.in-Err-run.is))
