-- The line that was put is the step's.
use Rattle.volume_commands.proofs.recover.put_step.Goals as goal

pub returns-in-Abandoned-clause-part : goal.returns-in-Abandoned-clause-part
returns-in-Abandoned-clause-part g c = rw c.in-Abandoned.is c.put_slot_line.ensures.part

pub returns-in-Completed-clause-whole : goal.returns-in-Completed-clause-whole
returns-in-Completed-clause-whole g c = rw c.in-Completed.is c.put_slot_line-in-Completed.ensures.whole

pub returns-in-Completed-clause-part : goal.returns-in-Completed-clause-part
returns-in-Completed-clause-part g c = rw c.in-Completed.is c.put_slot_line-in-Completed.ensures.part
