-- Where nobody else wrote, a look changes nothing.
use Rattle.std.proofs.Common.{rules}
use Rattle.worm_device.proofs.Resting.{rests_of}
use Rattle.recovery_engine.proofs.looks.log_end_of_device.Goals as goal

pub returns-clause-quiet : goal.returns-clause-quiet
returns-clause-quiet g c = let r = (rests_of c.end_of_log.ensures.viewed).shown in search (rules, r)
