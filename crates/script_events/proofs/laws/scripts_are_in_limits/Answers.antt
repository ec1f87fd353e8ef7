use Rattle.script_events.proofs.WithinLimits.{scripts_are_in_limits}
use Rattle.script_events.proofs.laws.scripts_are_in_limits.Goals as goal

pub returns : goal.returns
returns c = scripts_are_in_limits
