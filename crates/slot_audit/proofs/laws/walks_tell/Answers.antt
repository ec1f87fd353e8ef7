-- The law.
use Rattle.slot_audit.proofs.Tiling.{walks_tell}
use Rattle.slot_audit.proofs.laws.walks_tell.Goals as goal

pub returns : goal.returns
returns c = walks_tell
