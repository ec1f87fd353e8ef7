-- What else a crash could leave since the row began lies between what was sure then and what stands now.
use Rattle.worm_device.proofs.Elapsing.{crash_between}
use Rattle.worm_device.proofs.laws.crashes_keep_what_was_sure.Goals as goal

pub returns : goal.returns
returns c = λ a b image called left. crash_between a b image called left
