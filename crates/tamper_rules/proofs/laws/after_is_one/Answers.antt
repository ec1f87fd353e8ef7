-- The law, for all images.
use Rattle.tamper_rules.proofs.OneAfter.{one_after}
use Rattle.tamper_rules.proofs.laws.after_is_one.Goals as goal

pub returns : goal.returns
returns c = one_after
