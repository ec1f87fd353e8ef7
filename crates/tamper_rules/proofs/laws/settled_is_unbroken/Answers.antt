-- The law, for all images.
use Rattle.tamper_rules.proofs.SettledLaws.{unbroken}
use Rattle.tamper_rules.proofs.laws.settled_is_unbroken.Goals as goal

pub returns : goal.returns
returns c = unbroken
