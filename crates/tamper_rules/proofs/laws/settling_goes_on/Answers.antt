-- The law, for all images.
use Rattle.tamper_rules.proofs.SettlingGoesOn.{goes_on}
use Rattle.tamper_rules.proofs.laws.settling_goes_on.Goals as goal

pub returns : goal.returns
returns c = goes_on
