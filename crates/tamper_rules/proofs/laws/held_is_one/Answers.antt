-- The law is a lemma.
use Rattle.tamper_rules.proofs.Steady.{held_one}
use Rattle.tamper_rules.proofs.laws.held_is_one.Goals as goal

pub returns : goal.returns
returns c = held_one
