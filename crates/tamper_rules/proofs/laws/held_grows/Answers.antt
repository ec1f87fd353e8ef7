-- The law is a lemma.
use Rattle.tamper_rules.proofs.HeldGrows.{held_first}
use Rattle.tamper_rules.proofs.laws.held_grows.Goals as goal

pub returns : goal.returns
returns c = held_first
