-- The law, for all documents.
use Rattle.tamper_rules.proofs.Keeps.{keeps_all}
use Rattle.tamper_rules.proofs.laws.settled_keeps.Goals as goal

pub returns : goal.returns
returns c = keeps_all
