-- The law, for all settled images.
use Rattle.tamper_rules.proofs.DocumentLists.{documents_exist}
use Rattle.tamper_rules.proofs.laws.documents_exist.Goals as goal

pub returns : goal.returns
returns c = documents_exist
