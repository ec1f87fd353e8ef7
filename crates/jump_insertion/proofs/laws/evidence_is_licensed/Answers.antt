-- The law, for all views.
use Rattle.jump_insertion.proofs.Licence.{licensed}
use Rattle.jump_insertion.proofs.laws.evidence_is_licensed.Goals as goal

pub returns : goal.returns
returns c = licensed
