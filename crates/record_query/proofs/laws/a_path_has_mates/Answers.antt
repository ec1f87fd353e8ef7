-- The law is a lemma.
use Rattle.record_query.proofs.MatesExist.{path_mates}
use Rattle.record_query.proofs.laws.a_path_has_mates.Goals as goal

pub returns : goal.returns
returns c = path_mates
