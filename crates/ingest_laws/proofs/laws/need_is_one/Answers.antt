-- The law is a lemma.
use Rattle.ingest_laws.proofs.OneNeed.{need_one}
use Rattle.ingest_laws.proofs.laws.need_is_one.Goals as goal

pub returns : goal.returns
returns c = need_one
