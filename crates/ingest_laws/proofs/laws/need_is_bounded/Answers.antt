-- The law is a lemma.
use Rattle.ingest_laws.proofs.Needs.{need_bounded}
use Rattle.ingest_laws.proofs.laws.need_is_bounded.Goals as goal

pub returns : goal.returns
returns c = need_bounded
