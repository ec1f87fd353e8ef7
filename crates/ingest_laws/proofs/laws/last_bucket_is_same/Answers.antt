-- The law, for all images.
use Rattle.ingest_laws.proofs.OneWay.{last_bucket}
use Rattle.ingest_laws.proofs.laws.last_bucket_is_same.Goals as goal

pub returns : goal.returns
returns c = last_bucket
