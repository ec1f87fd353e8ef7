-- The law, for all images.
use Rattle.ingest_plan.proofs.Counting as counting
use Rattle.ingest_plan.proofs.laws.count_is_one.Goals as goal

pub returns : goal.returns
returns c = counting.count_is_one
