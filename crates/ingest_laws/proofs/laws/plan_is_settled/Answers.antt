-- The law, for all images.
use Rattle.ingest_laws.proofs.PlanSettled.{plan_is_settled}
use Rattle.ingest_laws.proofs.laws.plan_is_settled.Goals as goal

pub returns : goal.returns
returns c = λ g old new p w. plan_is_settled w
