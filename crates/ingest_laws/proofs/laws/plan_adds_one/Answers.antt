-- The law, for all images.
use Rattle.ingest_laws.proofs.PlanAdds.{adds_one}
use Rattle.ingest_laws.proofs.laws.plan_adds_one.Goals as goal

pub returns : goal.returns
returns c = λ g old new p ds w are. adds_one w ds are
