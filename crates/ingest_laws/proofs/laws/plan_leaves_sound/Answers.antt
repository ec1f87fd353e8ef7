-- The law, for all images.
use Rattle.ingest_laws.proofs.PlanLeaves.{plan_leaves_sound}
use Rattle.ingest_laws.proofs.laws.plan_leaves_sound.Goals as goal

pub returns : goal.returns
returns c = λ g old new image p phase w l. plan_leaves_sound w image phase l
