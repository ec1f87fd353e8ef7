-- The law, for all images.
use Rattle.plan_laws.proofs.Well.{well}
use Rattle.plan_laws.proofs.laws.plan_is_well.Goals as goal

pub returns : goal.returns
returns c = λ g old laid p rows level place to planned h. well h
