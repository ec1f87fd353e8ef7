-- The law, for all states of a device.
use Rattle.plan_laws.proofs.Answered.{answered}
use Rattle.plan_laws.proofs.Well.{well}
use Rattle.plan_laws.proofs.laws.answer_is_well.Goals as goal

pub returns : goal.returns
returns c = λ g p level place made old new tells still same takes journal ends digest passed is.
    well (answered tells still same takes journal ends digest passed is)
