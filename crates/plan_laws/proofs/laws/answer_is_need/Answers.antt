-- The law, for all states of a device.
use Rattle.plan_laws.proofs.Needed.{needed}
use Rattle.plan_laws.proofs.laws.answer_is_need.Goals as goal

pub returns : goal.returns
returns c = λ g n edge stamp id body level place made old new tells still layout settled horizon slot begins given later ends digest
    passed is.
    needed tells still layout settled horizon slot begins given later ends digest passed is
