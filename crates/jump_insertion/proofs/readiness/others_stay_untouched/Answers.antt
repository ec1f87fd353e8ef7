-- The law, for all states.
use Rattle.jump_insertion.proofs.Untouched.{stays_untouched}
use Rattle.jump_insertion.proofs.readiness.others_stay_untouched.Goals as goal

pub returns : goal.returns
returns c = λ head floor next to p at old new other planned differ apart before.
    stays_untouched head floor old new other differ apart before next to p at planned
