-- The law, for all images.
use Rattle.jump_insertion.proofs.Costs.{posting_costs}
use Rattle.jump_insertion.proofs.laws.insertions_cost_their_need.Goals as goal

pub returns : goal.returns
returns c = λ old new floor next to head cost p w trails less grows. posting_costs w trails less grows
