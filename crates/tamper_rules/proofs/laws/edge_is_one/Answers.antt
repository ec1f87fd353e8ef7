-- The law, for all settled images.
use Rattle.tamper_rules.proofs.Settled.{one_horizon, some_horizon, one_edge, some_edge}
use Rattle.tamper_rules.proofs.laws.edge_is_one.Goals as goal

pub returns : goal.returns
returns c = λ g image s.
    let h = some_horizon g image s in
    let e = some_edge g image s h.0 h.1 in (
      (h.0, record { is = h.1; one = λ v k. one_horizon g image s v h.0 k h.1 }),
      (e.0, e.1, λ other k. one_edge g image s other e.0 k e.1),
    )
