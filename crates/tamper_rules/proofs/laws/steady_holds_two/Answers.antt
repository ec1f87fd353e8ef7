-- The law, for all images.
use Rattle.tamper_rules.proofs.Steady.{steady_two}
use Rattle.tamper_rules.proofs.laws.steady_holds_two.Goals as goal

pub returns : goal.returns
returns c = λ cells low high image steady e f. steady_two steady e f
