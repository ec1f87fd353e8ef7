-- The law, for all images.
use Rattle.tamper_rules.proofs.SettledLaws.{formatted}
use Rattle.tamper_rules.proofs.laws.formatted_is_settled.Goals as goal

pub returns : goal.returns
returns c = λ cells image g l v blank. formatted l v blank
