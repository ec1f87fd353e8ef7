-- The law is two lemmas.
use Rattle.worm_device.proofs.Resting.{viewed_self, viewed_then}
use Rattle.worm_device.proofs.laws.views_compose.Goals as goal

pub returns : goal.returns
returns c = (viewed_self, λ a b c p q. viewed_then p q)
