-- What a caller reads off Called, for all states.
use Rattle.worm_device.proofs.Elapsing.{elapses_of}
use Rattle.worm_device.proofs.laws.calls_elapse.Goals as goal

pub returns : goal.returns
returns c = λ a b called. elapses_of called
