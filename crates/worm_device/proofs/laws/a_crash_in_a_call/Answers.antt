-- What a caller reads off the name, for all states.
use Rattle.worm_device.proofs.Elapsing.{leaves_of}
use Rattle.worm_device.proofs.laws.a_crash_in_a_call.Goals as goal

pub returns : goal.returns
returns c = λ a b image leaves between. leaves_of a b leaves image between
