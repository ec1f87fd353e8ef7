-- The law is a lemma.
use Rattle.crash_laws.proofs.LeftWhole.{sure_steady}
use Rattle.crash_laws.proofs.settling_laws.sure_is_steady.Goals as goal

pub returns : goal.returns
returns c = sure_steady
