-- The law is a lemma.
use Rattle.crash_laws.proofs.LeftWhole.{settling_left, stays_steady}
use Rattle.crash_laws.proofs.settling_laws.settling_stays_steady.Goals as goal

pub returns : goal.returns
returns c = λ old new result device tells settles still steady. stays_steady old new device steady settles.called.cells
    (settling_left old new result device tells settles still steady)
