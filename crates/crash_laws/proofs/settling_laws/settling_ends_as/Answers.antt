-- The law is a lemma.
use Rattle.crash_laws.proofs.EndedAs.{settling_ends}
use Rattle.crash_laws.proofs.settling_laws.settling_ends_as.Goals as goal

pub returns : goal.returns
returns c = λ old new r device tells settles still sound.
    settling_ends old new r sound.after device.sure tells settles still sound.is sound.settled
