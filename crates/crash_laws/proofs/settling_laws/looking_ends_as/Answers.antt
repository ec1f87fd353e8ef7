-- The law is a lemma.
use Rattle.crash_laws.proofs.LookedAt.{looked_ends}
use Rattle.crash_laws.proofs.settling_laws.looking_ends_as.Goals as goal

pub returns : goal.returns
returns c = λ old new r device tells settled still sound.
    looked_ends old new r tells settled still device.sure sound
