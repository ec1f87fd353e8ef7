-- The law is a lemma.
use Rattle.crash_laws.proofs.LookedAt.{looking_steady}
use Rattle.crash_laws.proofs.settling_laws.looking_stays_steady.Goals as goal

pub returns : goal.returns
returns c = λ old new r device device_new tells settled still steady.
    looking_steady old new r tells settled still device device_new steady
