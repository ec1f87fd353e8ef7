-- The law is a lemma.
use Rattle.crash_laws.proofs.EndedAs.{settled_sound}
use Rattle.crash_laws.proofs.settling_laws.settled_was_sound.Goals as goal

pub returns : goal.returns
returns c = settled_sound
