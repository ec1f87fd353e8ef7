-- The law is two lemmas.
use Rattle.crash_laws.proofs.SoundRules.{sound_targets, sound_unbroken}
use Rattle.crash_laws.proofs.settling_laws.sound_is_unbroken.Goals as goal

pub returns : goal.returns
returns c = record { rules = sound_unbroken; targets = sound_targets }
