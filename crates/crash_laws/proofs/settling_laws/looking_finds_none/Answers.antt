-- The law is a lemma.
use Rattle.crash_laws.proofs.SettlingAlarms.{looked_unbroken}
use Rattle.crash_laws.proofs.settling_laws.looking_finds_none.Goals as goal

pub returns : goal.returns
returns c = looked_unbroken
