-- The law is a lemma.
use Rattle.crash_laws.proofs.SettlingAlarms.{settling_named}
use Rattle.crash_laws.proofs.settling_laws.settling_names_none.Goals as goal

pub returns : goal.returns
returns c = settling_named
