-- The law is a lemma.
use Rattle.crash_laws.proofs.LeftWhole.{whole_from}
use Rattle.crash_laws.proofs.settling_laws.whole_from_the_start.Goals as goal

pub returns : goal.returns
returns c = whole_from
