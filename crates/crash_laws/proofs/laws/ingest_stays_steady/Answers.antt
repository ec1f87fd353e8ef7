-- The law is a lemma.
use Rattle.crash_laws.proofs.Steady.{comes_steady}
use Rattle.crash_laws.proofs.laws.ingest_stays_steady.Goals as goal

pub returns : goal.returns
returns c = λ id stamp body old new result device device_new tells ingests still steady.
    comes_steady id stamp body old new device device_new tells still steady ingests.comes
