-- The law is a lemma.
use Rattle.crash_laws.proofs.Alarms.{none_named}
use Rattle.crash_laws.proofs.laws.ingest_names_none.Goals as goal

pub returns : goal.returns
returns c = λ id stamp body old new e device device_new tells ingests still steady.
    none_named old new e device device_new tells still steady (ingests.ends tells)
