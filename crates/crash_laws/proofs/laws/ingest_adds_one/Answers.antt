-- The law is a lemma.
use Rattle.crash_laws.proofs.AddsOne.{comes_more}
use Rattle.crash_laws.proofs.laws.ingest_adds_one.Goals as goal

pub returns : goal.returns
returns c = λ id stamp body old new n device device_new tells ingests still steady.
    comes_more id stamp body old new n device device_new tells still steady (ingests.ends tells) ingests.comes
