-- The law is a lemma.
use Rattle.crash_laws.proofs.Kept.{refused_keeps}
use Rattle.crash_laws.proofs.laws.refused_ingest_keeps.Goals as goal

pub returns : goal.returns
returns c = λ id stamp body old new refusal documents device device_new tells ingests other still steady held.
    refused_keeps id stamp body old new ingests.called device device_new tells still steady documents held refusal other
    ingests.comes ingests.ends
