-- The law, for all images.
use Rattle.ingest_laws.proofs.InPhase.{left_sound}
use Rattle.ingest_laws.proofs.laws.phases_leave_sound.Goals as goal

pub returns : goal.returns
returns c = λ g old new image p phase i l. left_sound i image phase l
