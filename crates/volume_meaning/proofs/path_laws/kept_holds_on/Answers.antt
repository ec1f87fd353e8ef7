-- The law, for all images.
use Rattle.volume_meaning.proofs.KeepingLaws.{kept_on}
use Rattle.volume_meaning.proofs.path_laws.kept_holds_on.Goals as goal

pub returns : goal.returns
returns c = λ cells old new documents e k. kept_on e k
