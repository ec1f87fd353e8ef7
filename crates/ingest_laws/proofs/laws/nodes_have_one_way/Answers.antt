-- The law, for all images.
use Rattle.std.proofs.Common.{refl}
use Rattle.ingest_laws.proofs.OneWay.{same_way}
use Rattle.ingest_laws.proofs.laws.nodes_have_one_way.Goals as goal

pub returns : goal.returns
returns c = λ g image to d e v node k r a b way other below. same_way r a b way k below v node refl refl other
