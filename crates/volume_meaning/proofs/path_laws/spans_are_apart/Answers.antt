-- The law, for all keys.
use Rattle.volume_meaning.proofs.Spans.{apart}
use Rattle.volume_meaning.proofs.path_laws.spans_are_apart.Goals as goal

pub returns : goal.returns
returns c = λ l k i j m n s t. apart l k i j m n s t
