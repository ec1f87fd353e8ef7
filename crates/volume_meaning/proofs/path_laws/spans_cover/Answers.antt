-- The law, for all keys.
use Rattle.volume_meaning.proofs.Spans.{cover}
use Rattle.volume_meaning.proofs.path_laws.spans_cover.Goals as goal

pub returns : goal.returns
returns c = λ l k less below. cover l k less below
