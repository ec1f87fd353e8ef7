-- The law is a lemma.
use Rattle.volume_meaning.proofs.Tags.{tags_one}
use Rattle.volume_meaning.proofs.path_laws.tags_are_one.Goals as goal

pub returns : goal.returns
returns c = tags_one
