-- The law, for all images.
use Rattle.volume_meaning.proofs.HashTrails.{passed_on, hash_trail_on, passed_to_on}
use Rattle.volume_meaning.proofs.path_laws.paths_hold_on.Goals as goal

pub returns : goal.returns
returns c = λ old new s n root node level at e. (passed_on e, hash_trail_on e, passed_to_on e)
