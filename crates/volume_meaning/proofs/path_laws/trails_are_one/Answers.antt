-- The law, for all trails.
use Rattle.volume_meaning.proofs.Trails.{one_trail}
use Rattle.volume_meaning.proofs.path_laws.trails_are_one.Goals as goal

pub returns : goal.returns
returns c = λ image from to at at' block p q t u same. one_trail t at' q u same
