-- The law, for all images.
use Rattle.jump_insertion.proofs.KeptTrails.{grown, trails_go_on, keys_go_on}
use Rattle.jump_insertion.proofs.laws.insertions_keep_trails.Goals as goal

pub returns : goal.returns
returns c = λ old new floor next to head cost p w roomy trails below grows.
    let g = grown w roomy grows in (trails_go_on g trails, λ key less. keys_go_on g below key less)
