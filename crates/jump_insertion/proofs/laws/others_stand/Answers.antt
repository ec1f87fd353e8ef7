-- The law, for all images.
use Rattle.jump_insertion.proofs.KeptTrails.{grown}
use Rattle.jump_insertion.proofs.Others.{stands_aside}
use Rattle.jump_insertion.proofs.laws.others_stand.Goals as goal

pub returns : goal.returns
returns c = λ old new floor next to head other cost p w roomy grows v apart.
    stands_aside (grown w roomy grows) roomy v apart
