-- The law, for all images.
use Rattle.plan_laws.proofs.BehindBucket.{stands_behind}
use Rattle.plan_laws.proofs.indexes.index_keeps_standing.Goals as goal

pub returns : goal.returns
returns c = λ g n bound behind rows level place from to old new pool inside stand path index.
    stands_behind pool inside stand path index
