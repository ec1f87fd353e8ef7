-- The law, for all records.
use Rattle.worm_memory.proofs.Unsure.{right_world, unsure_is_among}
use Rattle.worm_memory.specs.Unsure.{is_among, unsure_of}
use Rattle.worm_memory.specs.Worlds.{world}
use Rattle.std.proofs.Common.{refl}
use Rattle.worm_memory.proofs.laws.unsure_cells.Goals as goal

pub returns : goal.returns
returns c = λ cells changes all.
    let right = right_world cells changes all in (
      right.apart,
      λ cell. (
        right.not_sure cell,
        λ unsure. unsure_is_among (world changes)
            (unsure_of changes) cell unsure.0 (is_among cell (unsure_of changes)) refl right unsure.1 unsure.2,
      ),
    )
