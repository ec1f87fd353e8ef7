-- Grant by grant.
use Rattle.cell_pool.proofs.Tiling.{grants_are_tiles, tiles_rise}
use Rattle.cell_pool.proofs.laws.grants_tile.Goals as goal

pub returns : goal.returns
returns c = λ old new grants given.
    let tiles = grants_are_tiles old new grants given in
    (tiles, λ i j one other is has less. tiles_rise old.next new.next grants i j one other tiles is has less)
