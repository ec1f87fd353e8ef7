-- Nothing is kept anew without memory.
use Rattle.read_cache.proofs.Knowing.{after_put}
use Rattle.read_cache.proofs.kept.keep.Goals as goal

pub returns : goal.returns
returns c = after_put c.args.cells.now c.put.new.self c.args.at c.args.cell c.put.result c.put.ensures.entries
    c.put.ensures.err
