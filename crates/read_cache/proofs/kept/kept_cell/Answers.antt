-- A look-up changes the order alone.
use Rattle.read_cache.proofs.Knowing.{no_other}
use Rattle.read_cache.proofs.kept.kept_cell.Goals as goal

pub returns-clause-others : goal.returns-clause-others
returns-clause-others c = rw c.get.follows.holds-at-none (no_other c.args.cells.now.entries c.args.at)
