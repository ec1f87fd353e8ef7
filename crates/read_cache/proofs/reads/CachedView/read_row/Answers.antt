-- The row is read below, and what is kept stands on.
use Rattle.read_cache.proofs.Knowing.{keeps_on}
use Rattle.read_cache.proofs.Through.{row_through}
use Rattle.read_cache.proofs.reads.CachedView.read_row.Goals as goal

pub invariant_of-self : goal.invariant_of-self
invariant_of-self g c = record {
  kept = keeps_on (g.V.View.seen c.args.self.now.view.now) (g.V.View.seen c.read_row.new.self)
      c.args.self.now.cache.now c.args.self.now.cache.now c.read_row.ensures.viewed c.args.self.now.kept
      (λ at cell has. has);
}

pub returns-clause-reads : goal.returns-clause-reads
returns-clause-reads g c = row_through c.args.self.now.view.ghost_name c.args.at c.args.cells.now c.read_row.new.cells
    (g.V.View.seen c.args.self.now.view.now) (g.V.View.seen c.read_row.new.self) c.read_row.result c.read_row.ensures
