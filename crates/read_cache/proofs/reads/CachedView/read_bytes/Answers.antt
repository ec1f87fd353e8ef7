-- The bytes are read below, and what is kept stands on.
use Rattle.read_cache.proofs.Knowing.{keeps_on}
use Rattle.read_cache.proofs.Through.{bytes_through}
use Rattle.read_cache.proofs.reads.CachedView.read_bytes.Goals as goal

pub invariant_of-self : goal.invariant_of-self
invariant_of-self g c = record {
  kept = keeps_on (g.V.View.seen c.args.self.now.view.now) (g.V.View.seen c.read_bytes.new.self)
      c.args.self.now.cache.now c.args.self.now.cache.now c.read_bytes.ensures.viewed c.args.self.now.kept
      (λ at cell has. has);
}

pub returns-clause-reads : goal.returns-clause-reads
returns-clause-reads g c = bytes_through c.args.self.now.view.ghost_name c.args.at c.args.bytes.now c.read_bytes.new.bytes
    (g.V.View.seen c.args.self.now.view.now) (g.V.View.seen c.read_bytes.new.self) c.read_bytes.result c.read_bytes.ensures
