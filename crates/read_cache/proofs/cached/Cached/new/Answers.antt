-- No cell is kept any more.
use Rattle.std.proofs.Common.{subst, sym}
use Rattle.read_cache.specs.declared.cell_cache.CellCache.{CellCache}
use Rattle.read_cache.specs.Keeping.{KeepsCells}
use Rattle.read_cache.proofs.Recently.{keeps_none}
use Rattle.read_cache.proofs.cached.Cached.new.Goals as goal

pub invariant_of-result : goal.invariant_of-result
invariant_of-result g c = record {
  kept = subst (λ (cache : CellCache). KeepsCells (g.V.View.seen c.args.view.now) cache) (sym c.forget.ensures)
      (keeps_none (g.V.View.seen c.args.view.now) c.args.cache.now);
}
