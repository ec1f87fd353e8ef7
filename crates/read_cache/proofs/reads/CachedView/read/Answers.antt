-- A kept cell; a read that failed; a blank cell; a cell that is kept anew.
use Rattle.cell_types.proofs.Passed.{handed}
use Rattle.worm_device.proofs.Resting.{viewed_self}
use Rattle.read_cache.proofs.Knowing.{keeps_more, keeps_on, kept_stands}
use Rattle.read_cache.proofs.Through.{read_shows, reads_kept, reads_through}
use Rattle.read_cache.proofs.reads.CachedView.read.Goals as goal

pub invariant_of-self : goal.invariant_of-self
invariant_of-self g c = record {
  kept = keeps_on (g.V.View.seen c.args.self.now.view.now) (g.V.View.seen c.args.self.now.view.now)
      c.args.self.now.cache.now c.kept.new.self (viewed_self _) c.args.self.now.kept
      c.kept.ensures.others;
}

pub returns-in-Some-clause-reads : goal.returns-in-Some-clause-reads
returns-in-Some-clause-reads g c = reads_kept c.args.self.now.view.ghost_name c.args.at c.in-Some.cell
    (g.V.View.seen c.args.self.now.view.now)
    (kept_stands (g.V.View.seen c.args.self.now.view.now) c.args.self.now.cache.now c.args.at c.in-Some.cell
    c.args.self.now.kept c.in-Some.ensures.found)

pub invariant_of-self-in-Break-1 : goal.invariant_of-self-in-Break-1
invariant_of-self-in-Break-1 g c = record {
  kept = keeps_on (g.V.View.seen c.args.self.now.view.now) (g.V.View.seen c.read.new.self)
      c.args.self.now.cache.now c.kept.new.self c.read.ensures.viewed c.args.self.now.kept
      c.kept.ensures.others;
}

pub returns-in_err-cell-clause-reads : goal.returns-in_err-cell-clause-reads
returns-in_err-cell-clause-reads g c =
    rw (handed c.from_residual.result c.in_err-cell.field-0.0 c.from_residual.ensures.1)
    (reads_through c.args.self.now.view.ghost_name c.args.at (g.V.View.seen c.args.self.now.view.now)
    (g.V.View.seen c.read.new.self) _ (rw c.in_err-cell.was at c.read.ensures))

pub invariant_of-self-in_default-2 : goal.invariant_of-self-in_default-2
invariant_of-self-in_default-2 g c = record {
  kept = keeps_on (g.V.View.seen c.args.self.now.view.now) (g.V.View.seen c.read.new.self)
      c.args.self.now.cache.now c.kept.new.self c.read.ensures.viewed c.args.self.now.kept
      c.kept.ensures.others;
}

pub returns-in_default-2-clause-reads : goal.returns-in_default-2-clause-reads
returns-in_default-2-clause-reads g c = reads_through c.args.self.now.view.ghost_name c.args.at
    (g.V.View.seen c.args.self.now.view.now) (g.V.View.seen c.read.new.self) _
    (rw (← c.in_default-2.is) (rw c.in_ok-cell.was at c.read.ensures))

pub invariant_of-self-2 : goal.invariant_of-self-2
invariant_of-self-2 g c = record {
  kept = keeps_more (g.V.View.seen c.args.self.now.view.now) (g.V.View.seen c.read.new.self)
      c.kept.new.self c.keep.new.self c.args.at c.in-Some-2.cell c.read.ensures.viewed
      (keeps_on (g.V.View.seen c.args.self.now.view.now) (g.V.View.seen c.args.self.now.view.now)
      c.args.self.now.cache.now c.kept.new.self (viewed_self _) c.args.self.now.kept
      c.kept.ensures.others)
      (read_shows c.args.at (g.V.View.seen c.args.self.now.view.now) (g.V.View.seen c.read.new.self) c.in-Some-2.cell
      (rw (← c.in-Some-2.is) (rw c.in_ok-cell.was at c.read.ensures))) c.keep.ensures;
}

pub returns-clause-reads : goal.returns-clause-reads
returns-clause-reads g c = reads_through c.args.self.now.view.ghost_name c.args.at
    (g.V.View.seen c.args.self.now.view.now) (g.V.View.seen c.read.new.self) _
    (rw (← c.in-Some-2.is) (rw c.in_ok-cell.was at c.read.ensures))
