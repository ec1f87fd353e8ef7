-- The view that was lent comes back.
use Rattle.std.proofs.Common.{rules}
use Rattle.read_cache.proofs.Through.{viewed_below}
use Rattle.device_tests.proofs.cache_callers.read_kept.Goals as goal

pub returns-clause-viewed : goal.returns-clause-viewed
returns-clause-viewed g c =
    let viewed = viewed_below c.new.result.view.ghost_name c.read_twice.new.view.view.ghost_name
    (g.V.View.seen c.new.result.view.now) (g.V.View.seen c.read_twice.new.view.view.now)
    c.read_twice.ensures.viewed in
    search (rules, viewed)
