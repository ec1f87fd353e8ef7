-- An entry, or no later pointer leads to a key below the bound.
use Rattle.jump_index.proofs.Descending.{on_found, on_nothing}
use Rattle.jump_index.proofs.search.look_on.Goals as goal

pub returns-in-Ok-Some-clause-looks : goal.returns-in-Ok-Some-clause-looks
returns-in-Ok-Some-clause-looks g c =
    on_found c.args.bounds c.args.tried.block c.args.tried.greatest c.args.tried.span.high c.args.bound _ _ c.in-Ok-Some.entry
    c.min.result c.within.result
    (rw c.in-Ok-Some.field-0-is at c.in-Ok-Some.ensures.looks) c.within.ensures

pub returns-in-Ok-None-clause-looks : goal.returns-in-Ok-None-clause-looks
returns-in-Ok-None-clause-looks g c =
    on_nothing c.args.bounds c.args.tried.block c.args.tried.greatest c.args.tried.span.high c.args.bound _ _ c.min.result c.min.ensures
    (rw c.in-Ok-None.field-0-is at c.in-Ok-None.ensures.looks)
