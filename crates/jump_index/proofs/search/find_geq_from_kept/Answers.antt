-- What the look near by found, and else the search from the first block.
use Rattle.std.proofs.Common.{arith}
use Rattle.cell_types.proofs.Passed.{handed}
use Rattle.jump_index.proofs.Finding.{finds_behind, finds_entry, finds_nothing, finds_no_key, finds_fault}
use Rattle.jump_index.proofs.search.find_geq_from_kept.Goals as goal

pub returns-in-Ok-Found-clause-finds : goal.returns-in-Ok-Found-clause-finds
returns-in-Ok-Found-clause-finds g c =
    let found = rw c.in-Ok-Found.field-0-is at c.in-Ok-Found.ensures.looks in
    finds_behind c.args.bounds c.args.head c.args.x _ _ _ c.find_near.ensures.finds.viewed
    c.find_near.ensures.finds.reads _ (omega (arith, found.reads))
    (finds_entry c.args.bounds c.args.head c.args.x _ _ c.in-Ok-Found.entry found)

pub returns-in-Ok-Nothing-clause-finds : goal.returns-in-Ok-Nothing-clause-finds
returns-in-Ok-Nothing-clause-finds g c =
    let found = rw c.in-Ok-Nothing.field-0-is at c.in-Ok-Nothing.ensures.looks in
    finds_behind c.args.bounds c.args.head c.args.x _ _ _ c.find_near.ensures.finds.viewed
    c.find_near.ensures.finds.reads _ (omega (arith, found.reads))
    (finds_nothing c.args.bounds c.args.head c.args.x _ _ found)

pub returns-in-Ok-NoKey-clause-finds : goal.returns-in-Ok-NoKey-clause-finds
returns-in-Ok-NoKey-clause-finds g c =
    let found = rw c.in-Ok-NoKey.field-0-is at c.in-Ok-NoKey.ensures.looks in
    finds_behind c.args.bounds c.args.head c.args.x _ _ _ c.find_near.ensures.finds.viewed
    c.find_near.ensures.finds.reads _ (omega (arith, found.reads))
    (finds_no_key c.args.bounds c.args.head c.args.x _ _ found)

pub returns-in-Err-clause-finds : goal.returns-in-Err-clause-finds
returns-in-Err-clause-finds g c =
    let found = c.in-Err.ensures.looks in
    finds_behind c.args.bounds c.args.head c.args.x _ _ _ c.find_near.ensures.finds.viewed
    c.find_near.ensures.finds.reads _ (omega (arith, found.reads))
    (finds_fault c.args.bounds c.args.head c.args.x _ _ c.in-Err.fault
    (omega (arith, c.requires.edge, c.find_near.ensures.finds.viewed.cells)) found)
