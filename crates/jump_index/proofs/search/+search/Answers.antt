-- Each ending, by the lemma of its kind.
use Rattle.std.proofs.Common.{◌≤◌, arith}
use Rattle.cell_types.proofs.Passed.{handed}
use Rattle.worm_device.proofs.Resting.{viewed_then}
use Rattle.jump_block.proofs.Knowing.{key_on}
use Rattle.jump_index.proofs.Descending.{passed_blank, passed_nothing, found_behind, fault_behind, no_key_behind, then_on}
use Rattle.jump_block.proofs.OneBlock.{level_falls}
use Rattle.jump_index.proofs.LookingLater.{fault_then}
use Rattle.jump_index.proofs.Telling.{told, told_before}
use Rattle.jump_index.proofs.Ways.{search_on, with_fronts, with_hops}
use Rattle.jump_index.proofs.search.+search.Goals as goal

pub returns-in_err-here-clause-looks : goal.returns-in_err-here-clause-looks
returns-in_err-here-clause-looks g t c =
    rw (handed c.from_residual.result c.in_err-here.field-0.0 c.from_residual.ensures.1)
    (let h = c.in_err-here.ensures.looks in
    record {
      viewed = h.viewed;
      reads = omega (arith, h.reads);
      ends = h.ends c.args.bounds;
    })

pub returns-in-Ends-clause-looks : goal.returns-in-Ends-clause-looks
returns-in-Ends-clause-looks g t c =
    let h = rw c.in-Ends.is at c.in_ok-here.ensures.looks in
    record {
      viewed = h.viewed;
      reads = omega (arith, h.reads);
      ends = h.ends c.args.bounds;
    }

pub returns-in_err-here-clause-kept : goal.returns-in_err-here-clause-kept
returns-in_err-here-clause-kept g t c = λ tells.
    with_fronts c.look_here.ensures.looks.viewed.image (c.requires.kept tells) (c.look_here.ensures.kept tells)

pub returns-in-Ends-clause-kept : goal.returns-in-Ends-clause-kept
returns-in-Ends-clause-kept g t c = λ tells.
    with_fronts c.look_here.ensures.looks.viewed.image (c.requires.kept tells) (c.look_here.ensures.kept tells)

pub returns-in_err-to-clause-kept : goal.returns-in_err-to-clause-kept
returns-in_err-to-clause-kept g t c = λ tells.
    search_on c.first_pointer.ensures.viewed.image
    (with_fronts c.look_here.ensures.looks.viewed.image (c.requires.kept tells) (c.look_here.ensures.kept tells))

pub look_on-requires-clause-ready : goal.look_on-requires-clause-ready
look_on-requires-clause-ready g t c =
    let h = rw c.in-Beyond.is at c.in_ok-here.ensures.looks in
    let f = c.first_pointer.ensures in
    record {
      inside = omega (arith, c.requires.ready.inside, h.viewed.cells, f.viewed.cells);
      edge = omega (arith, c.requires.ready.edge, h.viewed.cells, f.viewed.cells);
      span = c.span-first.ensures.is;
      full = λ tells. key_on f.viewed.image (h.ends.2 (told_before h.viewed (told_before f.viewed tells)));
    }

pub look_on-requires-clause-kept : goal.look_on-requires-clause-kept
look_on-requires-clause-kept g t c = λ tells.
    let h = c.look_here.ensures in
    let f = c.first_pointer.ensures in
    let before = told_before h.looks.viewed (told_before f.viewed tells) in
    search_on f.viewed.image (with_fronts h.looks.viewed.image (c.requires.kept before) (h.kept before))

pub returns-in_default-clause-kept : goal.returns-in_default-clause-kept
returns-in_default-clause-kept g t c = λ tells.
    c.look_on.ensures.kept (told c.first_pointer.ensures.viewed (told c.look_here.ensures.looks.viewed tells))

pub search-requires : goal.search-requires
search-requires g t c = λ κs lives.
    let h = rw c.in-Beyond.is at c.in_ok-here.ensures.looks in
    let f = rw c.in-Some.is at c.in_ok-to.ensures in
    let s = c.span-first.ensures in
    let falls = level_falls c.in-Beyond.greatest c.args.x c.args.reached.low c.args.reached.bound c.args.reached.level
    c.span-first.result s.is s.low c.requires.ready.below c.requires.ready.narrow h.ends.0 in
    let edge : c.args.bounds.edge ≤ (g.V.View.seen c.first_pointer.new.view).cells = omega
    (arith, c.requires.ready.edge, h.viewed.cells, f.viewed.cells) in (
      omega (arith, falls, c.decreases),
      (
        lives,
        (
          record {
            inside = omega (arith, f.ends.1, edge);
            edge = edge;
            from = s.low;
            below = s.high;
            narrow = omega (arith, s.is.high);
            level = omega (arith, falls, c.requires.ready.level);
          },
          λ tells.
              let before = told_before h.viewed (told_before f.viewed tells) in
              let kept = search_on f.viewed.image
              (with_fronts h.viewed.image (c.requires.kept before) (c.look_here.ensures.kept before)) in
              with_hops kept (c.keep.ensures _ kept.hops (record {
                span = s.is;
                full = key_on f.viewed.image (h.ends.2 before);
                jump = f.ends.2 (told_before f.viewed tells);
              })),
        ),
      ),
    )

pub look_on-requires-in-Ok-Nothing-clause-ready : goal.look_on-requires-in-Ok-Nothing-clause-ready
look_on-requires-in-Ok-Nothing-clause-ready g t c =
    let h = rw c.in-Beyond.is at c.in_ok-here.ensures.looks in
    let f = c.first_pointer.ensures in
    let s = c.search.ensures.looks in
    record {
      inside = omega (arith, c.requires.ready.inside, h.viewed.cells, f.viewed.cells, s.viewed.cells);
      edge = omega (arith, c.requires.ready.edge, h.viewed.cells, f.viewed.cells, s.viewed.cells);
      span = c.span-first.ensures.is;
      full = λ tells. key_on s.viewed.image (key_on f.viewed.image (h.ends.2 (told_before h.viewed
          (told_before f.viewed (told_before s.viewed tells)))));
    }

pub look_on-requires-in-Ok-Nothing-clause-kept : goal.look_on-requires-in-Ok-Nothing-clause-kept
look_on-requires-in-Ok-Nothing-clause-kept g t c = λ tells.
    c.search.ensures.kept (told_before c.search.ensures.looks.viewed tells)

pub returns-in-Ok-Nothing-clause-kept : goal.returns-in-Ok-Nothing-clause-kept
returns-in-Ok-Nothing-clause-kept g t c = λ tells.
    c.look_on-in-Ok-Nothing.ensures.kept (told c.search.ensures.looks.viewed (told c.first_pointer.ensures.viewed
    (told c.look_here.ensures.looks.viewed tells)))

pub returns-in_err-to-clause-looks : goal.returns-in_err-to-clause-looks
returns-in_err-to-clause-looks g t c =
    rw (handed c.from_residual-in_err-to.result c.in_err-to.field-0.0 c.from_residual-in_err-to.ensures.1)
    (let here = c.look_here.ensures.looks in
    let first = c.in_err-to.ensures in
    record {
      viewed = viewed_then here.viewed first.viewed;
      reads = omega (arith, here.reads, first.reads);
      ends = fault_then c.args.bounds c.args.reached.block (g.V.View.seen c.args.view.now)
          (g.V.View.seen c.look_here.new.view) (g.V.View.seen c.first_pointer.new.view) here.viewed
          c.in_err-to.field-0.0 first.ends;
    })

pub returns-in_default-clause-looks : goal.returns-in_default-clause-looks
returns-in_default-clause-looks g t c =
    let h = rw c.in-Beyond.is at c.in_ok-here.ensures.looks in
    let f = rw c.in_default.is at c.in_ok-to.ensures in
    let s = c.span-first.ensures in
    then_on c.args.bounds c.args.reached.block c.args.x c.args.reached.low c.args.reached.bound c.args.reached.level c.in-Beyond.greatest _ _ _
    c.span-first.result s.high
    (passed_blank c.args.bounds c.args.reached.block c.args.x c.args.reached.level _ _ _ c.in-Beyond.greatest c.span-first.result s.is
    s.low h.viewed h.reads h.ends.2 f)
    h.ends.0 h.ends.1 c.requires.ready.below (λ tells. key_on f.viewed.image (h.ends.2 tells))
    c.look_on.result c.look_on.ensures.looks

pub returns-in-Ok-Found-clause-looks : goal.returns-in-Ok-Found-clause-looks
returns-in-Ok-Found-clause-looks g t c =
    let h = rw c.in-Beyond.is at c.in_ok-here.ensures.looks in
    let s = c.span-first.ensures in
    found_behind c.args.bounds c.args.reached.block c.args.x c.args.reached.level _ _ _ _ c.in-Beyond.greatest c.in-Some.target
    c.span-first.result s.is s.low s.high
    (level_falls c.in-Beyond.greatest c.args.x c.args.reached.low c.args.reached.bound c.args.reached.level c.span-first.result s.is s.low
    c.requires.ready.below c.requires.ready.narrow h.ends.0)
    c.requires.ready.edge h.viewed h.reads h.ends.2 (rw c.in-Some.is at c.in_ok-to.ensures)
    c.in-Ok-Found.entry c.args.reached.low c.args.reached.bound c.within.result h.ends.0 h.ends.1 c.requires.ready.below
    (rw c.in-Ok-Found.field-0-is at c.in-Ok-Found.ensures.looks) c.within.ensures

pub returns-in-Ok-Nothing-clause-looks : goal.returns-in-Ok-Nothing-clause-looks
returns-in-Ok-Nothing-clause-looks g t c =
    let h = rw c.in-Beyond.is at c.in_ok-here.ensures.looks in
    let f = rw c.in-Some.is at c.in_ok-to.ensures in
    let s = c.span-first.ensures in
    let behind = rw c.in-Ok-Nothing.field-0-is at c.in-Ok-Nothing.ensures.looks in
    then_on c.args.bounds c.args.reached.block c.args.x c.args.reached.low c.args.reached.bound c.args.reached.level c.in-Beyond.greatest _ _ _
    c.span-first.result s.high
    (passed_nothing c.args.bounds c.args.reached.block c.args.x c.args.reached.level _ _ _ _ c.in-Beyond.greatest c.in-Some.target
    c.span-first.result s.is s.low s.high
    (level_falls c.in-Beyond.greatest c.args.x c.args.reached.low c.args.reached.bound c.args.reached.level c.span-first.result s.is s.low
    c.requires.ready.below c.requires.ready.narrow h.ends.0)
    c.requires.ready.edge h.viewed h.reads h.ends.2 f behind)
    h.ends.0 h.ends.1 c.requires.ready.below (λ tells. key_on behind.viewed.image (key_on f.viewed.image (h.ends.2 tells)))
    c.look_on-in-Ok-Nothing.result c.look_on-in-Ok-Nothing.ensures.looks

pub returns-in-Ok-NoKey-clause-looks : goal.returns-in-Ok-NoKey-clause-looks
returns-in-Ok-NoKey-clause-looks g t c =
    let h = rw c.in-Beyond.is at c.in_ok-here.ensures.looks in
    let s = c.span-first.ensures in
    no_key_behind c.args.bounds c.args.reached.block c.args.x c.args.reached.level _ _ _ _ c.in-Beyond.greatest c.in-Some.target
    c.span-first.result s.is s.low s.high
    (level_falls c.in-Beyond.greatest c.args.x c.args.reached.low c.args.reached.bound c.args.reached.level c.span-first.result s.is s.low
    c.requires.ready.below c.requires.ready.narrow h.ends.0)
    c.requires.ready.edge h.viewed h.reads h.ends.2 (rw c.in-Some.is at c.in_ok-to.ensures)
    c.leads_nowhere.result c.args.reached.low c.args.reached.bound (rw c.in-Ok-NoKey.field-0-is at c.in-Ok-NoKey.ensures.looks)
    c.leads_nowhere.ensures

pub returns-in-Err-clause-looks : goal.returns-in-Err-clause-looks
returns-in-Err-clause-looks g t c =
    let h = rw c.in-Beyond.is at c.in_ok-here.ensures.looks in
    let s = c.span-first.ensures in
    fault_behind c.args.bounds c.args.reached.block c.args.x c.args.reached.level _ _ _ _ c.in-Beyond.greatest c.in-Some.target
    c.span-first.result s.is s.low s.high
    (level_falls c.in-Beyond.greatest c.args.x c.args.reached.low c.args.reached.bound c.args.reached.level c.span-first.result s.is s.low
    c.requires.ready.below c.requires.ready.narrow h.ends.0)
    c.requires.ready.edge h.viewed h.reads h.ends.2 (rw c.in-Some.is at c.in_ok-to.ensures)
    c.in-Err.fault c.args.reached.low c.args.reached.bound c.in-Err.ensures.looks
