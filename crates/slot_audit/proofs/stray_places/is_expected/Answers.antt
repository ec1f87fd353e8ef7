-- Before the pool, behind the edge, of no slot's blocks, and of a slot's.
use Rattle.std.proofs.Common.{arith}
use Rattle.log_audit.specs.KeptVolumes.{image_in}
use Rattle.log_audit.proofs.Deciding.{no, yes}
use Rattle.log_audit.proofs.Edges.{is_edge}
use Rattle.slot_audit.proofs.Regions.{expected_free, expected_named, in_blocks, in_first_parts}
use Rattle.slot_audit.proofs.stray_places.is_expected.Goals as goal

pub returns-then-cell-pool_at : goal.returns-then-cell-pool_at
returns-then-cell-pool_at c = let volume = c.args.volume.now in
    let g = volume.geometry in let image = image_in volume in (
      λ has. expected_named g image volume.log volume.is_log c.args.cell (omega (arith, c.if-cell-lt4.false))
          (λ pool. absurd (omega (arith, pool, c.if-cell-pool_at.true, c.pool_at.ensures.at)))
          (c.requires.named.only c.args.cell (c.has.ensures.0 has)),
      λ expected. c.has.ensures.1 (c.requires.named.all c.args.cell (expected.named (in_first_parts g image c.args.cell
          (omega (arith, c.if-cell-lists_at.false, c.lists_at.ensures.at))
          (omega (arith, c.if-cell-pool_at.true, c.pool_at.ensures.at))))),
    )

pub returns-then-cell-volume : goal.returns-then-cell-volume
returns-then-cell-volume c = let volume = c.args.volume.now in
    let g = volume.geometry in let image = image_in volume in
    no (λ expected. let b = expected.edge volume.log.edge (is_edge g image volume.log volume.is_log)
    (omega (arith, c.if-cell-pool_at.false, c.pool_at.ensures.at)) in omega (arith, b, c.if-cell-volume.true))

pub returns-in_default : goal.returns-in_default
returns-in_default c = let volume = c.args.volume.now in
    yes (expected_free volume.geometry (image_in volume) volume.log volume.is_log c.args.cell
    (omega (arith, c.if-cell-lt4.false)) (omega (arith, c.if-cell-pool_at.false, c.pool_at.ensures.at))
    (omega (arith, c.if-cell-volume.false)) c.in_default.ensures.none)

pub returns : goal.returns
returns c = let volume = c.args.volume.now in
    let g = volume.geometry in let image = image_in volume in (
      λ has. expected_named g image volume.log volume.is_log c.args.cell (omega (arith, c.if-cell-lt4.false))
          (λ pool. omega (arith, c.if-cell-volume.false)) (c.requires.named.only c.args.cell (c.has-2.ensures.0 has)),
      λ expected. c.has-2.ensures.1 (c.requires.named.all c.args.cell
          (expected.named (in_blocks g image volume.log volume.is_log _ c.args.cell c.in-Some.ensures.some))),
    )
