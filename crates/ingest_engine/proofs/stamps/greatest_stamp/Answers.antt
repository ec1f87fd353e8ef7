-- The slots are read row after row.
use Rattle.std.proofs.Common.{◌-◌, ℕ, arith, Err, Ok, subst}
use Rattle.cell_types.proofs.Passed.{handed}
use Rattle.ingest_engine.specs.Stamps.{AddsStamps}
use Rattle.ingest_engine.proofs.ReadStamps.{all_read, none_read, some_more, stopped}
use Rattle.ingest_engine.proofs.stamps.greatest_stamp.Goals as goal

pub loop-left-init : goal.loop-left-init
loop-left-init g c = (
  omega arith,
  none_read c.args.volume.now.geometry c.args.below (g.V.View.seen c.args.view.now) c.args.below (omega arith),
)

-- a row was not read, or a slot's cells are no state
pub returns-in_err-greatest : goal.returns-in_err-greatest
returns-in_err-greatest g c =
    let fault = c.in_err-greatest.field-0.0 in
    let first : ℕ = c.loop-left.left - c.min-count.result in
    rw (handed c.from_residual.result fault c.from_residual.ensures.1)
    (stopped c.args.volume.now.geometry c.args.below c.loop-left.invariant.1 c.loop-left.invariant.0 fault
    (subst
    (λ (k : ℕ). AddsStamps c.args.volume.now.geometry first k c.loop-left.greatest (g.V.View.seen c.loop-left.view)
    (g.V.View.seen c.with_slots.new.view) (Err fault))
    (omega (arith, c.min-count.ensures)) c.in_err-greatest.ensures))

-- a row more
pub loop-left-preserved : goal.loop-left-preserved
loop-left-preserved g c =
    let first : ℕ = c.loop-left.left - c.min-count.result in (
      omega (arith, c.loop-left.invariant.0),
      some_more c.args.volume.now.geometry c.args.below c.loop-left.invariant.1 c.loop-left.invariant.0
          c.in_ok-greatest.greatest
          (subst
          (λ (k : ℕ). AddsStamps c.args.volume.now.geometry first k c.loop-left.greatest
          (g.V.View.seen c.loop-left.view)
          (g.V.View.seen c.with_slots.new.view) (Ok c.in_ok-greatest.greatest))
          (omega (arith, c.min-count.ensures)) c.in_ok-greatest.ensures),
    )

pub returns : goal.returns
returns g c =
    all_read c.args.volume.now.geometry c.args.below c.loop-left.invariant.1 (omega (arith, c.loop-left-test.false))
