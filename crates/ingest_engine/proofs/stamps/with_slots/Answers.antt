-- The bytes were read, or they were not.
use Rattle.std.proofs.Common.{◌/◌, ℕ, length, subst}
use Rattle.cell_types.proofs.Passed.{handed}
use Rattle.cell_types.specs.declared.refusal.Fault.TheVariants.{Failed}
use Rattle.worm_device.specs.ReadBytes.{AreReadBetween}
use Rattle.ingest_engine.proofs.stamps.with_slots.Goals as goal

pub returns-in_err-read_bytes : goal.returns-in_err-read_bytes
returns-in_err-read_bytes g c =
    rw (handed c.from_residual.result Failed c.from_residual.ensures.1)
    (record {
      viewed = c.in_err-read_bytes.ensures.viewed;
      ends = (tt, λ horizon edge. c.in_err-read_bytes.ensures.cause);
    })

pub returns : goal.returns
returns g c =
    let old = g.V.View.seen c.args.view.now in
    let new = g.V.View.seen c.read_bytes.new.self in
    let read = c.in_ok-read_bytes.ensures in
    let bytes = c.read_bytes.new.bytes in
    c.latest_in_row.ensures old new (record {
      viewed = read.viewed;
      view = g.met.V.View.proper c.read_bytes.new.self;
      faults = read.cause;
      read = λ tells.
          subst (λ (at : ℕ). AreReadBetween (length bytes / 16) at bytes old.image new.image)
          c.reserve_at.ensures.at (read.answer tells);
    })
