-- What settling made is told.
use Rattle.std.proofs.Common.{Ok, refl}
use Rattle.cell_types.proofs.Passed.{handed}
use Rattle.cell_types.specs.declared.refusal.Refusal.TheVariants.{SinkFault}
use Rattle.crash_laws.proofs.EndedAs.{settling_ends}
use Rattle.volume_commands.proofs.recover.recover_device.Goals as goal

-- the sink failed
pub returns-in_err-put_step : goal.returns-in_err-put_step
returns-in_err-put_step g c =
    let old = g.D.Device.state c.args.device.now in
    let new = g.D.Device.state c.settle.new.device in
    let device = g.met.D.Device.proper c.settle.new.device in
    rw (handed c.from_residual-in_err-put_step.result SinkFault c.from_residual-in_err-put_step.ensures.1)
    (record {
      answer = Ok c.in_ok-ready.ready;
      settles = c.in_ok-ready.ensures;
      makes = λ tells still sound. settling_ends old new c.in_ok-ready.ready sound.after device.sure tells
          c.in_ok-ready.ensures still sound.is sound.settled;
      source = refl;
      tells = c.in_err-put_step.ensures.part;
    })

-- it is told
pub returns : goal.returns
returns g c =
    let old = g.D.Device.state c.args.device.now in
    let new = g.D.Device.state c.settle.new.device in
    let device = g.met.D.Device.proper c.settle.new.device in
    record {
      answer = Ok c.in_ok-ready.ready;
      settles = c.in_ok-ready.ensures;
      makes = λ tells still sound. settling_ends old new c.in_ok-ready.ready sound.after device.sure tells
          c.in_ok-ready.ensures still sound.is sound.settled;
      source = refl;
      tells = c.in_ok-put_step.ensures.whole;
    }
