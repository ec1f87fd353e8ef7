-- The device of which `run` speaks is one over the file.
use Rattle.command_line.specs.Requests.{ToIngest}
use Rattle.record_top.proofs.Keeping.{keeps, stays}
use Rattle.record_top.proofs.over_file.run_over_file.Goals as goal

pub returns-clause-keeps : goal.returns-clause-keeps
returns-clause-keeps g c id stamp asks =
    let before = c.args.device.now in
    let device = c.run_metered-outcome.new.device in
    let old = g.F.HostFile.state before.file in
    let new = g.F.HostFile.state device.file in
    keeps before.cells before.reads old.faults old.parts device.cells device.reads new.faults new.parts old.told
    new.told id stamp
    (g.S.Source.state c.args.source.now) (g.S.Source.state c.run_metered-outcome.new.source)
    (g.K.Sink.state c.args.sink.now) (g.K.Sink.state c.run_metered-outcome.new.sink)
    c.crashes_are_seen.ensures c.run_metered-outcome.result
    (c.run_metered-outcome.ensures.does (ToIngest id stamp) asks)

pub returns-clause-stays : goal.returns-clause-stays
returns-clause-stays g c =
    let before = c.args.device.now in
    let device = c.run_metered-outcome.new.device in
    let old = g.F.HostFile.state before.file in
    let new = g.F.HostFile.state device.file in
    stays before.cells before.reads old.faults old.parts device.cells device.reads new.faults new.parts old.told
    new.told
    c.run_metered-outcome.ensures.called c.crashes_are_seen.ensures
