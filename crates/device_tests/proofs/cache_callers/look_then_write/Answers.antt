-- One call after another.
use Rattle.std.proofs.Common.{rules}
use Rattle.worm_device.proofs.Elapsing.{called_then}
use Rattle.device_tests.proofs.cache_callers.look_then_write.Goals as goal

pub returns-in_err-write-clause-called : goal.returns-in_err-write-clause-called
returns-in_err-write-clause-called g c =
    let looked = c.read_kept.ensures.viewed.called in
    called_then (search (rules, looked)) c.write.ensures.called

pub returns-clause-called : goal.returns-clause-called
returns-clause-called g c =
    let looked = c.read_kept.ensures.viewed.called in
    called_then (search (rules, looked)) c.write.ensures.called
