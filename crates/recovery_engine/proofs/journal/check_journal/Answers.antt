-- One journal cell after another.
use Rattle.std.proofs.Common.{◌+◌, refl, sym, ◌∙◌, subst}
use Rattle.std.specs.Prelude.{IsTrue}
use Rattle.worm_device.proofs.Counting.{still_first, still_second}
use Rattle.worm_device.proofs.Elapsing.{called_then}
use Rattle.worm_device.proofs.Images.{unchanged_then}
use Rattle.recovery_engine.proofs.Entries.{checked_on, checked_more}
use Rattle.recovery_engine.proofs.journal.check_journal.Goals as goal

pub loop-k-preserved : goal.loop-k-preserved
loop-k-preserved g c =
    let inv = c.loop-k.invariant in
    let j = c.args.journal.now in
    let new = g.D.Device.state c.entry.new.device in
    record {
      called = called_then inv.called c.entry.ensures.called;
      unfailed = c.in_ok-put.ensures.unfailed refl ∙ inv.unfailed;
      quiet = λ still. unchanged_then (inv.quiet
          (still_first inv.called.foreign_writes c.entry.ensures.called.foreign_writes still))
          (c.entry.ensures.quiet (still_second inv.called.foreign_writes c.entry.ensures.called.foreign_writes still));
      checked = λ tells. checked_more j.first new.image j.place j.below c.loop-k.k c.loop-k.floor
          (c.in_ok-put.put.at + 1) c.in_ok-put.put (checked_on c.entry.ensures.called.image (inv.checked tells))
          c.in_ok-put.ensures.ends.0 c.in_ok-put.ensures.ends.1
          (c.in_ok-put.ensures.ends.2 (subst IsTrue (sym inv.called.tells) tells)) refl;
    }
