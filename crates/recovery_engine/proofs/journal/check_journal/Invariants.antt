-- The journal cells before this turn's are entries.
use Rattle.std.specs.Prelude.{◌≡◌, IsTrue}
use Rattle.cell_types.specs.Image.{IsUnchanged}
use Rattle.worm_device.specs.Calls.{Called}
use Rattle.worm_device.specs.Counts.{IsStill}
use Rattle.recovery_engine.proofs.Entries.{CheckedTo}
use Rattle.recovery_engine.proofs.journal.check_journal.Given as goal

abbrev pub invariant-loop-k : goal.invariant-loop-k
invariant-loop-k g l =
    let old = g.D.Device.state l.fn.device in
    let now = g.D.Device.state l.device in
    record {
      called : Called old now;
      unfailed : now.faults ≡ old.faults;
      quiet : IsStill old.foreign_writes now.foreign_writes → IsUnchanged old.image now.image;
      checked : IsTrue old.tells → CheckedTo l.journal.first now.image l.journal.place l.journal.below l.k l.floor;
    }
