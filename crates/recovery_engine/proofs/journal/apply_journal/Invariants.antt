-- The journal cells before this turn's are written.
use Rattle.std.proofs.Common.{Ok}
use Rattle.std.specs.Prelude.{IsTrue}
use Rattle.recovery_engine.specs.Putting.{Puts}
use Rattle.recovery_engine.specs.Journal.{IsEntryPut}
use Rattle.recovery_engine.proofs.Entries.{CheckedTo}
use Rattle.recovery_engine.proofs.journal.apply_journal.Given as goal

abbrev pub invariant-loop-k : goal.invariant-loop-k
invariant-loop-k g l =
    let old = g.D.Device.state l.fn.device in
    let now = g.D.Device.state l.device in
    record {
      puts : Puts (IsEntryPut old.image l.journal.place l.k) old now (Ok tt);
      checked : IsTrue old.tells → CheckedTo l.journal.first old.image l.journal.place l.journal.below l.k l.floor;
    }
