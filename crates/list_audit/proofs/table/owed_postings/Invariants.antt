-- The postings of the slots below this turn's were added, whether those of each document exist is known, and keys are of
-- the volume's lists.
use Rattle.std.specs.Prelude.{◌≡◌, IsTrue}
use Rattle.log_audit.specs.KeptVolumes.{image_in}
use Rattle.list_audit.specs.Owing.{AllExist, AreOwed}
use Rattle.list_audit.proofs.table.owed_postings.Given as goal

abbrev pub invariant-loop-slot : goal.invariant-loop-slot
invariant-loop-slot g l = AreOwed l.volume.geometry (image_in l.volume) l.slot l.table.rows.items
    × (IsTrue l.all_exist → AllExist l.volume.geometry (image_in l.volume) l.slot)
    × (l.known ≡ l.volume.geometry.lists)
