-- The written cells so far are expected.
use Rattle.log_audit.specs.KeptVolumes.{image_in}
use Rattle.log_audit.specs.Rows.{rows_of}
use Rattle.slot_audit.proofs.StraysGoing.{AreExpected}
use Rattle.slot_audit.proofs.stray_places.first_unexpected.Given as goal

abbrev pub invariant-loop-place : goal.invariant-loop-place
invariant-loop-place l = AreExpected l.volume.geometry (image_in l.volume) (rows_of l.volume.kept) l.place
