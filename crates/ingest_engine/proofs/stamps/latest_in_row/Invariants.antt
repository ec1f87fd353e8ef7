-- The slots from one on were read in the row.
use Rattle.std.specs.Prelude.{◌+◌, ◌≤◌, ◌<ℤ◌, Ok, pos}
use Rattle.worm_device.specs.Views.{ViewState}
use Rattle.commit_record.specs.SlotBytes.{ReadsSlotBytes}
use Rattle.ingest_engine.specs.Stamps.{AddsStamps, stamp_of_number}
use Rattle.ingest_engine.proofs.stamps.latest_in_row.Given as goal

abbrev pub invariant-loop-left : goal.invariant-loop-left
invariant-loop-left l = (l.left ≤ l.count) × (l.last <ℤ pos 4294967296)
    × ((old new : ViewState) → ReadsSlotBytes l.first l.row old new
    → AddsStamps l.geometry (l.first + l.left) (l.first + l.count) l.fn.greatest old new (Ok (stamp_of_number l.last)))

abbrev pub decreases-loop-left : goal.decreases-loop-left
decreases-loop-left l = l.left
