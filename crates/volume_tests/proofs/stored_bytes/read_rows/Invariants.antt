-- The position is in its part, and the part in the view.
use Rattle.std.proofs.Common.{◌≡◌, ◌≤◌, ◌+◌}
use Rattle.append_file.specs.Reading.{IsPosition}
use Rattle.volume_meaning.specs.Slots.{cells_for}
use Rattle.volume_tests.proofs.stored_bytes.read_rows.Given as goal

abbrev pub invariant-loop : goal.invariant-loop
invariant-loop g l =
    IsPosition l.position
    × (l.position.start + cells_for l.position.bytes ≤ (g.V.View.seen l.view).cells)
