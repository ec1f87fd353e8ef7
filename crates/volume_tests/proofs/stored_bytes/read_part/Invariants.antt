-- The reader is in its part, and the part in the view.
use Rattle.std.proofs.Common.{◌≡◌, ◌≤◌, ◌+◌}
use Rattle.append_file.specs.Reading.{IsPosition}
use Rattle.volume_meaning.specs.Slots.{cells_for}
use Rattle.volume_tests.proofs.stored_bytes.read_part.Given as goal

abbrev pub invariant-loop : goal.invariant-loop
invariant-loop g l =
    IsPosition l.reader.position
    × (l.reader.position.start + cells_for l.reader.position.bytes ≤ (g.V.View.seen l.reader.view.now).cells)
    × (l.reader.view.ghost_name ≡ l.initial.reader.view.ghost_name)
