-- The pointers of the blocks before this turn's were followed.
use Rattle.std.proofs.Common.{◌≡◌}
use Rattle.log_audit.specs.Kept.{image_of_kept}
use Rattle.list_audit.specs.Blocks.{AreClosedBelow, AreFound}
use Rattle.list_audit.specs.Following.{AreFollowed}
use Rattle.list_audit.proofs.blocks.found_blocks.Given as goal

abbrev pub invariant-loop-turn : goal.invariant-loop-turn
invariant-loop-turn l = (l.found.for_two ≡ l.for_two)
    × AreClosedBelow l.for_two l.geometry (image_of_kept l.kept) l.turn l.found.blocks.items
    × AreFound l.found
    × AreFollowed l.for_two l.geometry (image_of_kept l.kept) l.followed.numbers l.found.blocks.items
