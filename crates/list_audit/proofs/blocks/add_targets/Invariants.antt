-- The pointer places before this turn's were followed.
use Rattle.std.proofs.Common.{◌≡◌}
use Rattle.log_audit.specs.Kept.{image_of_kept}
use Rattle.list_audit.specs.Blocks.{AreFound}
use Rattle.list_audit.specs.Following.{AreFollowed}
use Rattle.list_audit.proofs.Closing.{IsFollowed}
use Rattle.list_audit.proofs.blocks.add_targets.Given as goal

abbrev pub invariant-loop-pointer : goal.invariant-loop-pointer
invariant-loop-pointer l = (l.found.for_two ≡ l.fn.found.for_two)
    × IsFollowed l.fn.found.for_two l.geometry (image_of_kept l.kept) l.turn l.from l.pointer l.found.blocks.items
    × AreFound l.found
    × AreFollowed l.fn.found.for_two l.geometry (image_of_kept l.kept) l.followed.numbers l.found.blocks.items
