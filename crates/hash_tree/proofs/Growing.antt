-- What is said of a level goes on holding while a view is read, and while its image grows.
use Rattle.std.proofs.Common.{ℕ, Option, Some, None, subst}
use Rattle.std.specs.Prelude.{IsTrue}
use Rattle.cell_types.specs.Image.{Image, Extends}
use Rattle.cell_types.specs.Layout.{Layout}
use Rattle.volume_meaning.proofs.Extending.{holds_on}
use Rattle.volume_meaning.specs.HashPaths.{Sought}
use Rattle.volume_meaning.specs.Nodes.{IsNode, root, under}
use Rattle.volume_meaning.proofs.HashTrails.{passed_on, passed_to_on}
use Rattle.worm_device.specs.Views.{ViewState, Viewed}
use Rattle.hash_tree.specs.Levels.{IsLedByChild, IsLedWithin, IsLevelPlaced, IsLevelReached}
use Rattle.hash_tree.specs.Steps.{IsPassedUpTo}
use Rattle.hash_tree.specs.declared.level.ChildCell.{ChildCell}
use Rattle.hash_tree.specs.declared.level.Level.{Level}

-- the child cell that led to a level stands on
led_on : {a b : Image} (led : Option ChildCell) → Extends a b → IsLedByChild a led → IsLedByChild b led
led_on None e stands = stands
led_on (Some child) e stands = (e.keeps child.cell child.found stands.0, stands.1)

-- so a level stays where it is
pub placed_on : {g : Layout} {edge : ℕ} {old new : ViewState} {level : Level} → Viewed old new
    → IsLevelPlaced g edge old level → IsLevelPlaced g edge new level
placed_on {g} {edge} {old} {new} {level} viewed placed = record {
  number = placed.number;
  within = placed.within;
  led = λ tells. led_on level.led_by viewed.image (placed.led (subst IsTrue viewed.called.tells tells));
}

-- a node of a volume stays one
node_on : {g : Layout} {old new : Image} {level node : ℕ} → Extends old new → IsNode g old level node
    → IsNode g new level node
node_on e (root level node is at) = root level node is at
node_on e (under level node v above x is rest half less child from to) =
    under level node v above x is (node_on e rest) half less (holds_on e child) from to

-- so a level that is reached stays so
pub reached_on : {g : Layout} {old new : Image} (level : Level) → Extends old new → IsLevelReached g old level
    → IsLevelReached g new level
reached_on level e reached = node_on e reached

-- and so does a child cell that is one of a node
pub led_within_on : (g : Layout) {old new : Image} (led : Option ChildCell) → Extends old new → IsLedWithin g old led
    → IsLedWithin g new led
led_within_on g None e within = tt
led_within_on g (Some child) e within = record {
  level = within.level;
  node = within.node;
  half_byte = within.half_byte;
  is_node = node_on e within.is_node;
  below = within.below;
  at = within.at;
}

-- and a path that is passed
pub passed_up_to_on : {g : Layout} {edge from : ℕ} {old new : Image} {s : Sought} {level : Level} → Extends old new
    → IsPassedUpTo g edge old from s level → IsPassedUpTo g edge new from s level
passed_up_to_on e up = record {
  digest = up.digest;
  pool = up.pool;
  cells = up.cells;
  passed = passed_to_on e up.passed;
  answered = λ answered. passed_on e (up.answered answered);
}
