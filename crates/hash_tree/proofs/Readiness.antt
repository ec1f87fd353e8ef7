-- That an insertion may be made where a path ended.
use Rattle.std.proofs.Common.{◌≡◌, ◌≢◌, ◌≤◌, ℕ, Option, Some, None, sym, subst, arith}
use Rattle.std.specs.Prelude.{IsTrue}
use Rattle.cell_types.specs.Image.{Image, Extends}
use Rattle.cell_types.specs.Layout.{Layout, pool_at}
use Rattle.hash_tree.specs.Levels.{IsLedByChild, IsLevelPlaced, IsNodeWithin, node_of}
use Rattle.hash_tree.specs.Steps.{IsOpenOf}
use Rattle.hash_tree.specs.declared.level.ChildCell.{ChildCell}
use Rattle.hash_tree.specs.declared.level.Level.{Level}
use Rattle.hash_tree.specs.declared.path.Open.{Open}
use Rattle.worm_device.specs.Views.{ViewState}
use Rattle.hash_tree.specs.Readiness.{IsReadyPlace, blank_of, owner_in}

-- the child cell that led to a level stands on
led_on : {a b : Image} (led : Option ChildCell) → Extends a b → IsLedByChild a led → IsLedByChild b led
led_on None e stands = stands
led_on (Some child) e stands = (e.keeps child.cell child.found stands.0, stands.1)

-- The path ended at this place in a view of what stands below what is planned now, and before the cell from which on
-- nothing below is asked.
pub ready_after : {g : Layout} {edge next : ℕ} {level : Level} {place : Open} {seen view : ViewState}
    → IsLevelPlaced g edge seen level → IsOpenOf g level place → pool_at g ≤ edge → view.fresh ≡ edge → edge ≤ next
    → (IsTrue view.base.tells → IsTrue seen.base.tells × Extends seen.image view.lower)
    → ((cell : ℕ) → next ≤ cell → view.planned cell ≡ None)
    → (level.led_by ≡ None → view.planned (blank_of place) ≡ None)
    → view.owners (blank_of place) ≢ Some (owner_in g (node_of g level)) → IsReadyPlace g level place next view
ready_after {g} {edge} {next} {level} {place} {seen} {view} placed at from is_fresh before stands beyond of_root
    of_others = record {
      number = placed.number;
      open_at = at;
      from = omega (arith, from, is_fresh);
      fresh = omega (arith, is_fresh, before);
      within = subst (λ (f : ℕ). IsNodeWithin g f level.led_by) (sym is_fresh) placed.within;
      beyond = beyond;
      of_root = of_root;
      of_others = of_others;
      led = λ tells. led_on level.led_by (stands tells).1 (placed.led (stands tells).0);
    }
