-- The child cells before this turn's lead down well.
use Rattle.std.proofs.Common.{◌+◌, ℕ}
use Rattle.log_audit.specs.KeptVolumes.{image_in}
use Rattle.log_audit.proofs.Families.{AreFine}
use Rattle.tree_audit.specs.Children.{LeadsDownEach}
use Rattle.tree_audit.proofs.children.broken_under.Given as goal

abbrev pub invariant-loop-x : goal.invariant-loop-x
invariant-loop-x l = AreFine (image_in l.volume) (λ (x : ℕ). l.node + 16 + x)
    (LeadsDownEach l.volume.geometry (image_in l.volume) l.node) l.x
