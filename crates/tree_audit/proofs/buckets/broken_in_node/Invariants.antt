-- The buckets before this turn's are true ones.
use Rattle.std.proofs.Common.{◌+◌, ℕ}
use Rattle.log_audit.specs.KeptVolumes.{image_in}
use Rattle.tamper_rules.specs.Rules.{IsTrueBucket}
use Rattle.log_audit.proofs.Families.{AreFine}
use Rattle.tree_audit.proofs.buckets.broken_in_node.Given as goal

abbrev pub invariant-loop-x : goal.invariant-loop-x
invariant-loop-x l = AreFine (image_in l.volume) (λ (x : ℕ). l.node + x)
    (IsTrueBucket l.volume.geometry (image_in l.volume) l.node) l.x
