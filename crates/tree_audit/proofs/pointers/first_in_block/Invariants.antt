-- The pointer places before this turn's keep the rule.
use Rattle.std.specs.Prelude.{◌+◌, ◌/◌, ◌%◌, ℕ}
use Rattle.log_audit.specs.KeptVolumes.{image_in}
use Rattle.log_audit.proofs.Families.{AreFine}
use Rattle.tamper_rules.specs.Rules.{LeadsWell}
use Rattle.tree_audit.proofs.pointers.first_in_block.Given as goal

abbrev pub invariant-loop-pointer : goal.invariant-loop-pointer
invariant-loop-pointer l = AreFine (image_in l.volume) (λ (k : ℕ). l.listed.block + (128 + k))
    (λ (k : ℕ). LeadsWell l.volume.geometry (image_in l.volume) l.listed.list l.listed.block (k / 15)
    (k % 15 + 1)) l.pointer
