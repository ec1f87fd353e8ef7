-- The slots below this turn's keep the rule.
use Rattle.cell_types.specs.Layout.{reserve_at}
use Rattle.log_audit.specs.Kept.{image_of_kept}
use Rattle.tamper_rules.specs.Rules.{ReserveRule}
use Rattle.log_audit.proofs.Families.{AreFine}
use Rattle.log_audit.proofs.broken.first_broken_reserve.Given as goal

abbrev pub invariant-loop-slot : goal.invariant-loop-slot
invariant-loop-slot l = AreFine (image_of_kept l.kept) reserve_at (ReserveRule l.geometry (image_of_kept l.kept)) l.slot
