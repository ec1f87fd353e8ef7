-- The slots below this turn's keep the rule.
use Rattle.cell_types.specs.Layout.{done_at}
use Rattle.log_audit.specs.Kept.{image_of_kept}
use Rattle.tamper_rules.specs.Rules.{DoneRule}
use Rattle.log_audit.proofs.Families.{AreFine}
use Rattle.log_audit.proofs.broken.first_broken_done.Given as goal

abbrev pub invariant-loop-slot : goal.invariant-loop-slot
invariant-loop-slot l = AreFine (image_of_kept l.kept) done_at (DoneRule (image_of_kept l.kept)) l.slot
