-- The slots below this turn's keep the rule.
use Rattle.cell_types.specs.Layout.{outcome_at}
use Rattle.log_audit.specs.KeptVolumes.{image_in}
use Rattle.tamper_rules.specs.Rules.{DocumentRule}
use Rattle.log_audit.proofs.Families.{AreFine}
use Rattle.slot_audit.proofs.documents.first_broken_document.Given as goal

abbrev pub invariant-loop-slot : goal.invariant-loop-slot
invariant-loop-slot l = AreFine (image_in l.volume) outcome_at
    (DocumentRule l.volume.geometry (image_in l.volume)) l.slot
