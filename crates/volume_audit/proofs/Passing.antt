-- A rule that is kept, and one that is broken.
use Rattle.std.proofs.Common.{◌+◌, Option, Some, None, Result, refl, sym, subst}
use Rattle.cell_types.specs.Image.{Image}
use Rattle.cell_types.specs.Layout.{Layout}
use Rattle.cell_types.specs.declared.refusal.Evidence.{Evidence}
use Rattle.cell_types.specs.declared.refusal.Refusal.{Refusal}
use Rattle.tamper_rules.specs.Rules.{Rule, number_of}
use Rattle.log_audit.specs.Findings.{AreMetBelow, FindsBroken}
use Rattle.log_audit.proofs.Numbers.{below_next}
use Rattle.log_audit.proofs.Stopping.{first_found}
use Rattle.volume_audit.specs.Judging.{Passes, RefusesFound}

pub passes : (g : Layout) (image : Image) (rule : Rule) (found : Option Evidence) (result : Result Unit Refusal)
    → AreMetBelow g image (number_of rule) → FindsBroken g image rule found → RefusesFound found result
    → Passes g image (number_of rule + 1) result
passes g image rule None result lower finds refuses =
    subst (Passes g image (number_of rule + 1)) (sym refuses) (below_next rule lower finds)
passes g image rule (Some e) result lower finds refuses =
    subst (Passes g image (number_of rule + 1)) (sym refuses) (first_found g image rule (Some e) e lower finds refl)
