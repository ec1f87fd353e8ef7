-- Rule 7 is what is asked of each cell, and what is asked of stamps.
use Rattle.std.proofs.Common.{Option}
use Rattle.cell_types.specs.Image.{Image}
use Rattle.cell_types.specs.Layout.{Layout}
use Rattle.cell_types.specs.declared.refusal.Evidence.{Evidence}
use Rattle.tamper_rules.specs.Rules.{StrayCells}
use Rattle.log_audit.specs.Findings.{FindsBroken}
use Rattle.log_audit.specs.Least.{FindsPart, lower_finding}
use Rattle.log_audit.proofs.Parts.{both_parts, finds_all}
use Rattle.slot_audit.specs.Strays.{IsExpected, IsInTime}

pub both_are : (g : Layout) (image : Image) (unexpected stamp : Option Evidence)
    → FindsPart g image StrayCells (IsExpected g image) unexpected → FindsPart g image StrayCells (IsInTime g image) stamp
    → FindsBroken g image StrayCells (lower_finding unexpected stamp)
both_are g image unexpected stamp one other =
    finds_all g image StrayCells (λ cell. IsExpected g image cell × IsInTime g image cell) (lower_finding unexpected stamp)
    (both_parts g image StrayCells (IsExpected g image) (IsInTime g image) unexpected stamp one other)
    (λ cell both. record { kept_blank = both.0.kept_blank; spare = both.1; named = both.0.named; edge = both.0.edge })
    (λ cell rule. (record { kept_blank = rule.kept_blank; named = rule.named; edge = rule.edge }, rule.spare))
