-- The least of what checks of several parts of a rule find. A part of a rule is what it asks of cells on account of one
-- block, node or slot; parts may meet in a cell, and may be looked at in any order.
use Rattle.std.specs.Prelude.{◌≡◌, ◌<◌, nat_le, if◌then◌else◌, ℕ, Option, Some, None}
use Rattle.cell_types.specs.Image.{Image}
use Rattle.cell_types.specs.Layout.{Layout}
use Rattle.cell_types.specs.declared.refusal.Evidence.{Evidence}
use Rattle.volume_meaning.specs.Volumes.{IsWritten}
use Rattle.tamper_rules.specs.Rules.{Rule, IsPlace, number_of}

-- The evidence names the rule, stands in one of its places, and is the least written cell that is not as asked.
pub record IsLeastOf (g : Layout) (image : Image) (rule : Rule) (Asked : ℕ → Type 0) (e : Evidence) : Type 0 where
  pub number : e.rule ≡ number_of rule
  pub place : IsPlace g rule e.cell
  pub stands : image e.cell ≡ Some e.found
  pub broken : Asked e.cell → ⊥
  pub below : (cell : ℕ) → cell < e.cell → IsWritten image cell → Asked cell

-- what a check of the part of the rule that asks this answers
abbrev pub FindsPart : Layout → Image → Rule → (ℕ → Type 0) → Option Evidence → Type 0
FindsPart g image rule Asked None = (cell : ℕ) → IsWritten image cell → Asked cell
FindsPart g image rule Asked (Some e) = IsLeastOf g image rule Asked e

-- the lower of two findings
abbrev pub lower_finding : Option Evidence → Option Evidence → Option Evidence
lower_finding None other = other
lower_finding (Some one) None = Some one
lower_finding (Some one) (Some other) = if nat_le one.cell other.cell then Some one else Some other

-- the cell lies behind what was found
abbrev pub LiesBehind : Option Evidence → ℕ → Type 0
LiesBehind None cell = ⊥
LiesBehind (Some e) cell = e.cell < cell
