-- What a check of a rule finds: the least written cell at which it is broken, or none.
use Rattle.std.specs.Prelude.{◌≡◌, ◌<◌, ℕ, Option, Some, None, ⊤}
use Rattle.cell_types.specs.Image.{Image}
use Rattle.cell_types.specs.Layout.{Layout}
use Rattle.cell_types.specs.declared.refusal.Evidence.{Evidence}
use Rattle.cell_types.specs.declared.refusal.Refusal.{Refusal}
use Rattle.cell_types.specs.declared.refusal.Refusal.TheVariants.{Tampered, NoMemory}
use Rattle.volume_meaning.specs.Volumes.{IsWritten}
use Rattle.tamper_rules.specs.Rules.{Rule, IsMet, IsPlace, number_of}

-- the rule is kept at each written cell
abbrev pub IsMetAll : Layout → Image → Rule → Type 0
IsMetAll g image rule = (cell : ℕ) → IsWritten image cell → IsMet g image rule cell

-- The evidence names the rule, stands in one of its places, and is the least written cell at which it is broken.
pub record IsLeastBroken (g : Layout) (image : Image) (rule : Rule) (e : Evidence) : Type 0 where
  pub number : e.rule ≡ number_of rule
  pub place : IsPlace g rule e.cell
  pub stands : image e.cell ≡ Some e.found
  pub not_met : IsMet g image rule e.cell → ⊥
  pub below : (cell : ℕ) → cell < e.cell → IsWritten image cell → IsMet g image rule cell

-- what a check of the rule answers
abbrev pub FindsBroken : Layout → Image → Rule → Option Evidence → Type 0
FindsBroken g image rule None = IsMetAll g image rule
FindsBroken g image rule (Some e) = IsLeastBroken g image rule e

-- each rule of a lower number is kept at each written cell
abbrev pub AreMetBelow : Layout → Image → ℕ → Type 0
AreMetBelow g image number = (rule : Rule) → number_of rule < number → IsMetAll g image rule

-- The evidence names the least rule that is broken, and that rule's least cell.
pub record IsFirstBroken (g : Layout) (image : Image) (e : Evidence) : Type 0 where
  pub rule : Rule
  pub least : IsLeastBroken g image rule e
  pub lower : AreMetBelow g image (number_of rule)

-- there is one evidence: that of the least rule that is broken in an image, at its least cell
abbrev pub EvidenceIsOne : Type 0
EvidenceIsOne = (g : Layout) (image : Image) (a b : Evidence) → IsFirstBroken g image a → IsFirstBroken g image b
    → a ≡ b

-- why the checks of rules stop
abbrev pub Stops : Layout → Image → Refusal → Type 0
Stops g image (Tampered e) = IsFirstBroken g image e
Stops g image NoMemory = ⊤
Stops g image other = ⊥
