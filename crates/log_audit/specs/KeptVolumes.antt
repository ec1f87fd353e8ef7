-- What is asked and found of a volume whose cells are kept.
use Rattle.std.specs.Prelude.{◌≡◌, ℕ, Option}
use Rattle.cell_types.specs.Image.{Image}
use Rattle.cell_types.specs.declared.refusal.Evidence.{Evidence}
use Rattle.volume_meaning.specs.Volumes.{IsVolume}
use Rattle.tamper_rules.specs.Rules.{Rule}
use Rattle.log_audit.specs.Findings.{AreMetBelow, FindsBroken, IsMetAll}
use Rattle.log_audit.specs.Kept.{count_of, image_of_kept}
use Rattle.log_audit.specs.Least.{FindsPart}
use Rattle.log_audit.specs.declared.kept_volume.KeptVolume.{KeptVolume}

-- the image that its cells show
abbrev pub image_in : KeptVolume → Image
image_in v = image_of_kept v.kept

-- what a check of the rule answers
abbrev pub FindsIn : KeptVolume → Rule → Option Evidence → Type 0
FindsIn v rule found = FindsBroken v.geometry (image_in v) rule found

-- what a check of a part of the rule answers, which asks this of each cell
abbrev pub FindsPartIn : KeptVolume → Rule → (ℕ → Type 0) → Option Evidence → Type 0
FindsPartIn v rule asks found = FindsPart v.geometry (image_in v) rule asks found

-- the rule is kept at each written cell
abbrev pub KeepsRule : KeptVolume → Rule → Type 0
KeepsRule v rule = IsMetAll v.geometry (image_in v) rule

-- each rule of a lower number is
abbrev pub KeepsBelow : KeptVolume → ℕ → Type 0
KeepsBelow v number = AreMetBelow v.geometry (image_in v) number

-- as many cells are kept as the volume has
abbrev pub HasAllCells : KeptVolume → Type 0
HasAllCells v = count_of v.kept ≡ v.geometry.cells

-- cell 0 states the volume
abbrev pub IsStated : KeptVolume → Type 0
IsStated v = IsVolume v.geometry.cells (image_in v) v.geometry
