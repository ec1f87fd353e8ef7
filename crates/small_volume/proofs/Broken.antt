-- What a broken rule takes, in an image that extends the small volume's.
use Rattle.std.proofs.Common.{◌≡◌, ℕ, List, [], ◌∷◌, Some, None, refl, sym, ◌∙◌, inr, arith}
use Rattle.std.proofs.lemmas.Option.{none-some}
use Rattle.cell_types.specs.Image.{Image, Extends}
use Rattle.volume_meaning.specs.Slots.{IsEdge}
use Rattle.volume_meaning.specs.Volumes.{IsWritten}
use Rattle.volume_meaning.proofs.Extending.{volume_on, reserves_on}
use Rattle.volume_meaning.specs.Blocks.{arrived}
use Rattle.volume_meaning.specs.Nodes.{IsBlockOf}
use Rattle.tamper_rules.specs.Rules.{Rule, IsMet, IsPlace, IsBroken, number_of}
use Rattle.small_volume.specs.Images.{with_cell}
use Rattle.small_volume.specs.SmallVolume.{small_image, small_layout}
use Rattle.small_volume.proofs.Small.{volume, reserves_0}
use Rattle.small_volume.proofs.Values.{foreign_extends}

-- a rule is broken at a written cell of its place where it can't be kept
pub broken : {image : Image} → Extends small_image image → (rule : Rule) (cell : ℕ) (found : List ℕ)
    → image cell ≡ Some found → IsPlace small_layout rule cell → (IsMet small_layout image rule cell → ⊥)
    → IsBroken 1000 image (number_of rule) cell
broken e rule cell found stands place not_met = record {
  layout = small_layout;
  volume = volume_on e volume;
  rule = rule;
  named = refl;
  place = place;
  written = record { found = found; stands = stands };
  not_met = not_met;
}

-- so it is at the one foreign cell
pub broken_by : (rule : Rule) (at : ℕ) (value : List ℕ) → with_cell small_image at value at ≡ Some value
    → IsPlace small_layout rule at → (IsMet small_layout (with_cell small_image at value) rule at → ⊥)
    → IsBroken 1000 (with_cell small_image at value) (number_of rule) at
broken_by rule at value = broken (foreign_extends small_image ((at, value) ∷ [])) rule at value

-- a blank cell is not written
pub no_written : {image : Image} {at : ℕ} → image at ≡ None → IsWritten image at → ⊥
no_written blank w = none-some w.found (sym blank ∙ w.stands)

-- where slot 1 is free, 584 is still an edge
pub edge_on : {image : Image} → Extends small_image image → image 8 ≡ None → IsEdge small_layout image image 584
edge_on e free = record {
  u = 1;
  most = omega arith;
  free = λ less. free;
  ends = inr (0, 580, 4, refl, reserves_on e reserves_0, refl);
}

-- the first block of list 0 begins at 36
pub first_block : {image : Image} → IsBlockOf small_layout image 0 36
first_block = record { list = omega arith; leads = arrived 36 refl }
