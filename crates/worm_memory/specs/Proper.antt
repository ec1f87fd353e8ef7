-- Why each device in memory is a device: what is sure stands, and what stands are written cells of the device.
-- It stands here and not among the proofs, since the device's law cites it.
use Rattle.std.specs.Prelude.{◌≡◌, ◌≤◌, ◌<◌, ◌==◌, if◌then◌else◌, ℕ, Bool, true, false, List, [], ◌∷◌, Option, Some, None, unwrap_or}
use Rattle.std.proofs.Common.{refl, ap, sym, subst}
use Rattle.std.proofs.lemmas.Bool.{eqb-true}
use Rattle.std.proofs.lemmas.Option.{none-some}
use Rattle.cell_types.specs.Bytes.{IsCell}
use Rattle.cell_types.specs.Image.{Image, Extends}
use Rattle.cell_types.specs.declared.geometry.TheConstants.{MAX_CELLS}
use Rattle.worm_device.specs.State.{Instant, IsDevice}
use Rattle.worm_device.proofs.Images.{extends_self, extends_then}
use Rattle.worm_memory.specs.declared.change.Change.{Change}
use Rattle.worm_memory.specs.declared.change.Change.TheVariants.{Wrote, Foreign, Synced, Lost, Crashed}
use Rattle.worm_memory.specs.Memory.{Memory, device_of}
use Rattle.worm_memory.specs.Worlds.{kept_or, written, after_change, after_changes, blank, AreChanges}

still_found : (here : Bool) (old : Option (List ℕ)) (value found : List ℕ)
    → old ≡ Some found → (if here then kept_or old value else old) ≡ Some found
still_found false old value found stands = stands
still_found true (Some standing) value found stands = stands
still_found true None value found stands = absurd (none-some found stands)

-- a write keeps what stands
pub kept : (image : Image) (at : ℕ) (value : List ℕ) → Extends image (written image at value)
kept image at value = record { keeps = λ cell found stands. still_found (cell == at) (image cell) value found stands }

fallen_keeps : (here : Bool) (sure image : Option (List ℕ)) (found : List ℕ) → image ≡ Some found
    → sure ≡ Some found → (if here then sure else image) ≡ Some found
fallen_keeps true sure image found stands is = is
fallen_keeps false sure image found stands is = stands

fallen_from : (P : List ℕ → Type 0) (here : Bool) (sure image : Option (List ℕ)) (found : List ℕ)
    → (sure ≡ Some found → P found) → (image ≡ Some found → P found)
    → (if here then sure else image) ≡ Some found → P found
fallen_from P true sure image found of_sure of_image is = of_sure is
fallen_from P false sure image found of_sure of_image is = of_image is

-- what is sure stands
pub sure_stands : (now : Instant) (changes : List Change)
    → Extends now.sure now.image → Extends (after_changes now changes).sure (after_changes now changes).image
sure_stands now [] stands = stands
sure_stands now (Wrote at value ∷ changes) stands =
    sure_stands (after_change now (Wrote at value)) changes (extends_then stands (kept now.image at value))
sure_stands now (Foreign at value ∷ changes) stands =
    sure_stands (after_change now (Foreign at value)) changes (extends_then stands (kept now.image at value))
sure_stands now (Synced ∷ changes) stands = sure_stands (after_change now Synced) changes (extends_self now.image)
sure_stands now (Lost at ∷ changes) stands =
    sure_stands (after_change now (Lost at)) changes (record {
      keeps = λ cell found is. fallen_keeps (cell == at)
          (now.sure cell) (now.image cell) found (stands.keeps cell found is) is;
    })
sure_stands now (Crashed ∷ changes) stands = sure_stands (after_change now Crashed) changes (extends_self now.image)

pub blank_stands : Extends blank.sure blank.image
blank_stands = extends_self blank.image

from_either : (P : List ℕ → Type 0) (here : Bool) (old : Option (List ℕ)) (value found : List ℕ)
    → (here ≡ true → P value) → (old ≡ Some found → P found)
    → (if here then kept_or old value else old) ≡ Some found → P found
from_either P false old value found of_value of_old stands = of_old stands
from_either P true (Some standing) value found of_value of_old stands = of_old stands
from_either P true None value found of_value of_old stands = subst P (ap (λ o. unwrap_or o value) stands)
    (of_value refl)

-- each value that stands is a written cell of the device
abbrev IsInside : ℕ → Image → Type 0
IsInside cells image = (cell : ℕ) (value : List ℕ) → image cell ≡ Some value → (cell < cells) × IsCell value

written_inside : (cells : ℕ) (image : Image) (at : ℕ) (value : List ℕ)
    → IsInside cells image → at < cells → IsCell value → IsInside cells (written image at value)
written_inside cells image at value inside within is_cell cell found stands =
    from_either (λ v. (cell < cells) × IsCell v) (cell == at) (image cell) value found
    (λ here. (subst (λ n. n < cells) (sym (eqb-true cell at here)) within, is_cell))
    (inside cell found)
    stands

changes_inside : (cells : ℕ) (now : Instant) (changes : List Change)
    → Extends now.sure now.image → IsInside cells now.image → AreChanges cells now changes
    → IsInside cells (after_changes now changes).image
changes_inside cells now [] stands inside all = inside
changes_inside cells now (Wrote at value ∷ changes) stands inside all =
    changes_inside cells (after_change now (Wrote at value)) changes (extends_then stands (kept now.image at value))
    (written_inside cells now.image at value inside all.0 all.2) all.3
changes_inside cells now (Foreign at value ∷ changes) stands inside all =
    changes_inside cells (after_change now (Foreign at value)) changes (extends_then stands (kept now.image at value))
    (written_inside cells now.image at value inside all.0 all.2) all.3
changes_inside cells now (Synced ∷ changes) stands inside all = changes_inside cells (after_change now Synced) changes
    (extends_self now.image) inside all.1
changes_inside cells now (Lost at ∷ changes) stands inside all = changes_inside cells
    (after_change now (Lost at)) changes
    (record {
      keeps = λ cell found is. fallen_keeps (cell == at) (now.sure cell) (now.image cell) found
          (stands.keeps cell found is) is;
    })
    (λ cell found is. fallen_from (λ v. (cell < cells)
    × IsCell v) (cell == at) (now.sure cell) (now.image cell) found
    (λ sure. inside cell found (stands.keeps cell found sure)) (inside cell found) is)
    all.1
changes_inside cells now (Crashed ∷ changes) stands inside all = changes_inside cells
    (after_change now Crashed) changes (extends_self now.image) inside all

pub is_device : (m : Memory)
    → 1 ≤ m.cells → m.cells ≤ MAX_CELLS → AreChanges m.cells blank m.changes → IsDevice (device_of m)
is_device m some most all = record {
  sure = sure_stands blank m.changes blank_stands;
  inside = changes_inside m.cells blank m.changes blank_stands (λ cell value stands. absurd (none-some value stands))
      all;
  some_cells = some;
  cells = most;
}
