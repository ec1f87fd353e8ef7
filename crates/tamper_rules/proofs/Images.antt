-- Images that are the same in each cell.
use Rattle.std.proofs.Common.{◌≡◌, ◌⊎◌, ⊎_elim, inl, inr, ℕ, List, Option, Some, None, refl, sym, ◌∙◌}
use Rattle.cell_types.specs.Image.{Image, Extends, IsUnchanged}
use Rattle.tamper_rules.specs.Settling.{IsWith}
use Rattle.volume_meaning.proofs.Extending.{blank_before}

-- images that are the same in each cell are the same
pub same_image : {old new : Image} → IsUnchanged old new → new ≡ old
same_image h = λ i cell. h cell i

-- images that extend one another are the same
pub same_both : {a b : Image} → Extends a b → Extends b a → b ≡ a
same_both {a} {b} e f = same_image (λ cell. at cell (a cell) refl)
  where
    at : (cell : ℕ) (found : Option (List ℕ)) → a cell ≡ found → b cell ≡ a cell
    at cell None is = blank_before f is ∙ sym is
    at cell (Some v) is = e.keeps cell v is ∙ sym is

-- a cell is blank or written
pub look : (image : Image) (cell : ℕ) → (image cell ≡ None) ⊎ ((v : List ℕ) × (image cell ≡ Some v))
look image cell = at (image cell) refl
  where
    at : (found : Option (List ℕ)) → image cell ≡ found → (image cell ≡ None) ⊎ ((v : List ℕ) × (image cell ≡ Some v))
    at None is = inl is
    at (Some v) is = inr (v, is)

pub extends_self : (image : Image) → Extends image image
extends_self image = record { keeps = λ cell value is. is }

-- an image that lies between one and it with some cells, and has all of these
pub all_of_it : {rows : ℕ → List ℕ → Type 0} {old new image : Image} → IsWith rows old new → Extends old image
    → Extends image new
    → ((cell : ℕ) (value : List ℕ) → rows cell value → image cell ≡ Some value) → image ≡ new
all_of_it {rows} {old} {new} {image} w e f has = same_both
    (record {
      keeps = λ cell value is. ⊎_elim (λ was. e.keeps cell value was) (λ row. has cell value row)
          (w.only cell value is);
    })
    f

-- an image that lies between one and it with some cells is made into the latter by these cells
pub rest_of_it : {rows : ℕ → List ℕ → Type 0} {old new image : Image} → IsWith rows old new
    → Extends old image → Extends image new → IsWith rows image new
rest_of_it w e f = record {
  keeps = f;
  adds = w.adds;
  only = λ cell value is. ⊎_elim (λ was. inl (e.keeps cell value was)) inr (w.only cell value is);
}
