-- An image with one cell more.
use Rattle.std.proofs.Common.{◌≡◌, ◌<◌, ◌⊎◌, ⊎_elim, inl, inr, ℕ, List, Option, Some, refl, arith}
use Rattle.std.proofs.lemmas.Bool.{cases_order}
use Rattle.cell_types.specs.Image.{Image}

abbrev pub put_by : Image → (at : ℕ) → List ℕ → (cell : ℕ) → (cell ≡ at) ⊎ ((cell < at) ⊎ (at < cell)) → Option (List ℕ)
put_by image at value cell (inl same) = Some value
put_by image at value cell (inr differ) = image cell

-- the image in which this value stands there
abbrev pub put_cell : Image → ℕ → List ℕ → Image
put_cell image at value cell = put_by image at value cell (cases_order cell at)

at_by : (image : Image) (at : ℕ) (value : List ℕ) (cell : ℕ) (h : (cell ≡ at) ⊎ ((cell < at) ⊎ (at < cell)))
    → cell ≡ at → put_by image at value cell h ≡ Some value
at_by image at value cell (inl same) is = refl
at_by image at value cell (inr differ) is = absurd (⊎_elim (λ less. omega arith) (λ above. omega arith) differ)

other_by : (image : Image) (at : ℕ) (value : List ℕ) (cell : ℕ) (h : (cell ≡ at)
    ⊎ ((cell < at) ⊎ (at < cell))) → (cell ≡ at → ⊥) → put_by image at value cell h ≡ image cell
other_by image at value cell (inl same) other = absurd (other same)
other_by image at value cell (inr differ) other = refl

pub put_there : (image : Image) (at : ℕ) (value : List ℕ) (cell : ℕ) → cell ≡ at
    → put_cell image at value cell ≡ Some value
put_there image at value cell is = at_by image at value cell (cases_order cell at) is

pub put_other : (image : Image) (at : ℕ) (value : List ℕ) (cell : ℕ) → (cell ≡ at → ⊥)
    → put_cell image at value cell ≡ image cell
put_other image at value cell other = other_by image at value cell (cases_order cell at) other

-- two numbers are the same or not
pub same_or_not : (a b : ℕ) → (a ≡ b) ⊎ (a ≡ b → ⊥)
same_or_not a b = ⊎_elim inl (λ differ. inr (λ same. ⊎_elim (λ less. omega arith) (λ above. omega arith) differ))
    (cases_order a b)
