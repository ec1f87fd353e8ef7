-- Images over images: cells that are written where an image was blank.
use Rattle.std.proofs.Common.{◌≡◌, ◌≤◌, ◌+◌, ◌-◌, ◌⊎◌, ⊎_elim, inl, inr, ℕ, suc, zero, List, Option, Some, None, refl, sym, ◌∙◌, ap, arith}
use Rattle.std.proofs.lemmas.Option.{none-some}
use Rattle.cell_types.specs.Image.{Image}
use Rattle.volume_meaning.proofs.Holding.{some_is}
use Rattle.tamper_rules.specs.Settling.{IsWith}
use Rattle.tamper_rules.proofs.Images.{look}
use Rattle.worm_device.specs.Overlays.{over}
use Rattle.tamper_rules.proofs.Writing.{put_cell, put_there, put_other, same_or_not}

-- what the first image has, and where it is blank what the other has
abbrev pub laid_on : Image → Image → Image
laid_on upper lower cell = over (upper cell) (lower cell)

-- the value stands there
pub record IsIn (image : Image) (cell : ℕ) (value : List ℕ) : Type 0 where
  pub is : image cell ≡ Some value

-- where the other is blank in each cell of the first, it has these cells then
pub over_is : {upper lower : Image} → ((cell : ℕ) (value : List ℕ) → IsIn upper cell value → lower cell ≡ None)
    → IsWith (IsIn upper) lower (laid_on upper lower)
over_is {upper} {lower} blank = record {
  keeps = record {
    keeps = λ cell value is. ⊎_elim
        (λ none. ap (λ o. over o (lower cell)) none ∙ is)
        (λ w. absurd (none-some _ (sym (blank cell w.0 (record { is = w.1 })) ∙ is)))
        (look upper cell);
  };
  adds = λ cell value row. ap (λ o. over o (lower cell)) row.is;
  only = λ cell value is. ⊎_elim
      (λ none. inl (sym (ap (λ o. over o (lower cell)) none) ∙ is))
      (λ w. inr (record { is = w.1 ∙ sym (ap (λ o. over o (lower cell)) w.1) ∙ is }))
      (look upper cell);
}

-- cells are added, and then others
pub with_both : {a b : ℕ → List ℕ → Type 0} {old mid new : Image} → IsWith a old mid → IsWith b mid new
    → IsWith (λ cell value. a cell value ⊎ b cell value) old new
with_both x y = record {
  keeps = record { keeps = λ cell value is. y.keeps.keeps cell value (x.keeps.keeps cell value is) };
  adds = λ cell value rows. ⊎_elim
      (λ row. y.keeps.keeps cell value (x.adds cell value row))
      (λ row. y.adds cell value row)
      rows;
  only = λ cell value is. ⊎_elim
      (λ was. ⊎_elim inl (λ row. inr (inl row)) (x.only cell value was))
      (λ row. inr (inr row))
      (y.only cell value is);
}

-- the same cells in other words
pub with_same : {a b : ℕ → List ℕ → Type 0} {old new : Image}
    → ((cell : ℕ) (value : List ℕ) → a cell value → b cell value)
    → ((cell : ℕ) (value : List ℕ) → b cell value → a cell value) → IsWith a old new → IsWith b old new
with_same to from w = record {
  keeps = w.keeps;
  adds = λ cell value row. w.adds cell value (from cell value row);
  only = λ cell value is. ⊎_elim inl (λ row. inr (to cell value row)) (w.only cell value is);
}

-- a cell that was blank, and is none of those that were added, is blank
pub blank_with : {rows : ℕ → List ℕ → Type 0} {old new : Image} {cell : ℕ} → IsWith rows old new → old cell ≡ None
    → ((value : List ℕ) → rows cell value → ⊥) → new cell ≡ None
blank_with {rows} {old} {new} {cell} w none other = ⊎_elim
    (λ blank. blank)
    (λ found. absurd (⊎_elim
    (λ was. none-some _ (sym none ∙ was))
    (λ row. other found.0 row)
    (w.only cell found.0 found.1)))
    (look new cell)

-- a cell that is none of those that were added is as it was
pub same_with : {rows : ℕ → List ℕ → Type 0} {old new : Image} {cell : ℕ} → IsWith rows old new
    → ((value : List ℕ) → rows cell value → ⊥) → new cell ≡ old cell
same_with {rows} {old} {new} {cell} w other = ⊎_elim
    (λ none. blank_with w none other ∙ sym none)
    (λ found. w.keeps.keeps cell found.0 found.1 ∙ sym found.1)
    (look old cell)

-- one cell alone
abbrev pub one_cell : ℕ → List ℕ → Image
one_cell at value = put_cell (λ (cell : ℕ). None) at value

pub one_is : {at : ℕ} {value found : List ℕ} {cell : ℕ} → one_cell at value cell ≡ Some found
    → (cell ≡ at) × (found ≡ value)
one_is {at} {value} {found} {cell} is = ⊎_elim
    (λ same. (same, some_is found value (sym is ∙ put_there (λ (c : ℕ). None) at value cell same)))
    (λ other. absurd (none-some _ (sym (put_other (λ (c : ℕ). None) at value cell other) ∙ is)))
    (same_or_not cell at)

pub one_there : {at : ℕ} {value found : List ℕ} {cell : ℕ} → cell ≡ at → found ≡ value
    → one_cell at value cell ≡ Some found
one_there {at} {value} {found} {cell} same is =
    put_there (λ (c : ℕ). None) at value cell same ∙ ap (λ (v : List ℕ). Some v) (sym is)

-- cells side by side, from a place on
abbrev pub behind : (ℕ → Option (List ℕ)) → ℕ → Option (List ℕ)
behind cells zero = None
behind cells (suc k) = cells k

abbrev pub row_from : ℕ → (ℕ → Option (List ℕ)) → Image
row_from at cells cell = behind cells (cell + 1 - at)

behind_is : (cells : ℕ → Option (List ℕ)) (m : ℕ) (found : List ℕ) → behind cells m ≡ Some found
    → (k : ℕ) × (m ≡ k + 1) × (cells k ≡ Some found)
behind_is cells zero found is = absurd (none-some _ is)
behind_is cells (suc k) found is = (k, omega arith, is)

behind_there : (cells : ℕ → Option (List ℕ)) (m k : ℕ) → m ≡ k + 1 → behind cells m ≡ cells k
behind_there cells zero k same = absurd (omega (arith, same))
behind_there cells (suc m) k same = let is : m ≡ k = omega (arith, same) in ap cells is

pub row_is : (at : ℕ) (cells : ℕ → Option (List ℕ)) {cell : ℕ} {found : List ℕ} → row_from at cells cell ≡ Some found
    → (k : ℕ) × (cell ≡ at + k) × (cells k ≡ Some found)
row_is at cells {cell} {found} is =
    let b = behind_is cells (cell + 1 - at) found is in
    (b.0, omega (arith, b.1), b.2)

pub row_there : (at : ℕ) (cells : ℕ → Option (List ℕ)) {cell : ℕ} {found : List ℕ} (k : ℕ) → cell ≡ at + k
    → cells k ≡ Some found → row_from at cells cell ≡ Some found
row_there at cells {cell} k same is = behind_there cells (cell + 1 - at) k (omega (arith, same)) ∙ is

-- a value, where so many are left
abbrev pub held : ℕ → List ℕ → Option (List ℕ)
held zero value = None
held (suc left) value = Some value

pub held_is : (left : ℕ) (value found : List ℕ) → held left value ≡ Some found → (1 ≤ left) × (found ≡ value)
held_is zero value found is = absurd (none-some _ is)
held_is (suc left) value found is = (omega arith, sym (some_is value found is))

pub held_there : (left : ℕ) (value : List ℕ) → 1 ≤ left → held left value ≡ Some value
held_there zero value some = absurd (omega (arith, some))
held_there (suc left) value some = refl
