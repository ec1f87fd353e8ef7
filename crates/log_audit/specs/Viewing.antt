-- Why kept cells are a view. It stands here and not among the proofs, since their law cites it.
use Rattle.std.specs.Prelude.{◌≡◌, ◌<◌, ◌==◌, ◌⊎◌, if◌then◌else◌, ℕ, Bool, true, false, List, [], ◌∷◌, slice_get, Option, Some, None}
use Rattle.std.proofs.Common.{inl, inr, ⊎_elim, suc, arith, refl, sym, subst}
use Rattle.std.proofs.lemmas.Bool.{eqb-true}
use Rattle.std.proofs.lemmas.Option.{none-some}
use Rattle.cell_types.specs.Bytes.{IsCell}
use Rattle.worm_device.specs.Views.{IsView}
use Rattle.log_audit.specs.Cells.{shown_by, AreCellsKept}
use Rattle.log_audit.specs.Kept.{view_over}
use Rattle.log_audit.specs.declared.written.WrittenCell.{WrittenCell}

-- a kept cell of this number, with its place
pub record IsShownBy (rows : List WrittenCell) (number : ℕ) (value : List ℕ) : Type 0 where
  pub place : ℕ
  pub row : WrittenCell
  pub stands : slice_get rows place ≡ Some row
  pub number_is : row.number ≡ number
  pub cell_is : row.cell ≡ value

-- the first of these, or one of the rest
here_or : (b : Bool) (one value : List ℕ) (rest : Option (List ℕ)) → (if b then Some one else rest) ≡ Some value
    → ((b ≡ true) × (one ≡ value)) ⊎ (rest ≡ Some value)
here_or true one value rest h = inl (refl, cc)
here_or false one value rest h = inr h

-- what is shown is one of those that are kept
pub shown_one : (rows : List WrittenCell) (number : ℕ) (value : List ℕ) → shown_by rows number ≡ Some value
    → IsShownBy rows number value
shown_one [] number value h = absurd (none-some value h)
shown_one (row ∷ rows) number value h = ⊎_elim
    (λ (is : ((number == row.number) ≡ true) × (row.cell ≡ value)).
    record { place = 0; row = row; stands = refl; number_is = sym (eqb-true number row.number is.0); cell_is = is.1 })
    (λ (later : shown_by rows number ≡ Some value). let one = shown_one rows number value later in
    record { place = suc one.place; row = one.row; stands = one.stands; number_is = one.number_is; cell_is = one.cell_is })
    (here_or (number == row.number) row.cell value (shown_by rows number) h)

-- so it is a written cell of a number below the count
pub shown_within : {count : ℕ} {rows : List WrittenCell} {starts : List ℕ} → AreCellsKept count rows starts
    → (number : ℕ) (value : List ℕ)
    → shown_by rows number ≡ Some value → (number < count) × IsCell value
shown_within kept number value h =
    let one = shown_one _ number value h in
    let is = kept.each one.place one.row one.stands in
    (omega (arith, is.0, one.number_is), subst IsCell one.cell_is is.1)

blank_there : (found : Option (List ℕ)) → ((value : List ℕ) → found ≡ Some value → ⊥) → found ≡ None
blank_there None never = refl
blank_there (Some value) never = absurd (never value refl)

pub kept_is_view : (count : ℕ) (rows : List WrittenCell) (starts : List ℕ) → AreCellsKept count rows starts
    → IsView (view_over count rows)
kept_is_view count rows starts are = record {
  cells = are.few;
  inside = λ cell value stands. shown_within are cell value stands;
  planned = record { keeps = λ cell value h. absurd (none-some value h) };
  unowned = λ cell free. refl;
  unplanned = λ cell free. refl;
  below = λ cell free before. refl;
  beyond = λ cell free past. blank_there (shown_by rows cell)
      (λ value h. omega (arith, (shown_within are cell value h).0, past));
}
