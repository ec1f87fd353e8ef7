-- How many cells are blank.
use Rattle.std.proofs.Common.{◌≡◌, ◌≤◌, ◌<◌, ◌+◌, ℕ, zero, suc, List, [], ◌∷◌, length, set, get_or, Option, Some, None, refl, ap, sym, arith}
use Rattle.std.proofs.Math.ListN.{replicate}
use Rattle.std.proofs.lemmas.Option.{none-some}
use Rattle.worm_memory.specs.Unsure.{blanks}

pub blanks_most : (cells : List (Option (List ℕ))) → blanks cells ≤ length cells
blanks_most [] = omega arith
blanks_most (None ∷ cells) = omega (arith, blanks_most cells)
blanks_most (Some value ∷ cells) = omega (arith, blanks_most cells)

-- one fewer after a blank one is written
pub blanks_set : (cells : List (Option (List ℕ))) (at : ℕ) (value : List ℕ) → at < length cells
    → get_or cells at None ≡ None
    → blanks (set cells at (Some value)) + 1 ≡ blanks cells
blanks_set [] at value within free = absurd (omega (arith, within))
blanks_set (None ∷ cells) zero value within free = refl
blanks_set (Some found ∷ cells) zero value within free = absurd (none-some found (sym free))
blanks_set (None ∷ cells) (suc at) value within free =
    ap (λ n. n + 1) (blanks_set cells at value (omega (arith, within)) free)
blanks_set (Some found ∷ cells) (suc at) value within free = blanks_set cells at value (omega (arith, within)) free

-- where a cell is blank there is one
pub some_blank : (cells : List (Option (List ℕ))) (at : ℕ) → at < length cells → get_or cells at None ≡ None
    → 1 ≤ blanks cells
some_blank cells at within free = omega (arith, blanks_set cells at [] within free)

-- in blank cells nothing stands
abbrev pub IsBlankCell : Option (List ℕ) → Type 0
IsBlankCell None = Unit {0}
IsBlankCell (Some value) = ⊥

pub only_blank : (found : Option (List ℕ)) → IsBlankCell found → found ≡ None
only_blank None blank = refl
only_blank (Some value) blank = absurd blank

abbrev no_value : Option (List ℕ)
no_value = None

pub none_at : (n i : ℕ) → get_or (replicate n no_value) i None ≡ None
none_at zero i = refl
none_at (suc n) zero = refl
none_at (suc n) (suc i) = none_at n i
