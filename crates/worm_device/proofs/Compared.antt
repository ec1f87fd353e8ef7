-- What a comparison of two cells says.
use Rattle.std.proofs.Common.{◌≡◌, ◌≢◌, ℕ, List, Bool, true, false, not, refl, sym, ◌∙◌}
use Rattle.std.specs.Str.{bytes_eq}
use Rattle.std.proofs.lemmas.Bool.Decides.{Decides-not, Decides-at}
use Rattle.std.proofs.lemmas.Slice.Eq.{bytes_eq-Decides}

-- cells that compare as different are
pub differ : (a b : List ℕ) (answer : Bool) → answer ≡ not (bytes_eq a b) → answer ≡ true → a ≢ b
differ a b answer is told = (Decides-at answer (not (bytes_eq a b)) is
    (Decides-not (bytes_eq a b) (bytes_eq-Decides a b))).0 told

is_true : (b : Bool) → not b ≡ false → b ≡ true
is_true true e = refl
is_true false e = cc

-- cells that compare as the same are
pub alike : (a b : List ℕ) (answer : Bool) → answer ≡ not (bytes_eq a b) → answer ≡ false → a ≡ b
alike a b answer is told = (bytes_eq-Decides a b).0 (is_true (bytes_eq a b) (sym is ∙ told))
