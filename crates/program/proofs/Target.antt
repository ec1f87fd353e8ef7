-- The target of a copy, among its words.
use Rattle.std.proofs.Common.{◌≡◌, ◌≤◌, ℕ, List, [], ◌∷◌, String, length, map, slice_index_or, sym, ap, ◌∙◌, arith}
use Rattle.std.specs.Global.{Global}
use Rattle.std.specs.List.{remove}
use Rattle.std.specs.String.{string_bytes}
use Rattle.program.specs.Asking.{NameTwo, TakesTarget}

-- the third of at least three words was removed
pub takes_third : (words left : List (String Global)) (target : String Global) → 3 ≤ length words
    → target ≡ slice_index_or words 2 target → left ≡ remove words 2
    → TakesTarget (map string_bytes words) (string_bytes target) (map string_bytes left)
takes_third (a ∷ b ∷ t ∷ rest) left target most is removed = record {
  image = string_bytes a;
  command = string_bytes b;
  numbers = map string_bytes rest;
  named = ap (λ (w : String Global). string_bytes a ∷ string_bytes b ∷ string_bytes w ∷ map string_bytes rest) (sym is);
  left_is = ap (map string_bytes) removed;
}
takes_third [] left target most is removed = absurd (omega arith)
takes_third (a ∷ []) left target most is removed = absurd (omega arith)
takes_third (a ∷ b ∷ []) left target most is removed = absurd (omega arith)

pub head_is : {A : Type 0} (a b : A) (xs ys : List A) → a ∷ xs ≡ b ∷ ys → a ≡ b
head_is a b xs ys e = cc

pub tail_is : {A : Type 0} (a b : A) (xs ys : List A) → a ∷ xs ≡ b ∷ ys → xs ≡ ys
tail_is a b xs ys e = cc

-- what is left begins with the image
pub named_by : (words left : List (List ℕ)) (image target : List ℕ) (rest : List (List ℕ))
    → (takes : TakesTarget words target left) → left ≡ image ∷ rest
    → NameTwo words image takes.command target takes.numbers
named_by words left image target rest takes is =
    takes.named ∙ ap (λ (i : List ℕ). i ∷ takes.command ∷ target ∷ takes.numbers)
    (head_is takes.image image (takes.command ∷ takes.numbers) rest (sym takes.left_is ∙ is))

-- and behind it stand the words of the copy
pub behind_image : (words left : List (List ℕ)) (image target : List ℕ) (rest : List (List ℕ))
    → (takes : TakesTarget words target left) → left ≡ image ∷ rest → rest ≡ takes.command ∷ takes.numbers
behind_image words left image target rest takes is =
    sym (tail_is takes.image image (takes.command ∷ takes.numbers) rest (sym takes.left_is ∙ is))
