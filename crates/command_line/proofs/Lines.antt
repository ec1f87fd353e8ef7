-- The lines of some first elements.
use Rattle.std.proofs.Common.{◌≡◌, ◌+◌, ◌<◌, ◌++◌, ℕ, List, [], ◌∷◌, length, take, get_or, refl, sym, ap, ◌∙◌, append_assoc}
use Rattle.std.proofs.lemmas.List.{append-nil, take_more}
use Rattle.command_line.specs.Lines.{lines_of}

module _ {A : Type 0} (line : A → List ℕ) where
  lines_append : (first rest : List A) → lines_of line (first ++ rest) ≡ lines_of line first ++ lines_of line rest
  lines_append [] rest = refl
  lines_append (a ∷ first) rest =
      ap (λ (lines : List ℕ). line a ++ lines) (lines_append first rest)
      ∙ sym (append_assoc (line a) (lines_of line first) (lines_of line rest))

  -- one element more is one line more
  pub lines_more : (all : List A) (n : ℕ) (found : A) → n < length all → found ≡ get_or all n found
      → lines_of line (take (n + 1) all) ≡ lines_of line (take n all) ++ line found
  lines_more all n found less is =
      let next = get_or all n found in
      ap (lines_of line) (take_more all n found less) ∙ lines_append (take n all) (next ∷ [])
      ∙ ap (λ (lines : List ℕ). lines_of line (take n all) ++ lines)
      (append-nil (line next) ∙ ap line (sym is))
