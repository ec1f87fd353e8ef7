-- Bytes that move piece by piece out of a source.
use Rattle.std.proofs.Common.{ℕ, List, [], ◌++◌, Option, Some, None, refl, sym, ap, ◌∙◌, append_assoc}
use Rattle.host_ports.specs.Sources.{Gives}

-- a source that gives one piece and then another gives both
pub gives_then : (a b c : Option (List ℕ)) (xs ys : List ℕ) → Gives a b xs → Gives b c ys → Gives a c (xs ++ ys)
gives_then None None None xs ys p q = tt
gives_then None None (Some c) xs ys p q = q
gives_then None (Some b) c xs ys p q = absurd p
gives_then (Some a) None c xs ys p q = absurd p
gives_then (Some a) (Some b) None xs ys p q = q
gives_then (Some a) (Some b) (Some c) xs ys p q = p ∙ ap (λ (s : List ℕ). xs ++ s) q ∙ sym (append_assoc xs ys c)

-- a source that gives nothing has what it had
pub gives_nothing : (a : Option (List ℕ)) → Gives a a []
gives_nothing None = tt
gives_nothing (Some a) = refl
