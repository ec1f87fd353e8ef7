-- The documents of two volumes say which pairs they are.
use Rattle.std.proofs.Common.{◌≡◌, ◌∙◌, ℕ, List, [], ◌∷◌, refl, sym, ap}
use Rattle.volume_copy.specs.Laws.{PairsAreOne}
use Rattle.volume_copy.specs.declared.moved.Moved.{Moved}

-- a pair is its two slots
one_pair : (m n : Moved) → m.old ≡ n.old → m.new ≡ n.new → m ≡ n
one_pair m n first second =
    ap (λ (x : ℕ). record { old = x; new = m.new }) first ∙ ap (λ (x : ℕ). record { old = n.old; new = x }) second

pub one_pairs : PairsAreOne
one_pairs g h from to [] [] [] source p q = refl
one_pairs g h from to [] [] (n ∷ other) source p q = absurd q
one_pairs g h from to [] (m ∷ one) other source p q = absurd p
one_pairs g h from to (e ∷ target) [] other source p q = absurd p
one_pairs g h from to (e ∷ target) (m ∷ one) [] source p q = absurd q
one_pairs g h from to (e ∷ target) (m ∷ one) (n ∷ other) [] p q = absurd p
one_pairs g h from to (e ∷ target) (m ∷ one) (n ∷ other) (d ∷ source) p q =
    ap (λ (x : Moved). x ∷ one) (one_pair m n (p.1 ∙ sym q.1) (p.2 ∙ sym q.2))
    ∙ ap (λ (l : List Moved). n ∷ l) (one_pairs g h from to target one other source p.3 q.3)
