-- Bytes that move into a sink piece by piece.
use Rattle.std.proofs.Common.{◌≡◌, ◌≤◌, ◌+◌, ◌-◌, ℕ, List, [], ◌++◌, length, take, drop, Option, Some, None, sym, ap, ◌∙◌, subst, append_assoc, arith, length-append}
use Rattle.std.proofs.lemmas.Grind.{common_steps}
use Rattle.std.proofs.lemmas.List.{append-nil}
use Rattle.std.proofs.Math.Seq.{take-append-add}
use Rattle.host_ports.specs.Sinks.{SinkState, Gets, PutsPart}
use Rattle.worm_device.specs.Counts.{Rose}

-- a sink that gets one piece and then another gets both
pub gets_then : (a b c : Option (List ℕ)) (xs ys : List ℕ) → Gets a b xs → Gets b c ys → Gets a c (xs ++ ys)
gets_then None None None xs ys p q = tt
gets_then None None (Some c) xs ys p q = q
gets_then None (Some b) c xs ys p q = absurd p
gets_then (Some a) None c xs ys p q = absurd p
gets_then (Some a) (Some b) None xs ys p q = q
gets_then (Some a) (Some b) (Some c) xs ys p q = q ∙ ap (λ (s : List ℕ). s ++ ys) p ∙ append_assoc a xs ys

-- a sink that gets nothing holds what it held
pub gets_nothing : (a : Option (List ℕ)) → Gets a a []
gets_nothing None = tt
gets_nothing (Some a) = sym (append-nil a)

-- what has gone and what is left are the whole, after n more bytes too
pub one_piece_more : (text front rest : List ℕ) (n : ℕ) → text ≡ front ++ rest → n ≤ length rest
    → text ≡ (front ++ take n rest) ++ take (length rest - n) (drop n rest)
one_piece_more text front rest n e h = grind (arith, common_steps)

-- what has gone after a part of the next piece is a front of the whole
pub front_of : (text front rest : List ℕ) (n : ℕ) → text ≡ front ++ rest
    → take (length front + n) text ≡ front ++ take n rest
front_of text front rest n e = ap (take (length front + n)) e ∙ take-append-add front rest n

-- a sink that has got a front of the text and fails at the rest has got some first bytes of the text
pub part_more : (first old new : SinkState) (text front rest : List ℕ) → text ≡ front ++ rest
    → Gets first.held old.held front → old.faults ≡ first.faults → PutsPart rest old new → PutsPart text first new
part_more first old new text front rest e so_far same part =
    let n = part.gets.0 in
    record {
      gets = (
        length front + n,
        omega (arith, ap length e, length-append front rest, part.gets.1),
        subst (λ (t : List ℕ). Gets first.held new.held t) (sym (front_of text front rest n e))
            (gets_then first.held old.held new.held front (take n rest) so_far part.gets.2),
      );
      faults = subst (λ (faults : ℕ). Rose faults new.faults) same part.faults;
    }
