-- The text of a report, piece by piece; and what a sink got of it.
use Rattle.std.proofs.Common.{◌≡◌, ◌++◌, ◌∙◌, ℕ, List, append_assoc, subst}
use Rattle.host_ports.specs.Sinks.{Gets, PutsPart, SinkState}

-- four pieces, joined from the left or from the right
pub joined : (s d a w : List ℕ) → ((s ++ d) ++ a) ++ w ≡ s ++ (d ++ (a ++ w))
joined s d a w = append_assoc (s ++ d) a w ∙ append_assoc s d (a ++ w)

-- a sink that got a text whole, or failed within it, did so of the same text
pub gets_as : {one other : List ℕ} (old new : SinkState) → one ≡ other → Gets old.held new.held one
    → Gets old.held new.held other
gets_as old new same = subst (λ (t : List ℕ). Gets old.held new.held t) same

pub part_as : {one other : List ℕ} {old new : SinkState} → one ≡ other → PutsPart one old new → PutsPart other old new
part_as {old = old} {new} same = subst (λ (t : List ℕ). PutsPart t old new) same
