-- The places from the first on and before this turn's keep the rule.
use Rattle.std.proofs.Common.{◌≤◌, ◌+◌, ℕ}
use Rattle.log_audit.specs.Kept.{image_of_kept}
use Rattle.log_audit.proofs.Families.{AreFine}
use Rattle.list_audit.specs.Entries.{KeepsEntryRule}
use Rattle.list_audit.proofs.entries.first_in_places.Given as goal

abbrev pub invariant-loop-place : goal.invariant-loop-place
invariant-loop-place l = AreFine (image_of_kept l.kept) (λ (place : ℕ). l.block + place)
    (λ (place : ℕ). l.from ≤ place → KeepsEntryRule (image_of_kept l.kept) l.block place) l.place
