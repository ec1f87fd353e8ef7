-- The places before this turn's keep the rule.
use Rattle.std.proofs.Common.{◌+◌, ℕ}
use Rattle.log_audit.specs.Kept.{image_of_kept}
use Rattle.log_audit.proofs.Families.{AreFine}
use Rattle.list_audit.specs.Owing.{KeepsPostingRule}
use Rattle.list_audit.proofs.postings.first_fake_in.Given as goal

abbrev pub invariant-loop-place : goal.invariant-loop-place
invariant-loop-place l = AreFine (image_of_kept l.kept) (λ (place : ℕ). l.block + place)
    (KeepsPostingRule l.geometry (image_of_kept l.kept) l.listed.list l.block) l.place
