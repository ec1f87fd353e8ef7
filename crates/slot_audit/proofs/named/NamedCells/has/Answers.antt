-- It is not there.
use Rattle.std.proofs.Common.{ℕ, List, sym, subst}
use Rattle.std.specs.Prelude.{Contains}
use Rattle.std.specs.List.Sorted.{IsNonDecreasing}
use Rattle.log_audit.proofs.Deciding.{no}
use Rattle.slot_audit.proofs.Finding.{not_found}
use Rattle.slot_audit.proofs.named.NamedCells.has.Goals as goal

pub returns-in_default : goal.returns-in_default
returns-in_default c = no (subst (λ (xs : List ℕ). Contains xs c.args.cell → ⊥) c.deref.ensures.value
    (not_found c.deref.result.now c.args.cell c.in_default.field-0 c.in_default.ensures.position
    (subst IsNonDecreasing (sym c.deref.ensures.value) c.requires)))
