-- A number that is not found is not there.
use Rattle.std.proofs.Common.{ℕ, Option, sym, subst}
use Rattle.std.specs.Prelude.{IfNone, Contains}
use Rattle.log_audit.proofs.Bisecting.{not_found}
use Rattle.log_audit.proofs.sorted.place_of.Goals as goal

pub returns-clause-none : goal.returns-clause-none
returns-clause-none c =
    let numbers = c.args.numbers.now in let number = c.args.number in
    subst (λ (place : Option ℕ). IfNone place (Contains numbers number → ⊥)) (sym c.ok.ensures.value)
    (not_found numbers number c.requires c.binary_search.result c.binary_search.ensures.position)
