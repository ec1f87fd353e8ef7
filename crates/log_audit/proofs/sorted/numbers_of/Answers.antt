-- All numbers were put, and a set has its numbers in order.
use Rattle.std.proofs.Common.{◌≡◌, ◌++◌, ℕ, List, [], append-nil, sym, ◌∙◌, subst, ap}
use Rattle.std.specs.Prelude.{Contains}
use Rattle.std.specs.List.Sorted.{IsStrictlyIncreasing}
use Rattle.std.specs.Cmp.{nat_cmp_total}
use Rattle.std.proofs.lemmas.Map.Keys.{IsStrictlyIncreasing-from_sorted}
use Rattle.std.proofs.lemmas.Map.Lookups.{exact_unsigned}
use Rattle.std.proofs.lemmas.Map.Views.{btree_set_contains_iff}
use Rattle.log_audit.proofs.sorted.numbers_of.Goals as goal

all_put : {numbers rest keys : List ℕ} → numbers ++ rest ≡ keys → rest ≡ [] → numbers ≡ keys
all_put {numbers} {rest} {keys} both none = sym (append-nil numbers) ∙ ap (λ (xs : List ℕ). numbers ++ xs) (sym none) ∙ both

pub returns-clause-rises : goal.returns-clause-rises
returns-clause-rises c = subst IsStrictlyIncreasing (sym (all_put c.loop-number.invariant c.in-None.ensures.steps.0))
    (IsStrictlyIncreasing-from_sorted c.args.set.now.keys c.into_iter-number-iterator.ensures.into_iter_gives.4)

pub returns-clause-same : goal.returns-clause-same
returns-clause-same c = λ x. let same = all_put c.loop-number.invariant c.in-None.ensures.steps.0 in
    let iff = btree_set_contains_iff nat_cmp_total exact_unsigned c.args.set.now x in (
      λ (there : Contains c.loop-number.numbers.items x). iff.1 (subst (λ (xs : List ℕ). Contains xs x) same there),
      λ has. subst (λ (xs : List ℕ). Contains xs x) (sym same) (iff.0 has),
    )
