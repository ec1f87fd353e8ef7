-- A sort keeps the keys and makes them rise; what stands twice goes.
use Rattle.std.proofs.Common.{List, ℕ, sym, subst}
use Rattle.std.specs.Prelude.{Contains}
use Rattle.std.proofs.lemmas.List.Filters.{dedup_is}
use Rattle.std.proofs.lemmas.List.Kept.{Contains-dedup_nat, Contains-from_dedup}
use Rattle.std.proofs.lemmas.List.Sorted.{Contains-permutation, IsPermutation-sym}
use Rattle.std.proofs.lemmas.Map.Keys.{IsStrictlyIncreasing-dedup}
use Rattle.term_tags.proofs.keys.distinct_keys.Goals as goal

pub returns-clause-keys : goal.returns-clause-keys
returns-clause-keys c =
    let is = dedup_is _ _ _ c.dedup.ensures.filtered in
    let moved = c.in_ok-sort.ensures.permutation in
    record {
      rise = rw is (IsStrictlyIncreasing-dedup _ c.in_ok-sort.ensures.sorted);
      each = λ key h.
          let sorted = Contains-from_dedup _ _ key (rw is at h) in
          subst (λ (keys : List ℕ). Contains keys key) c.in_ok-keys.ensures.keys
          (Contains-permutation _ _ key (IsPermutation-sym _ _ moved) sorted);
      all = λ key h.
          let taken = subst (λ (keys : List ℕ). Contains keys key) (sym c.in_ok-keys.ensures.keys) h in
          rw is (Contains-dedup_nat _ key (Contains-permutation _ _ key moved taken));
    }
