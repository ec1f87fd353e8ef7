-- There is none; or one, and whether there is another.
use Rattle.std.proofs.Common.{◌∷◌, ℕ, List, ◌∙◌, sym, subst, ap}
use Rattle.std.specs.List.Sorted.{IsStrictlySortedBy}
use Rattle.std.specs.Ordering.{nat_cmp}
use Rattle.std.proofs.lemmas.List.Kept.{IsStrictlySortedBy-filter}
use Rattle.list_audit.specs.Numbers.{HasTwoBetween}
use Rattle.list_audit.proofs.Ending.{first_lies, none_lies, one_lies, taken_tells, two_lie}
use Rattle.list_audit.proofs.between.numbers_between.Goals as goal

pub returns-in_default-clause-two : goal.returns-in_default-clause-two
returns-in_default-clause-two c = (
  λ no. cc,
  λ two. absurd (none_lies c.args.numbers.now c.args.from c.args.behind c.range-between.result (c.range-between.ensures.in_range tt)
      c.in_default.ensures.steps.0 two),
)

pub returns-clause-first : goal.returns-clause-first
returns-clause-first c = first_lies c.args.numbers.now c.args.from c.args.behind c.range-between.result (c.range-between.ensures.in_range tt)
    c.in-Some.first.now _ c.in-Some.ensures.steps

pub returns-clause-two : goal.returns-clause-two
returns-clause-two c =
    let numbers = c.args.numbers.now in let row : List ℕ = c.range-between.result in
    let range = c.range-between.ensures.in_range tt in
    let first = c.in-Some.first.now in
    let sorted : IsStrictlySortedBy nat_cmp row = subst (IsStrictlySortedBy nat_cmp) (sym (c.range-between.ensures.between tt))
    (IsStrictlySortedBy-filter nat_cmp _ numbers.keys c.range-between.ensures.ordered) in
    taken_tells (HasTwoBetween numbers c.args.from c.args.behind) c.is_some-two.result c.next-2.result c.next-2.ensures.steps c.is_some-two.ensures
    (λ none two. one_lies numbers c.args.from c.args.behind row range first _ c.in-Some.ensures.steps none two)
    (λ next is. two_lie numbers c.args.from c.args.behind row range sorted first next _
    (c.in-Some.ensures.steps ∙ ap (λ (xs : List ℕ). first ∷ xs) is))
