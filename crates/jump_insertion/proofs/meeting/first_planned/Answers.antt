-- The first planned cell of a range is for somebody, and no cell before it is.
use Rattle.std.proofs.Common.{◌≡◌, ◌<◌, ◌≤◌, ℕ, List, ◌∷◌, None, IfSome, sym, subst, ap, refl, ◌∙◌, false}
use native.Mathlib.Omega.{arith}
use Rattle.std.proofs.Common.{is_gt, nat_cmp, Ordering, Less, Equal, Greater, ⊎_elim}
use Rattle.std.specs.BTreeMap.{BTreeMap, get}
use Rattle.std.specs.BTreeMap.Range.{IsEntryInRange, IsRangeOf, IsInRange}
use Rattle.std.specs.declared.ops.Bound.TheVariants.{Included, Excluded}
use Rattle.std.specs.Cmp.{nat_cmp_is}
use Rattle.std.specs.List.{slice_get}
use Rattle.std.specs.Option.{IsSome, is_some}
use Rattle.std.specs.Ordering.{MatchOrdering}
use Rattle.std.proofs.lemmas.Cmp.{ranked}
use Rattle.std.proofs.lemmas.Map.Keys.{le_from_not_gt}
use Rattle.jump_insertion.proofs.Showing.{is_view, some_or_none}
use Rattle.jump_insertion.proofs.meeting.first_planned.Goals as goal

less_from : (a b : ℕ) → nat_cmp a b ≡ Less → a < b
less_from a b is = subst (λ r. MatchOrdering r (a < b) (a ≡ b) (b < a)) is (ranked a b (nat_cmp a b) refl)

not_greater : (a b : ℕ) → a ≤ b → is_gt (nat_cmp a b) ≡ false
not_greater a b least = by (nat_cmp a b) (ranked a b (nat_cmp a b) refl)
  where
    by : (o : Ordering) → MatchOrdering o (a < b) (a ≡ b) (b < a) → is_gt o ≡ false
    by Less _ = refl
    by Equal _ = refl
    by Greater more = absurd (omega (arith, least, more))

-- no key of the map lies in a range before its first entry
begins : (m : BTreeMap ℕ (List ℕ)) (r t : List (ℕ × List ℕ)) (at from end : ℕ) (value : List ℕ) → r ≡ (at, value) ∷ t
    → IsRangeOf nat_cmp (Included from) (Excluded end) m r
    → (from ≤ at) × (at < end) × ((cell : ℕ) → from ≤ cell → cell < at → get nat_cmp m cell ≡ None)
begins m r t at from end value is range = (le_from_not_gt from at inside.0.0, before_end, none)
  where
    inside : IsEntryInRange nat_cmp (Included from) (Excluded end) m (at, value)
    inside = subst (λ (l : List (ℕ × List ℕ)). IfSome (slice_get l 0) (IsEntryInRange nat_cmp (Included from) (Excluded end) m))
        is range.1

    before_end : at < end
    before_end = less_from at end inside.0.1

    least : (cell : ℕ) → IsInRange nat_cmp (Included from) (Excluded end) cell → IsSome (get nat_cmp m cell)
        → is_gt (nat_cmp at cell) ≡ false
    least = subst (λ (l : List (ℕ × List ℕ)). (cell : ℕ) → IsInRange nat_cmp (Included from) (Excluded end) cell
        → IsSome (get nat_cmp m cell) → IfSome (slice_get l 0) (λ e. is_gt (nat_cmp e.0 cell) ≡ false))
        is range.2

    none : (cell : ℕ) → from ≤ cell → cell < at → get nat_cmp m cell ≡ None
    none cell first before = ⊎_elim (λ is_none. is_none)
        (λ found.
        let some : IsSome (get nat_cmp m cell) = ap is_some found.1 in
        let later : at ≤ cell = le_from_not_gt at cell
        (least cell (not_greater from cell first, sym (nat_cmp_is cell end Less (omega (arith, before, before_end)))) some) in
        absurd (omega (arith, before, later)))
        (some_or_none (get nat_cmp m cell))

pub returns-clause-some : goal.returns-clause-some
returns-clause-some g c =
    let found = begins c.planned.result.now c.range.result c.next.new.self c.in_ok-at.at.now c.args.from c.args.end
    c.in_ok-at.field-0-1.now c.in_ok-at.ensures.steps (c.range.ensures.in_range _) in
    let view = is_view g.V.View.seen g.met.V.View.proper c.args.overlay.now in (
      found.0,
      found.1,
      record {
        each = λ cell from to. view.unowned cell (sym (c.planned.ensures cell) ∙ found.2 cell from to);
      },
    )
