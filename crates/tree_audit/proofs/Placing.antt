-- Places among numbers that rise, and the ways of child cells.
use Rattle.std.proofs.Common.{◌≡◌, ◌<◌, ◌≤◌, ◌+◌, ◌-◌, ◌/◌, ◌↔◌, ◌⊎◌, ◌++◌, ⊎_elim, inl, inr, ℕ, List, [], ◌∷◌, length, Some, refl, sym, ◌∙◌, subst, ap, arith}
use Rattle.std.specs.Prelude.{slice_get, slice_index, Contains}
use Rattle.std.specs.List.Sorted.{IsStrictlyIncreasing}
use Rattle.std.proofs.lemmas.Bool.{cases_order}
use Rattle.std.proofs.lemmas.Option.{get_or_from_slice_get, same_Some, slice_get_within}
use Rattle.log_audit.specs.Between.{AreLower}
use Rattle.log_audit.proofs.Bisecting.{rises}
use Rattle.log_audit.proofs.OneMore.{get_before, get_last, get_pushed}
use Rattle.log_audit.proofs.Orders.{below_or_at, below_or_not}
use Rattle.tree_audit.specs.ChildCells.{IsChildPlace}
use Rattle.tree_audit.specs.Ways.{AreWays, BeginsAt, HasWay, IsWayAmong, IsWayOf}
use Rattle.tree_audit.specs.declared.child_cells.TheConstants.{TARGET_STEP}
use Rattle.tree_audit.specs.declared.ways.Way.{Way}

-- what stands at a place is there
pub has_item : (numbers : List ℕ) (place number : ℕ) → slice_get numbers place ≡ Some number → Contains numbers number
has_item numbers place number there =
    (place, slice_get_within numbers place number there, get_or_from_slice_get numbers place number number there)

-- and at no other place
pub one_place : (numbers : List ℕ) {a b number : ℕ} → IsStrictlyIncreasing numbers → slice_get numbers a ≡ Some number → slice_get numbers b ≡ Some number
    → a ≡ b
one_place numbers {a} {b} {number} rising first second =
    let at_a : slice_index numbers a ≡ number = get_or_from_slice_get numbers a number 0 first in
    let at_b : slice_index numbers b ≡ number = get_or_from_slice_get numbers b number 0 second in
    ⊎_elim
    (λ (same : a ≡ b). same)
    (λ differ. absurd (⊎_elim
    (λ (less : a < b). let e = rises numbers rising a b less (slice_get_within numbers b number second) in omega (arith, e, at_a, at_b))
    (λ (more : b < a). let e = rises numbers rising b a more (slice_get_within numbers a number first) in omega (arith, e, at_a, at_b))
    differ))
    (cases_order a b)

-- the first number behind the node's own is behind that of the cell: whether the node has it
pub begins_at : {numbers : List ℕ} (cell : ℕ) {first behind : ℕ} → AreLower numbers (cell + 1 - 32) first → AreLower numbers (cell + 1 - 16) behind
    → (place node : ℕ) → slice_get numbers place ≡ Some node → (target : ℕ)
    → BeginsAt (record { first = first; behind = behind; target = target }) place ↔ IsChildPlace node cell
begins_at {numbers} cell {first} {behind} low high place node there target =
    let at : slice_index numbers place ≡ node = get_or_from_slice_get numbers place node 0 there in
    let inside = slice_get_within numbers place node there in (
      λ h. let a = low.rest place h.0 inside in let b = high.lower place h.1 in
          record { place = cell - node; from = omega (arith, a, b, at); to = omega (arith, a, b, at); is = omega (arith, a, b, at) },
      λ (c : IsChildPlace node cell). (
        ⊎_elim
            (λ (before : place < first). absurd (let a = low.lower place before in omega (arith, a, at, c.to, c.is)))
            (λ (h : first ≤ place). h)
            (below_or_not place first),
        ⊎_elim
            (λ (h : place < behind). h)
            (λ (after : behind ≤ place). absurd (let b = high.rest place after inside in omega (arith, b, at, c.from, c.is)))
            (below_or_not place behind),
      ),
    )

-- the ways are those of these child cells, and each of the first n that leads to one of the nodes has its own
pub record AreWaysSoFar (nodes leads : List ℕ) (n : ℕ) (ways : List Way) : Type 0 where
  pub each : (k : ℕ) (way : Way) → slice_get ways k ≡ Some way → IsWayAmong nodes leads way
  pub all : (k lead : ℕ) → k < n → slice_get leads k ≡ Some lead → Contains nodes (lead / TARGET_STEP) → HasWay nodes ways lead

pub all_ways : {nodes leads : List ℕ} {n : ℕ} {ways : List Way} → AreWaysSoFar nodes leads n ways → length leads ≤ n → AreWays nodes leads ways
all_ways {nodes} {leads} so_far most = record {
  each = so_far.each;
  all = λ k lead there has. so_far.all k lead (omega (arith, slice_get_within leads k lead there, most)) there has;
}

-- no way yet
pub no_ways : (nodes leads : List ℕ) (ways : List Way) → ways ≡ [] → AreWaysSoFar nodes leads 0 ways
no_ways nodes leads ways empty = record {
  each = λ k way there. absurd (omega (arith, slice_get_within ways k way there, ap length empty));
  all = λ k lead less. absurd (omega (arith, less));
}

module _ {nodes leads : List ℕ} {n : ℕ} {ways : List Way} (so_far : AreWaysSoFar nodes leads n ways) (lead : ℕ) (there : slice_get leads n ≡ Some lead) where
  -- a child cell that leads to none of the nodes
  pub way_to_none : (Contains nodes (lead / TARGET_STEP) → ⊥) → AreWaysSoFar nodes leads (n + 1) ways
  way_to_none none = record {
    each = so_far.each;
    all = λ k other less here has. ⊎_elim
        (λ (before : k < n). so_far.all k other before here has)
        (λ (same : k ≡ n). absurd (none (subst (λ (x : ℕ). Contains nodes (x / TARGET_STEP)) (this k other here same) has)))
        (below_or_at k n less);
  }
    where
      this : (k other : ℕ) → slice_get leads k ≡ Some other → k ≡ n → other ≡ lead
      this k other here same = same_Some other lead (sym (subst (λ (i : ℕ). slice_get leads i ≡ Some other) same here) ∙ there)

  -- and one that leads to one
  pub one_way : {way : Way} {after : List Way} → IsWayOf nodes lead way → after ≡ ways ++ way ∷ [] → AreWaysSoFar nodes leads (n + 1) after
  one_way {way} {after} is put = record {
    each = λ k other here. ⊎_elim
        (λ (before : slice_get ways k ≡ Some other). so_far.each k other before)
        (λ (same : way ≡ other). record { place = n; lead = lead; there = there; is = subst (IsWayOf nodes lead) same is })
        (pushed k other (subst (λ (xs : List Way). slice_get xs k ≡ Some other) put here));
    all = λ k other less here has. ⊎_elim
        (λ (before : k < n). kept (so_far.all k other before here has))
        (λ (same : k ≡ n).
        let this : other ≡ lead = same_Some other lead (sym (subst (λ (i : ℕ). slice_get leads i ≡ Some other) same here) ∙ there) in
        record {
          place = length ways;
          way = way;
          there = subst (λ (xs : List Way). slice_get xs (length ways) ≡ Some way) (sym put) (get_last ways way (length ways) refl);
          is = subst (λ (x : ℕ). IsWayOf nodes x way) (sym this) is;
        })
        (below_or_at k n less);
  }
    where
      pushed : (k : ℕ) (other : Way) → slice_get (ways ++ way ∷ []) k ≡ Some other → (slice_get ways k ≡ Some other) ⊎ (way ≡ other)
      pushed k other here = ⊎_elim
          (λ (before : slice_get ways k ≡ Some other). inl before)
          (λ (last : (k ≡ length ways) × (way ≡ other)). inr last.1)
          (get_pushed ways way k other here)

      kept : {x : ℕ} → HasWay nodes ways x → HasWay nodes after x
      kept h = record {
        place = h.place;
        way = h.way;
        there = subst (λ (xs : List Way). slice_get xs h.place ≡ Some h.way) (sym put)
            (get_before ways way h.place (slice_get_within ways h.place h.way h.there) ∙ h.there);
        is = h.is;
      }
