-- Gathering, turn by turn.
use Rattle.std.proofs.Common.{◌≡◌, ◌<◌, ◌≤◌, ◌+◌, ◌*◌, ◌⊎◌, ℕ, List, [], ◌∷◌, ◌++◌, length, Some, None, Ok, refl, sym, ap, subst, ◌∙◌, ⊎_elim, arith}
use Rattle.std.specs.Prelude.{slice_index}
use Rattle.std.proofs.lemmas.List.{get_or_append_left, get_or_push, length-append}
use Rattle.std.proofs.lemmas.Bool.{cases_lt}
use Rattle.std.specs.List.{filter}
use Rattle.std.specs.Prelude.{nat_le}
use Rattle.worm_device.specs.Counts.{IsStill}
use Rattle.worm_device.proofs.Counting.{still_first, still_second}
use Rattle.zigzag_join.proofs.SlotCounts.{at_least, at_most, from_it, is_within, length_from, length_within, picked, times_both, times_more, times_on, within_it}
use Rattle.zigzag_join.proofs.Joining.{keeps_self, keeps_then}
use Rattle.zigzag_join.specs.Counts.{GatherCosts, HaveAllSlots, JoinCosts}
use Rattle.zigzag_join.specs.Gathering.{Gathers, IsAmongSlots, GatheredRise}
use Rattle.zigzag_join.specs.Joins.{AllOwe, AllVouch, JoinEnds}
use Rattle.zigzag_join.specs.Lists.{ListsState, Keeps}

-- Any one list's slots before this one have paid for what was asked: each for two turns of asks for a next slot, and
-- for one of asks whether a list has it.
pub record IsSummed (old now : ListsState) (from : ℕ) (all : List ℕ) : Type 0 where
  pub next_asks : now.next_asks + old.lists * (2 * at_least all from) ≤ old.next_asks + old.lists * (2 * length all)
  pub has_asks : now.has_asks + old.lists * at_least all from ≤ old.has_asks + old.lists * length all

-- each slot before this one that no list could pass was gathered
pub record GatherSoFar (old now : ListsState) (from : ℕ) (slots : List ℕ) : Type 0 where
  pub kept : Keeps old now
  pub most : from ≤ 16777216
  pub all : (slot : ℕ) → AllOwe old slot → slot < from → IsAmongSlots slots slot
  pub below : (i : ℕ) → i < length slots → slice_index slots i < from
  pub vouched : (i : ℕ) → i < length slots → AllVouch now (slice_index slots i)
  pub live : (i : ℕ) → i < length slots → now.live (slice_index slots i)
  pub rise : GatheredRise slots
  pub counted : IsStill old.view.base.foreign_writes now.view.base.foreign_writes → (q : ℕ) → q + 1 ≤ old.lists
      → (all : List ℕ) → HaveAllSlots old q 0 all → IsSummed old now from all

-- nothing was gathered yet
pub gather_none : (old : ListsState) → GatherSoFar old old 0 []
gather_none old = record {
  kept = keeps_self old;
  most = omega arith;
  all = λ slot owe before. absurd (omega (arith, before));
  below = λ i less. absurd (omega (arith, less));
  vouched = λ i less. absurd (omega (arith, less));
  live = λ i less. absurd (omega (arith, less));
  rise = λ i j less inside. absurd (omega (arith, inside));
  counted = λ still q less all have. record {
    next_asks = omega (arith, times_on old.lists (2 * at_least all 0) (2 * length all) (omega (arith, at_most all 0)));
    has_asks = omega (arith, times_on old.lists (at_least all 0) (length all) (at_most all 0));
  };
}

length_push : (slots : List ℕ) (slot : ℕ) → length (slots ++ slot ∷ []) ≡ length slots + 1
length_push slots slot = length-append slots (slot ∷ [])

among_push : (slots : List ℕ) (last slot : ℕ) → IsAmongSlots slots slot → IsAmongSlots (slots ++ last ∷ []) slot
among_push slots last slot a = record {
  place = a.place;
  inside = omega (arith, a.inside, length_push slots last);
  is = get_or_append_left slots (last ∷ []) 0 a.place a.inside ∙ a.is;
}

at_end : (slots : List ℕ) (last : ℕ) → slice_index (slots ++ last ∷ []) (length slots) ≡ last
at_end slots last = get_or_push slots last 0 (length slots) refl

more_next_asks : (l m y x all old now new : ℕ) → m + y ≤ x → 1 ≤ m → new ≤ now + l * (m + 1)
    → now + l * (2 * x) ≤ old + l * (2 * all) → new + l * (2 * y) ≤ old + l * (2 * all)
more_next_asks l m y x all old now new parts some turn so_far =
    omega (
      arith,
      turn,
      so_far,
      times_both l (m + 1) (2 * y),
      times_on l (m + 1 + 2 * y) (2 * x) (omega (arith, parts, some)),
    )

more_has_asks : (l m y x all old now new : ℕ) → m + y ≤ x → new ≤ now + l * m → now + l * x ≤ old + l * all
    → new + l * y ≤ old + l * all
more_has_asks l m y x all old now new parts turn so_far =
    omega (arith, turn, so_far, times_both l m y, times_on l (m + y) x parts)

last_next_asks : (l m x all old now new : ℕ) → m ≤ x → new ≤ now + l * (m + 1)
    → now + l * (2 * x) ≤ old + l * (2 * all) → new ≤ old + l * (2 * all + 1)
last_next_asks l m x all old now new parts turn so_far =
    omega (arith, turn, so_far, times_more l m, times_more l (2 * all), times_on l m (2 * x) (omega (arith, parts)))

last_has_asks : (l m x all old now new : ℕ) → m ≤ x → new ≤ now + l * m → now + l * x ≤ old + l * all
    → new ≤ old + l * all
last_has_asks l m x all old now new parts turn so_far = omega (arith, turn, so_far, times_on l m x parts)

-- gathering may end where it is
pub gather_costs : (old now : ListsState) (from : ℕ) (slots : List ℕ) → GatherSoFar old now from slots
    → GatherCosts old now
gather_costs old now from slots so_far still q less all have =
    let k = so_far.counted still q less all have in
    (omega (arith, k.next_asks, times_more old.lists (2 * length all)), omega (arith, k.has_asks))

last_or_before : (i n : ℕ) → i < n + 1 → (i < n) ⊎ (i ≡ n)
last_or_before i n less = grind arith

module _ (old now new : ListsState) (from : ℕ) (slots : List ℕ) (so_far : GatherSoFar old now from slots)
    (kept : Keeps now new) where
  owe_on : (slot : ℕ) → AllOwe old slot → AllOwe now slot
  owe_on slot owe which less = so_far.kept.owing which slot (owe which (omega (arith, less, so_far.kept.lists)))

  vouch_on : (slot : ℕ) → AllVouch now slot → AllVouch new slot
  vouch_on slot vouch which less = kept.vouching which slot (vouch which (omega (arith, less, kept.lists)))

  first_still : IsStill old.view.base.foreign_writes new.view.base.foreign_writes
      → IsStill old.view.base.foreign_writes now.view.base.foreign_writes
  first_still = still_first so_far.kept.viewed.called.foreign_writes kept.viewed.called.foreign_writes

  then_still : IsStill old.view.base.foreign_writes new.view.base.foreign_writes
      → IsStill now.view.base.foreign_writes new.view.base.foreign_writes
  then_still = still_second so_far.kept.viewed.called.foreign_writes kept.viewed.called.foreign_writes

  -- the slots of a list between here and an answer pay for the join that found it
  summed_more : (n : ℕ) → from ≤ n → JoinCosts from now new (Ok (Some n))
      → IsStill old.view.base.foreign_writes new.view.base.foreign_writes → (q : ℕ) → q + 1 ≤ old.lists
      → (all : List ℕ) → HaveAllSlots old q 0 all → IsSummed old new (n + 1) all
  summed_more n past costs still q less all have =
      let k = so_far.counted (first_still still) q less all have in
      let part = filter (is_within from (n + 1)) all in
      let found =
      costs (then_still still) q (omega (arith, less, so_far.kept.lists)) part
      (λ s there on up_to. picked (is_within from (n + 1)) all s
      (have s (so_far.kept.landing (first_still still) q s there) (omega arith))
      (within_it from (n + 1) s on (omega (arith, up_to)))) in
      let c = subst (λ (l : ℕ). (new.next_asks ≤ now.next_asks + l * (length part + 1))
      × (new.has_asks ≤ now.has_asks + l * length part)) so_far.kept.lists found.1 in
      let parts = length_within all from (n + 1) (omega (arith, past)) in
      record {
        next_asks = more_next_asks old.lists (length part) (at_least all (n + 1)) (at_least all from) (length all)
            old.next_asks now.next_asks new.next_asks parts (omega (arith, found.0.1)) c.0 k.next_asks;
        has_asks = more_has_asks old.lists (length part) (at_least all (n + 1)) (at_least all from) (length all)
            old.has_asks now.has_asks new.has_asks parts c.1 k.has_asks;
      }

  -- and those from here on pay for one that finds no more
  pub gathered_costs : JoinCosts from now new (Ok None) → GatherCosts old new
  gathered_costs costs still q less all have =
      let k = so_far.counted (first_still still) q less all have in
      let part = filter (nat_le from) all in
      let c = subst (λ (l : ℕ). (new.next_asks ≤ now.next_asks + l * (length part + 1))
      × (new.has_asks ≤ now.has_asks + l * length part)) so_far.kept.lists
      (costs (then_still still) q (omega (arith, less, so_far.kept.lists)) part
      (λ s there on. picked (nat_le from) all s
      (have s (so_far.kept.landing (first_still still) q s there) (omega arith)) (from_it from s on))) in
      let parts = length_from all from in (
        last_next_asks old.lists (length part) (at_least all from) (length all) old.next_asks now.next_asks
            new.next_asks (omega (arith, parts)) c.0 k.next_asks,
        last_has_asks old.lists (length part) (at_least all from) (length all) old.has_asks now.has_asks
            new.has_asks (omega (arith, parts)) c.1 k.has_asks,
      )

  -- one slot more
  pub gather_more : (n : ℕ) → JoinEnds from now new (Ok (Some n)) → JoinCosts from now new (Ok (Some n))
      → GatherSoFar old new (n + 1) (slots ++ n ∷ [])
  gather_more n ends costs = record {
    counted = summed_more n ends.0 costs;
    kept = keeps_then so_far.kept kept;
    most = omega (arith, ends.1);
    all = λ slot owe less. ⊎_elim
        (λ (before : slot < from). among_push slots n slot (so_far.all slot owe before))
        (λ (past : from ≤ slot).
        let least : n ≤ slot = ends.3 slot (owe_on slot owe) past in
        record {
          place = length slots;
          inside = omega (arith, length_push slots n);
          is = at_end slots n ∙ omega (arith, least, less);
        })
        (cases_lt slot from);
    below = λ i less. ⊎_elim
        (λ (before : i < length slots).
        omega (arith, so_far.below i before, get_or_append_left slots (n ∷ []) 0 i before, ends.0))
        (λ (here : i ≡ length slots). omega (arith, ap (slice_index (slots ++ n ∷ [])) here, at_end slots n))
        (last_or_before i (length slots) (omega (arith, less, length_push slots n)));
    vouched = λ i less. ⊎_elim
        (λ (before : i < length slots). subst (AllVouch new) (sym (get_or_append_left slots (n ∷ []) 0 i before))
        (vouch_on _ (so_far.vouched i before)))
        (λ (here : i ≡ length slots). subst (AllVouch new)
        (sym (ap (slice_index (slots ++ n ∷ [])) here ∙ at_end slots n)) ends.2)
        (last_or_before i (length slots) (omega (arith, less, length_push slots n)));
    live = λ i less. ⊎_elim
        (λ (before : i < length slots). subst new.live (sym (get_or_append_left slots (n ∷ []) 0 i before))
        (kept.living _ (so_far.live i before)))
        (λ (here : i ≡ length slots). subst new.live
        (sym (ap (slice_index (slots ++ n ∷ [])) here ∙ at_end slots n)) ends.4)
        (last_or_before i (length slots) (omega (arith, less, length_push slots n)));
    rise = λ i j less inside. ⊎_elim
        (λ (before : j < length slots).
        let first : i < length slots = omega (arith, less, before) in
        omega (
          arith,
          so_far.rise i j less before,
          get_or_append_left slots (n ∷ []) 0 i first,
          get_or_append_left slots (n ∷ []) 0 j before,
        ))
        (λ (here : j ≡ length slots).
        let first : i < length slots = omega (arith, less, here) in
        omega (
          arith,
          so_far.below i first,
          get_or_append_left slots (n ∷ []) 0 i first,
          ends.0,
          ap (slice_index (slots ++ n ∷ [])) here,
          at_end slots n,
        ))
        (last_or_before j (length slots) (omega (arith, inside, length_push slots n)));
  }

  -- there are no more
  pub gathered : JoinEnds from now new (Ok None) → Gathers old new slots
  gathered none = record {
    all = λ slot owe small. ⊎_elim
        (λ (before : slot < from). so_far.all slot owe before)
        (λ (past : from ≤ slot). absurd (none slot (owe_on slot owe) past small))
        (cases_lt slot from);
    vouched = λ i less. vouch_on _ (so_far.vouched i less);
    live = λ i less. kept.living _ (so_far.live i less);
    rise = so_far.rise;
  }
