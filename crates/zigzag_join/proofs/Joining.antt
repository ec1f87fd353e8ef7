-- The join, turn by turn: what it knows of the slots that it has passed and of the lists that it has asked.
use Rattle.std.proofs.Common.{◌≡◌, ◌<◌, ◌≤◌, ◌+◌, ◌-◌, ◌*◌, ◌⊎◌, ℕ, List, length, Some, None, Ok, refl, sym, ap, ◌∙◌, inl, inr, ⊎_elim, subst, arith}
use Rattle.std.specs.Prelude.{Contains}
use Rattle.std.proofs.lemmas.Bool.{cases_lt}
use Rattle.std.proofs.lemmas.Nat.{mul-le}
use Rattle.worm_device.specs.Counts.{IsStill}
use Rattle.worm_device.proofs.Counting.{still_first, still_second}
use Rattle.worm_device.proofs.Resting.{viewed_self, viewed_then}
use Rattle.zigzag_join.specs.Counts.{HaveSlots, JoinCosts}
use Rattle.zigzag_join.specs.Joins.{AllOwe, AllVouch, HasAgreed, IsTurnAfter}
use Rattle.zigzag_join.proofs.SlotCounts.{at_least, at_most, passes, times_more, times_on}
use Rattle.zigzag_join.specs.Lists.{AsksNext, ComesTo, CountsAsks, HasPaid, ListsState, Keeps, paid_reads}

-- calls after calls
pub keeps_then : {a b c : ListsState} → Keeps a b → Keeps b c → Keeps a c
keeps_then {a} {b} {c} k l = record {
  lists = l.lists ∙ k.lists;
  made_of = l.made_of ∙ k.made_of;
  viewed = viewed_then k.viewed l.viewed;
  owing = λ which slot o. l.owing which slot (k.owing which slot o);
  vouching = λ which slot v. l.vouching which slot (k.vouching which slot v);
  naming = λ e may. l.naming e (k.naming e may);
  living = λ slot was. l.living slot (k.living slot was);
  landing = λ still which slot there.
      let x = k.viewed.called.foreign_writes in
      let y = l.viewed.called.foreign_writes in
      k.landing (still_first x y still) which slot (l.landing (still_second x y still) which slot there);
  next_reads = l.next_reads ∙ k.next_reads;
  has_reads = l.has_reads ∙ k.has_reads;
  next_asks = omega (arith, k.next_asks, l.next_asks);
  has_asks = omega (arith, k.has_asks, l.has_asks);
  paid = λ reads next has p. l.paid reads next has (k.paid reads next has p);
}

pub keeps_self : (a : ListsState) → Keeps a a
keeps_self a = record {
  lists = refl;
  made_of = refl;
  viewed = viewed_self _;
  owing = λ which slot o. o;
  vouching = λ which slot v. v;
  naming = λ e may. may;
  living = λ slot was. was;
  landing = λ still which slot there. there;
  next_reads = refl;
  has_reads = refl;
  next_asks = omega arith;
  has_asks = omega arith;
  paid = λ reads next has p. p;
}

-- what was read in calls, the asks in them have paid for
pub reads_of : {a b : ListsState} → Keeps a b → CountsAsks b
    → b.view.base.reads + paid_reads a ≤ a.view.base.reads + paid_reads b
unfolding HasPaid
reads_of {a} {b} k counts =
    subst (λ (n : ℕ). b.view.base.reads + (n * a.next_asks + a.has_reads * a.has_asks)
    ≤ a.view.base.reads + paid_reads b) k.next_reads
    (subst (λ (n : ℕ). b.view.base.reads + (b.next_reads * a.next_asks + n * a.has_asks)
    ≤ a.view.base.reads + paid_reads b) k.has_reads
    (k.paid a.view.base.reads a.next_asks a.has_asks (λ before. omega arith) counts))

-- one call's asks pay for what it read
pub paid_since : (a b : ListsState) → b.next_reads ≡ a.next_reads → b.has_reads ≡ a.has_reads
    → a.next_asks ≤ b.next_asks → a.has_asks ≤ b.has_asks
    → (CountsAsks b → b.view.base.reads + paid_reads a ≤ a.view.base.reads + paid_reads b)
    → (reads next has : ℕ) → HasPaid reads next has a → HasPaid reads next has b
unfolding HasPaid
paid_since a b same_next same_has more_next more_has pays reads next has paid counts =
    let was = paid (record {
      next = omega (arith, counts.next, more_next);
      has = omega (arith, counts.has, more_has);
    }) in
    subst (λ (n : ℕ). b.view.base.reads + (n * next + b.has_reads * has) ≤ reads + paid_reads b) (sym same_next)
    (subst (λ (n : ℕ). b.view.base.reads + (a.next_reads * next + n * has) ≤ reads + paid_reads b) (sym same_has)
    (omega (arith, was, pays counts)))

-- of so many lists, in turn, the list is one of the last so many before this one
abbrev pub IsOfLast : ℕ → ℕ → ℕ → ℕ → Type 0
IsOfLast lists which agreed w = ((w < which) × (which ≤ w + agreed)) ⊎ (which + lists ≤ w + agreed)

-- each of the last so many lists before this one vouches for the slot
abbrev pub LastVouch : ℕ → ListsState → ℕ → ℕ → ℕ → Type 0
LastVouch lists s which agreed slot = (w : ℕ) → w < lists → IsOfLast lists which agreed w → s.vouches w slot

-- What a join has asked, as one list q counts it: q was asked k times, each time for a slot of its own that is behind
-- the ones before, all below `behind`; it is asked again in `due` turns; and at h slots all lists were asked whether
-- they have it.
pub record IsCounted (old now : ListsState) (from which agreed slot q : ℕ) (slots : List ℕ) : Type 0 where
  pub asked : ℕ
  pub behind : ℕ
  pub due : ℕ
  pub tried : ℕ
  pub soon : due < old.lists
  pub turn : (which + due ≡ q) ⊎ (which + due ≡ q + old.lists)
  pub turns : now.next_asks + due ≤ old.next_asks + old.lists * asked + q
  pub left : asked + at_least slots behind ≤ at_least slots from
  pub from_on : from ≤ behind
  pub up_to : behind ≤ slot + 1
  pub here : behind ≡ slot + 1 → IsOfLast old.lists which agreed q
  pub there : IsOfLast old.lists which agreed q → behind ≡ slot + 1
  pub tries : now.has_asks ≤ old.has_asks + old.lists * tried
  pub fewer_tries : tried ≤ asked
  pub not_yet : behind ≡ slot + 1 → tried + 1 ≤ asked
  pub landed : behind ≡ slot + 1 → Contains slots slot

-- no slot was passed that at entry no list could pass, and the last lists have come to this one
pub record CommonSoFar (old now : ListsState) (from which agreed slot : ℕ) : Type 0 where
  pub kept : Keeps old now
  pub one_of_them : which < old.lists
  pub past_from : from ≤ slot
  pub most : slot ≤ 16777216
  pub passed : (s : ℕ) → AllOwe old s → from ≤ s → s < slot → ⊥
  pub counted : IsStill old.view.base.foreign_writes now.view.base.foreign_writes → (q : ℕ) → q < old.lists
      → (slots : List ℕ) → HaveSlots old q from slot slots → IsCounted old now from which agreed slot q slots

-- and not all of them have
pub record JoinSoFar (old now : ListsState) (from which agreed slot : ℕ) : Type 0 where
  pub so_far : CommonSoFar old now from which agreed slot
  pub not_all : agreed < old.lists

no_last : (lists w q : ℕ) → q < lists → IsOfLast lists w 0 q → ⊥
no_last lists w q less last = ⊎_elim (λ (a : (q < w) × (w ≤ q + 0)). omega (arith, a.0, a.1))
    (λ (b : w + lists ≤ q + 0). omega (arith, b, less)) last

-- nothing was asked yet
pub so_far_none : (old : ListsState) (from : ℕ) → 1 ≤ old.lists → from ≤ 16777216 → JoinSoFar old old from 0 0 from
so_far_none old from some most = record { so_far = common_none; not_all = some }
  where
    common_none : CommonSoFar old old from 0 0 from
    common_none = record {
      kept = keeps_self old;
      one_of_them = some;
      past_from = omega arith;
      most = most;
      passed = λ s owe past before. absurd (omega (arith, past, before));
      counted = λ still q less slots have. record {
        asked = 0;
        behind = from;
        due = q;
        tried = 0;
        soon = less;
        turn = inl (omega arith);
        turns = omega arith;
        left = omega arith;
        from_on = omega arith;
        up_to = omega arith;
        here = λ e. absurd (omega (arith, e));
        there = λ last. absurd (no_last old.lists 0 q less last);
        tries = omega arith;
        fewer_tries = omega arith;
        not_yet = λ e. absurd (omega (arith, e));
        landed = λ e. absurd (omega (arith, e));
      };
    }

-- of the last so many after a turn, as before it
module _ (lists w v agreed q : ℕ) (after : IsTurnAfter lists w v) (less : q < lists) where
  own_last : (now : ℕ) → 1 ≤ now → q ≡ w → IsOfLast lists v now q
  own_last now some own = ⊎_elim
      (λ (a : (w + 1 ≡ lists) × (v ≡ 0)). inr (omega (arith, a.0, a.1, own, some)))
      (λ (b : (w + 1 < lists) × (v ≡ w + 1)). inl (omega (arith, b.1, own), omega (arith, b.1, own, some)))
      after

  last_more : (q ≡ w → ⊥) → IsOfLast lists w agreed q → IsOfLast lists v (agreed + 1) q
  last_more other last = grind (arith, other, last, after, less)

  last_less : (q ≡ w → ⊥) → IsOfLast lists v (agreed + 1) q → IsOfLast lists w agreed q
  last_less other last = grind (arith, other, last, after, less)

  last_one : (q ≡ w → ⊥) → IsOfLast lists v 1 q → ⊥
  last_one other last = grind (arith, other, last, after, less)

  turn_own : w < lists → (v + (lists - 1) ≡ w) ⊎ (v + (lists - 1) ≡ w + lists)
  turn_own inside = grind (arith, after, inside)

  turn_other : (due : ℕ) → 1 ≤ due → (w + due ≡ q) ⊎ (w + due ≡ q + lists) → due < lists
      → (v + (due - 1) ≡ q) ⊎ (v + (due - 1) ≡ q + lists)
  turn_other due some turn soon = grind (arith, after, some, turn, soon, less)

not_last : (lists w agreed : ℕ) → agreed < lists → IsOfLast lists w agreed w → ⊥
not_last lists w agreed less last = ⊎_elim (λ (a : (w < w) × (w ≤ w + agreed)). omega (arith, a.0))
    (λ (b : w + lists ≤ w + agreed). omega (arith, b, less)) last

-- where none has come yet each of them vouches
pub none_vouch : (lists : ℕ) (s : ListsState) (which slot : ℕ) → LastVouch lists s which 0 slot
none_vouch lists s which slot w less last = absurd (no_last lists which w less last)

-- where one more vouches as it comes, and those that had come to the same slot did
pub vouch_more : (lists : ℕ) (now new : ListsState) (w v agreed a slot n : ℕ) → IsTurnAfter lists w v
    → HasAgreed n slot agreed a → Keeps now new → new.vouches w n → (slot < n) ⊎ LastVouch lists now w agreed slot
    → LastVouch lists new v a n
vouch_more lists now new w v agreed a slot n after agrees kept own others q less last =
    ⊎_elim (λ (same : q ≡ w). subst (λ (x : ℕ). new.vouches x n) (sym same) own) other (own_or_other q w)
  where
    own_or_other : (q w : ℕ) → (q ≡ w) ⊎ (q ≡ w → ⊥)
    own_or_other q w = grind arith

    other : (q ≡ w → ⊥) → new.vouches q n
    other not_own = ⊎_elim
        (λ (up : (slot < n) × (a ≡ 1)). absurd (last_one lists w v agreed q after less not_own
        (subst (λ (x : ℕ). IsOfLast lists v x q) up.1 last)))
        (λ (same : (n ≡ slot) × (a ≡ agreed + 1)). ⊎_elim
        (λ (up : slot < n). absurd (omega (arith, up, same.0)))
        (λ (before : LastVouch lists now w agreed slot). kept.vouching q n (subst (now.vouches q) (sym same.0)
        (before q less (last_less lists w v agreed q after less not_own
        (subst (λ (x : ℕ). IsOfLast lists v x q) same.1 last)))))
        others)
        agrees

-- so where all have come, all vouch
pub all_vouch : (lists : ℕ) (s : ListsState) (which agreed slot : ℕ) → s.lists ≡ lists → which < lists → agreed ≡ lists
    → LastVouch lists s which agreed slot → AllVouch s slot
all_vouch lists s which agreed slot same inside all last q less = last q (omega (arith, less, same)) (⊎_elim
    (λ (low : q < which). inl (low, omega (arith, all, inside)))
    (λ (high : which ≤ q). inr (omega (arith, all, high))) (cases_lt q which))

-- one turn more, as list q counts it
turn_counted : (old now new : ListsState) (from w v agreed a slot n q : ℕ) (slots : List ℕ)
    → IsCounted old now from w agreed slot q slots → AsksNext now new → IsTurnAfter old.lists w v
    → HasAgreed n slot agreed a → agreed < old.lists → w < old.lists → q < old.lists → slot ≤ n
    → (q ≡ w → Contains slots n) → from ≤ slot → IsCounted old new from v a n q slots
turn_counted old now new from w v agreed a slot n q slots k asks after agrees not_all inside less order mine past =
    by_due (cases_lt 0 k.due)
  where
    by_due : (0 < k.due) ⊎ (k.due ≤ 0) → IsCounted old new from v a n q slots
    by_due (inl some) =
        let other : q ≡ w → ⊥ = λ own. ⊎_elim (λ (e : w + k.due ≡ q). omega (arith, e, own, some))
        (λ (e : w + k.due ≡ q + old.lists). omega (arith, e, own, k.soon)) k.turn in
        record {
          asked = k.asked;
          behind = k.behind;
          due = k.due - 1;
          tried = k.tried;
          soon = omega (arith, k.soon);
          turn = turn_other old.lists w v agreed q after less k.due some k.turn k.soon;
          turns = omega (arith, k.turns, asks.0, some);
          left = k.left;
          from_on = k.from_on;
          up_to = omega (arith, k.up_to, order);
          here = λ e. ⊎_elim
              (λ (up : (slot < n) × (a ≡ 1)). absurd (omega (arith, up.0, e, k.up_to)))
              (λ (same : (n ≡ slot) × (a ≡ agreed + 1)).
              subst (λ (x : ℕ). IsOfLast old.lists v x q) (sym same.1)
              (last_more old.lists w v agreed q after less other (k.here (omega (arith, e, same.0)))))
              agrees;
          there = λ last. ⊎_elim
              (λ (up : (slot < n) × (a ≡ 1)).
              absurd (last_one old.lists w v agreed q after less other
              (subst (λ (x : ℕ). IsOfLast old.lists v x q) up.1 last)))
              (λ (same : (n ≡ slot) × (a ≡ agreed + 1)).
              omega (
                arith,
                same.0,
                k.there (last_less old.lists w v agreed q after less other
                    (subst (λ (x : ℕ). IsOfLast old.lists v x q) same.1 last)),
              ))
              agrees;
          tries = omega (arith, k.tries, asks.1);
          fewer_tries = k.fewer_tries;
          not_yet = λ e. k.not_yet (omega (arith, e, k.up_to, order));
          landed = λ e. ⊎_elim
              (λ (up : (slot < n) × (a ≡ 1)). absurd (omega (arith, up.0, e, k.up_to)))
              (λ (same : (n ≡ slot) × (a ≡ agreed + 1)).
              subst (λ (x : ℕ). Contains slots x) (sym same.0) (k.landed (omega (arith, e, same.0))))
              agrees;
        }
    by_due (inr none) =
        let own : q ≡ w = ⊎_elim (λ (e : w + k.due ≡ q). omega (arith, e, none))
        (λ (e : w + k.due ≡ q + old.lists). absurd (omega (arith, e, none, inside))) k.turn in
        let before : k.behind ≤ slot = ⊎_elim (λ (at : k.behind < slot + 1). omega (arith, at))
        (λ (past : slot + 1 ≤ k.behind). absurd (not_last old.lists w agreed not_all
        (subst (IsOfLast old.lists w agreed) own (k.here (omega (arith, past, k.up_to))))))
        (cases_lt k.behind (slot + 1)) in
        let there = mine own in
        let fewer_left = passes slots k.behind n there.0 there.1 there.2 (omega (arith, before, order)) in
        let first : 1 ≤ a = ⊎_elim (λ (up : (slot < n) × (a ≡ 1)). omega (arith, up.1))
        (λ (same : (n ≡ slot) × (a ≡ agreed + 1)). omega (arith, same.1)) agrees in
        record {
          asked = k.asked + 1;
          behind = n + 1;
          due = old.lists - 1;
          tried = k.tried;
          soon = omega (arith, inside);
          turn = subst (λ (x : ℕ). (v + (old.lists - 1) ≡ x) ⊎ (v + (old.lists - 1) ≡ x + old.lists)) (sym own)
              (turn_own old.lists w v agreed q after less inside);
          turns = omega (arith, k.turns, asks.0, none, times_more old.lists k.asked, inside);
          left = omega (arith, k.left, fewer_left);
          from_on = omega (arith, past, order);
          up_to = omega arith;
          here = λ e. own_last old.lists w v agreed q after less a first own;
          there = λ last. refl;
          tries = omega (arith, k.tries, asks.1);
          fewer_tries = omega (arith, k.fewer_tries);
          not_yet = λ e. omega (arith, k.fewer_tries);
          landed = λ e. there;
        }

module _ {old now new : ListsState} {from w agreed slot : ℕ} (s : CommonSoFar old now from w agreed slot)
    (kept : Keeps now new) where
  both : Keeps old new
  both = keeps_then s.kept kept

  owe_now : (x : ℕ) → AllOwe old x → AllOwe now x
  owe_now x owe which less = s.kept.owing which x (owe which (omega (arith, less, s.kept.lists)))

  was_still : IsStill old.view.base.foreign_writes new.view.base.foreign_writes
      → IsStill old.view.base.foreign_writes now.view.base.foreign_writes
  was_still = still_first s.kept.viewed.called.foreign_writes kept.viewed.called.foreign_writes

  -- one turn more
  pub turn_more : (v a n : ℕ) → agreed < old.lists → AsksNext now new → ComesTo w slot now new n
      → IsTurnAfter old.lists w v → HasAgreed n slot agreed a → CommonSoFar old new from v a n
  turn_more v a n not_all asks ends after agrees = record {
    kept = both;
    one_of_them = ⊎_elim (λ (x : (w + 1 ≡ old.lists) × (v ≡ 0)). omega (arith, x.0, x.1))
        (λ (x : (w + 1 < old.lists) × (v ≡ w + 1)). omega (arith, x.0, x.1)) after;
    past_from = omega (arith, s.past_from, ends.0);
    most = omega (arith, ends.1);
    passed = λ x owe past before. ⊎_elim (λ (low : x < slot). s.passed x owe past low)
        (λ (high : slot ≤ x).
        let least : n ≤ x = ends.3 x (owe_now x owe w (omega (arith, s.one_of_them, s.kept.lists))) high in
        omega (arith, least, before))
        (cases_lt x slot);
    counted = λ still q less slots have.
        turn_counted old now new from w v agreed a slot n q slots
        (s.counted (was_still still) q less slots (λ x there past low. have x there past (omega (arith, low, ends.0))))
        asks after agrees not_all s.one_of_them less ends.0
        (λ own. have n (both.landing still q n (subst (λ (k : ℕ). new.lands k n) (sym own) ends.2))
        (omega (arith, s.past_from, ends.0)) (omega arith))
        s.past_from;
  }

  -- there are no more
  pub none_left : (next_asks : new.next_asks ≤ now.next_asks + 1) → new.has_asks ≤ now.has_asks
      → JoinCosts from old new (Ok None)
  none_left next_asks has_asks still which less slots have =
      let k = s.counted (was_still still) which (omega (arith, less)) slots (λ x there past low. have x there past) in
      let most = at_most slots from in
      let a = times_on old.lists k.asked (length slots) (omega (arith, k.left, most)) in
      let b = times_on old.lists k.tried (length slots) (omega (arith, k.left, most, k.fewer_tries)) in (
        omega (arith, next_asks, k.turns, a, times_more old.lists (length slots), less),
        omega (arith, has_asks, k.tries, b),
      )

  -- all lists have come to the slot, and were asked whether they have it
  module _ (all : agreed ≡ old.lists) (next_asks : new.next_asks ≤ now.next_asks)
      (has_asks : new.has_asks ≤ now.has_asks + old.lists) where
    is_last : (q : ℕ) → q < old.lists → IsOfLast old.lists w agreed q
    is_last q less = ⊎_elim (λ (low : q < w). inl (low, omega (arith, all, s.one_of_them)))
        (λ (high : w ≤ q). inr (omega (arith, all, high))) (cases_lt q w)

    pub found_costs : JoinCosts from old new (Ok (Some slot))
    found_costs still which less slots have =
        let k = s.counted (was_still still) which (omega (arith, less)) slots have in
        let at = k.there (is_last which (omega (arith, less))) in
        let more = k.not_yet at in
        let most = at_most slots from in
        let a = times_on old.lists k.asked (length slots) (omega (arith, k.left, most)) in
        let b = times_on old.lists (k.tried + 1) (length slots) (omega (arith, k.left, most, more)) in (
          k.landed at,
          (
            omega (arith, next_asks, k.turns, a, times_more old.lists (length slots), less),
            omega (arith, has_asks, k.tries, b, times_more old.lists k.tried),
          ),
        )

    -- a fault came
    pub asked_costs : JoinCosts from old new (Ok None)
    asked_costs still which less slots have =
        (found_costs still which less slots (λ x there past low. have x there past)).1

    -- not all of them have it
    pub skip_more : slot < 16777216 → (AllOwe now slot → ⊥) → JoinSoFar old new from w 0 (slot + 1)
    skip_more under none = record {
      so_far = record {
        kept = both;
        one_of_them = s.one_of_them;
        past_from = omega (arith, s.past_from);
        most = omega (arith, under);
        passed = λ x owe past before. ⊎_elim (λ (low : x < slot). s.passed x owe past low)
            (λ (high : slot ≤ x).
            let same : slot ≡ x = omega (arith, high, before) in
            none (subst (AllOwe now) (sym same) (owe_now x owe)))
            (cases_lt x slot);
        counted = λ still q less slots have.
            let k = s.counted (was_still still) q less slots
            (λ x there past low. have x there past (omega (arith, low))) in
            let at : k.behind ≡ slot + 1 = k.there (is_last q less) in
            record {
              asked = k.asked;
              behind = k.behind;
              due = k.due;
              tried = k.tried + 1;
              soon = k.soon;
              turn = k.turn;
              turns = omega (arith, next_asks, k.turns);
              left = k.left;
              from_on = k.from_on;
              up_to = omega (arith, k.up_to);
              here = λ e. absurd (omega (arith, e, at));
              there = λ last. absurd (no_last old.lists w q less last);
              tries = omega (arith, has_asks, k.tries, times_more old.lists k.tried);
              fewer_tries = k.not_yet at;
              not_yet = λ e. absurd (omega (arith, e, at));
              landed = λ e. absurd (omega (arith, e, at));
            };
      };
      not_all = omega (arith, s.one_of_them);
    }

one_more_times : (a b : ℕ) → (a + 1) * b ≡ a * b + b
one_more_times a b = grind arith

-- each turn comes nearer to the end
pub smaller : (slot n agreed a count : ℕ) → HasAgreed n slot agreed a → slot < 16777216 → agreed < count → n ≤ 16777216
    → (16777216 - n) * (count + 1) + (count - a) < (16777216 - slot) * (count + 1) + (count - agreed)
smaller slot n agreed a count agrees under not_all most = ⊎_elim
    (λ (up : (slot < n) × (a ≡ 1)).
    omega (
      arith,
      up.1,
      one_more_times (16777216 - n) (count + 1),
      mul-le ((16777216 - n) + 1) (count + 1) (16777216 - slot) (count + 1) (omega (arith, up.0, most)) (omega arith),
    ))
    (λ (same : (n ≡ slot) × (a ≡ agreed + 1)).
    omega (arith, same.1, not_all, ap (λ (x : ℕ). (16777216 - x) * (count + 1)) same.0))
    agrees

pub end_costs : {old now : ListsState} {from w agreed slot : ℕ} → CommonSoFar old now from w agreed slot
    → JoinCosts from old now (Ok None)
end_costs {now = now} s = none_left s (keeps_self now) (omega arith) (omega arith)

pub not_all_yet : (lists slot n agreed a : ℕ) → HasAgreed n slot agreed a → agreed < lists → (a ≡ lists → ⊥) → a < lists
not_all_yet lists slot n agreed a agrees not_all other = ⊎_elim
    (λ (less : a < lists). less)
    (λ (more : lists ≤ a). absurd (other (⊎_elim
    (λ (up : (slot < n) × (a ≡ 1)). omega (arith, up.1, more, not_all))
    (λ (same : (n ≡ slot) × (a ≡ agreed + 1)). omega (arith, same.1, more, not_all))
    agrees)))
    (cases_lt a lists)
