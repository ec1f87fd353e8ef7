-- What a text says is within the limits of scripts.
use Rattle.std.proofs.Common.{◌≡◌, ◌≤◌, ℕ, suc, List, [], ◌∷◌, Option, Some, None, MatchOption, All, codes, length, refl, ap, sym, subst, arith}
use Rattle.std.proofs.lemmas.List.Elements.{All-nil, All-cons}
use Rattle.serde_json.specs.Data.{Data, Items, no_items, item}
use Rattle.serde_json.specs.Events.{items_len}
use Rattle.serde_json.specs.Find.{get, as_array, as_str}
use Rattle.cell_types.specs.declared.geometry.TheConstants.{FIRST_VERSION, MAX_LISTS, MAX_SLOTS, NEWEST_VERSION}
use Rattle.volume_meaning.specs.Words.{rule_of}
use Rattle.volume_meaning.specs.declared.word_rules.WordRule.{WordRule}
use Rattle.worm_memory.specs.declared.moment.Moment.{Moment}
use Rattle.worm_memory.specs.declared.moment.Moment.TheVariants.{Step, Call}
use Rattle.script_events.specs.Events.{IsEventOn, IsPlanOn, IsScriptMoment, IsScriptStamp, IsScriptStop, IsTermOfWord, IsTimedOn}
use Rattle.script_events.specs.Grammar.{SaysEvent, SaysMoment, SaysPlan, SaysSeconds, SaysTerm, SaysTimed}
use Rattle.script_events.specs.Json.{AreItems, IsArrayOf, IsNumberIn, MayHaveMember}
use Rattle.script_events.specs.Scripts.{ScriptsAreInLimits}
use Rattle.script_events.specs.declared.event.Event.{Event}
use Rattle.script_events.specs.declared.event.Event.TheVariants.{Format, Ingest, Find, Lookup, Audit, Recover, Foreign, Crash}
use Rattle.script_events.specs.declared.event.Schedule.{Schedule}
use Rattle.script_events.specs.declared.event.Timed.{Timed}
use Rattle.script_events.specs.declared.limits.TheConstants.{MAX_SCRIPT_CELLS}

-- what a member says
member : {A : Type 0} {C : Type 0} (o : Option A) (P : A → Type 0) → MatchOption o ⊥ P → ((x : A) → P x → C) → C
member None P p f = absurd p
member (Some x) P p f = f x p

items_all : {A : Type 0} (R : A → Data → Type 0) (P : A → Type 0) → ((x : A) (d : Data) → R x d → P x)
    → (xs : List A) (ds : Items) → AreItems R xs ds → All P xs
items_all R P each [] ds are = All-nil P
items_all R P each (x ∷ xs) no_items are = absurd are
items_all R P each (x ∷ xs) (item d ds) are = All-cons P x xs (each x d are.0) (items_all R P each xs ds are.1)

items_long : {A : Type 0} (R : A → Data → Type 0) (xs : List A) (ds : Items) → AreItems R xs ds → length xs ≡ items_len ds
items_long R [] no_items are = refl
items_long R [] (item d ds) are = absurd are
items_long R (x ∷ xs) no_items are = absurd are
items_long R (x ∷ xs) (item d ds) are = ap suc (items_long R xs ds are.1)

-- so many items, and each is such
abbrev AreSo : {A : Type 0} → (A → Type 0) → ℕ → ℕ → List A → Type 0
AreSo P least most xs = (least ≤ length xs) × (length xs ≤ most) × All P xs

array_so : {A : Type 0} (R : A → Data → Type 0) (P : A → Type 0) → ((x : A) (d : Data) → R x d → P x)
    → (least most : ℕ) (xs : List A) (d : Data) → IsArrayOf R least most xs d → AreSo P least most xs
array_so R P each least most xs d h =
    member (as_array d) _ h
    (λ ds p. (
      omega (arith, p.0, items_long R xs ds p.2),
      omega (arith, p.1, items_long R xs ds p.2),
      items_all R P each xs ds p.2,
    ))

found_so : {A : Type 0} (R : A → Data → Type 0) (P : A → Type 0) → ((x : A) (d : Data) → R x d → P x)
    → (most : ℕ) (xs : List A) (o : Option Data) → MatchOption o (xs ≡ []) (IsArrayOf R 0 most xs) → AreSo P 0 most xs
found_so R P each most xs None h = subst (AreSo P 0 most) (sym h) (omega arith, omega arith, All-nil P)
found_so R P each most xs (Some e) h = array_so R P each 0 most xs e h

moment_so : (moment : Moment) (d : Data) → SaysMoment moment d → IsScriptMoment moment
moment_so (Step n) d h = member (get (codes "step") d) _ h.2 (λ e p. (p.1, p.2))
moment_so (Call n) d h = member (get (codes "call") d) _ h.2 (λ e p. (p.1, p.2))

stop_so : (stop : Option Moment) (d : Data) → MayHaveMember (codes "stop") SaysMoment stop d → IsScriptStop stop
stop_so None d h = tt
stop_so (Some moment) d h = member (get (codes "stop") d) _ h (moment_so moment)

stamp_so : (stamp : Option ℕ) (d : Data) → MayHaveMember (codes "stamp") SaysSeconds stamp d → IsScriptStamp stamp
stamp_so None d h = tt
stamp_so (Some seconds) d h = member (get (codes "stamp") d) _ h (λ e p. omega (arith, p.2))

timed_so : (cells : ℕ) (timed : Timed) (d : Data) → SaysTimed cells timed d → IsTimedOn cells timed
timed_so cells timed d h = (
  member (get (codes "before") d) _ h.1 (moment_so timed.before),
  member (get (codes "at") d) _ h.2 (λ e p. p.1),
)

plan_so : (cells : ℕ) (plan : Schedule) (d : Data) → SaysPlan cells plan d → IsPlanOn cells plan
plan_so cells plan d h =
    let fail = found_so SaysMoment IsScriptMoment moment_so _ plan.fail (get (codes "fail") d) h.1 in
    let foreign = found_so (SaysTimed cells) (IsTimedOn cells) (timed_so cells) _ plan.foreign (get (codes "foreign") d) h.2 in
    record {
      stop = stop_so plan.stop d h.0;
      few_fail = fail.1;
      each_fails = fail.2;
      few_foreign = foreign.1;
      each_foreign = foreign.2;
    }

term_so : (rule : WordRule) (term : List ℕ) (d : Data) → SaysTerm rule term d → IsTermOfWord term
term_so rule term d h = member (as_str d) _ h (λ word p. (rule, word, p))

-- the version that is stated may be, and the first is one
version_so : (version : ℕ) (o : Option Data)
    → MatchOption o (version ≡ FIRST_VERSION) (IsNumberIn FIRST_VERSION NEWEST_VERSION version)
    → (FIRST_VERSION ≤ version) × (version ≤ NEWEST_VERSION)
version_so version None first = (omega (arith, first), omega (arith, first))
version_so version (Some d) stated = (stated.1, stated.2)

event_so : (cells stated : ℕ) → FIRST_VERSION ≤ stated → stated ≤ NEWEST_VERSION → (event : Event) (d : Data)
    → SaysEvent cells stated event d → IsEventOn cells event
event_so cells stated from to (Format slots lists version plan) d h =
    let s = member {C = (1 ≤ slots) × (slots ≤ MAX_SLOTS)} (get (codes "slots") d) _ h.1.1.1 (λ e p. (p.1, p.2)) in
    let l = member {C = (1 ≤ lists) × (lists ≤ MAX_LISTS)} (get (codes "lists") d) _ h.1.1.2 (λ e p. (p.1, p.2)) in (
      s.0,
      s.1,
      l.0,
      l.1,
      omega (arith, h.1.0, from),
      omega (arith, h.1.0, to),
      plan_so cells plan d h.1.1.3,
    )
event_so cells stated from to (Ingest id stamp body plan) d h = (
  member (get (codes "id") d) _ h.1.1 (λ e p. p.1),
  stamp_so stamp d h.1.2,
  h.1.3.0,
  plan_so cells plan d h.1.4,
)
event_so cells stated from to (Find terms plan) d h =
    let so = member (get (codes "words") d) _ h.1.1 (array_so (SaysTerm (rule_of stated)) IsTermOfWord (term_so (rule_of stated)) _ _ terms) in
    (so.0, so.1, so.2, plan_so cells plan d h.1.2)
event_so cells stated from to (Lookup id plan) d h =
    (member (get (codes "id") d) _ h.1.1 (λ e p. p.1), plan_so cells plan d h.1.2)
event_so cells stated from to (Audit plan) d h = plan_so cells plan d h.1.1
event_so cells stated from to (Recover plan) d h = plan_so cells plan d h.1.1
event_so cells stated from to (Foreign at cell) d h = member (get (codes "at") d) _ h.1.1 (λ e p. p.1)
event_so cells stated from to (Crash keep) d h =
    member (get (codes "keep") d) _ h.1.1
    (λ e p. member (as_array e) _ p (λ ds q. omega (arith, q.1, items_long _ keep ds q.2)))

pub scripts_are_in_limits : ScriptsAreInLimits
scripts_are_in_limits text script h =
    let cells =
    member {C = (1 ≤ script.cells) × (script.cells ≤ MAX_SCRIPT_CELLS)} (get (codes "cells") h.2.0) _ h.2.2.1
    (λ e p. (p.1, p.2)) in
    let version = version_so h.0 (get (codes "version") h.2.0) h.2.2.2 in
    let says = SaysEvent script.cells h.0 in
    record {
      some = cells.0;
      most = cells.1;
      few = omega (arith, h.2.2.4, items_long says script.events h.1 h.3);
      each = items_all says (IsEventOn script.cells) (event_so script.cells h.0 version.0 version.1) script.events h.1 h.3;
    }
