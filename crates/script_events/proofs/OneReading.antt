-- A value says one thing at most: one number, one moment, one plan, one event.
use Rattle.std.proofs.Common.{◌≡◌, ℕ, List, [], ◌∷◌, Option, Some, None, Result, Ok, MatchOption, codes, get_or, refl, ap, sym, ◌∙◌, subst}
use Rattle.serde_json.specs.Data.{Data, number, string, unsigned, Items, no_items, item}
use Rattle.serde_json.specs.Find.{get, as_array, as_str}
use Rattle.volume_meaning.specs.Words.{rule_of}
use Rattle.volume_meaning.specs.declared.word_rules.WordRule.{WordRule}
use Rattle.volume_meaning.proofs.Words.{words_are_one}
use Rattle.worm_memory.specs.declared.moment.Moment.{Moment}
use Rattle.worm_memory.specs.declared.moment.Moment.TheVariants.{Step, Call}
use Rattle.script_events.proofs.OneKind.{two_texts}
use Rattle.script_events.specs.Grammar.{SaysBody, SaysBytes, SaysCell, SaysEvent, SaysIdentifier, SaysMoment, SaysPlan, SaysSeconds, SaysTerm, SaysTimed}
use Rattle.script_events.specs.Json.{AreItems, HasMember, IsArrayOf, IsNumberBelow, IsNumberIn, MayHaveMember}
use Rattle.script_events.specs.declared.event.Event.{Event}
use Rattle.script_events.specs.declared.event.Event.TheVariants.{Format, Ingest, Find, Lookup, Audit, Recover, Foreign, Crash}
use Rattle.script_events.specs.declared.event.Schedule.{Schedule}
use Rattle.script_events.specs.declared.event.Timed.{Timed}

-- the number that a value is
abbrev unsigned_in : Data → ℕ
unsigned_in (number (unsigned n)) = n
unsigned_in d = 0

-- the text that a value is
abbrev string_in : Data → List ℕ
string_in (string text) = text
string_in d = []

-- the bytes that were decoded
abbrev decoded_in : {E : Type 0} → Option (Result (List ℕ) E) → List ℕ
decoded_in (Some (Ok bytes)) = bytes
decoded_in o = []

-- what two sentences say of one member
pub both : {A : Type 0} {C : Type 0} (o : Option A) (P Q : A → Type 0) → MatchOption o ⊥ P → MatchOption o ⊥ Q
    → ((x : A) → P x → Q x → C) → C
both None P Q p q f = absurd p
both (Some x) P Q p q f = f x p q

-- a member that is absent says nothing
absent : {A : Type 0} {C : Type 0} (o : Option A) (P : A → Type 0) → o ≡ None → MatchOption o ⊥ P → C
absent o P none p = absurd (subst (λ a. MatchOption a ⊥ P) none p)

pub number_one : (least most a b : ℕ) (d : Data) → IsNumberIn least most a d → IsNumberIn least most b d → a ≡ b
number_one least most a b d h k = ap unsigned_in (sym h.0 ∙ k.0)

below_one : (end a b : ℕ) (d : Data) → IsNumberBelow end a d → IsNumberBelow end b d → a ≡ b
below_one end a b d h k = ap unsigned_in (sym h.0 ∙ k.0)

moment_one : (a b : Moment) (d : Data) → SaysMoment a d → SaysMoment b d → a ≡ b
moment_one (Step m) (Step n) d h k = ap Step (both (get (codes "step") d) _ _ h.2 k.2 (λ e p q. number_one _ _ m n e p q))
moment_one (Step m) (Call n) d h k = absent (get (codes "call") d) _ h.1 k.2
moment_one (Call m) (Step n) d h k = absent (get (codes "step") d) _ h.1 k.2
moment_one (Call m) (Call n) d h k = ap Call (both (get (codes "call") d) _ _ h.2 k.2 (λ e p q. number_one _ _ m n e p q))

cell_one : (a b : List ℕ) (d : Data) → SaysCell a d → SaysCell b d → a ≡ b
cell_one a b d h k = ap decoded_in (sym h.0 ∙ k.0)

abbrev timed_of : Moment → ℕ → List ℕ → Timed
timed_of moment at cell = record { before = moment; at = at; cell = cell }

timed_one : (cells : ℕ) (a b : Timed) (d : Data) → SaysTimed cells a d → SaysTimed cells b d → a ≡ b
timed_one cells a b d h k =
    let moments : a.before ≡ b.before = both (get (codes "before") d) _ _ h.1 k.1 (λ e p q. moment_one _ _ e p q) in
    let ats : a.at ≡ b.at = both (get (codes "at") d) _ _ h.2 k.2 (λ e p q. below_one cells _ _ e p q) in
    let values : a.cell ≡ b.cell = both (get (codes "cell") d) _ _ h.3 k.3 (λ e p q. cell_one _ _ e p q) in
    ap (λ m. timed_of m a.at a.cell) moments ∙ ap (λ n. timed_of b.before n a.cell) ats ∙ ap (timed_of b.before b.at) values

pub items_one : {A : Type 0} (R : A → Data → Type 0) → ((a b : A) (d : Data) → R a d → R b d → a ≡ b)
    → (xs ys : List A) (ds : Items) → AreItems R xs ds → AreItems R ys ds → xs ≡ ys
items_one R one [] [] no_items h k = refl
items_one R one [] [] (item d ds) h k = absurd h
items_one R one [] (y ∷ ys) no_items h k = absurd k
items_one R one [] (y ∷ ys) (item d ds) h k = absurd h
items_one R one (x ∷ xs) [] no_items h k = absurd h
items_one R one (x ∷ xs) [] (item d ds) h k = absurd k
items_one R one (x ∷ xs) (y ∷ ys) no_items h k = absurd h
items_one R one (x ∷ xs) (y ∷ ys) (item d ds) h k =
    ap (λ z. z ∷ xs) (one x y d h.0 k.0) ∙ ap (λ zs. y ∷ zs) (items_one R one xs ys ds h.1 k.1)

array_one : {A : Type 0} (R : A → Data → Type 0) → ((a b : A) (d : Data) → R a d → R b d → a ≡ b)
    → (least most : ℕ) (xs ys : List A) (d : Data) → IsArrayOf R least most xs d → IsArrayOf R least most ys d → xs ≡ ys
array_one R one least most xs ys d h k = both (as_array d) _ _ h k (λ ds p q. items_one R one xs ys ds p.2 q.2)

may_one : {A : Type 0} (name : List ℕ) (R : A → Data → Type 0) → ((a b : A) (d : Data) → R a d → R b d → a ≡ b)
    → (a b : Option A) (d : Data) → MayHaveMember name R a d → MayHaveMember name R b d → a ≡ b
may_one name R one None None d h k = refl
may_one name R one None (Some y) d h k = absent (get name d) _ h k
may_one name R one (Some x) None d h k = absent (get name d) _ k h
may_one name R one (Some x) (Some y) d h k = ap Some (both (get name d) _ _ h k (λ e p q. one x y e p q))

found_one : {A : Type 0} (R : A → Data → Type 0) → ((a b : A) (d : Data) → R a d → R b d → a ≡ b)
    → (most : ℕ) (xs ys : List A) (o : Option Data) → MatchOption o (xs ≡ []) (IsArrayOf R 0 most xs)
    → MatchOption o (ys ≡ []) (IsArrayOf R 0 most ys) → xs ≡ ys
found_one R one most xs ys None h k = h ∙ sym k
found_one R one most xs ys (Some e) h k = array_one R one 0 most xs ys e h k

abbrev plan_with : Option Moment → List Moment → List Timed → Schedule
plan_with stop fail foreign = record { stop = stop; fail = fail; foreign = foreign }

plan_one : (cells : ℕ) (a b : Schedule) (d : Data) → SaysPlan cells a d → SaysPlan cells b d → a ≡ b
plan_one cells a b d h k =
    let stops : a.stop ≡ b.stop = may_one (codes "stop") SaysMoment moment_one _ _ d h.0 k.0 in
    let fails : a.fail ≡ b.fail = found_one SaysMoment moment_one _ _ _ (get (codes "fail") d) h.1 k.1 in
    let others : a.foreign ≡ b.foreign = found_one (SaysTimed cells) (timed_one cells) _ _ _ (get (codes "foreign") d) h.2 k.2 in
    ap (λ s. plan_with s a.fail a.foreign) stops ∙ ap (λ f. plan_with b.stop f a.foreign) fails ∙ ap (plan_with b.stop b.fail) others

identifier_one : (a b : List ℕ) (d : Data) → SaysIdentifier a d → SaysIdentifier b d → a ≡ b
identifier_one a b d h k = ap string_in (sym h.0 ∙ k.0)

term_one : (rule : WordRule) (a b : List ℕ) (d : Data) → SaysTerm rule a d → SaysTerm rule b d → a ≡ b
term_one rule a b d h k =
    both (as_str d) _ _ h k
    (λ word p q. ap (λ terms. get_or terms 0 a) (words_are_one.one rule word (a ∷ []) p ∙ sym (words_are_one.one rule word (b ∷ []) q)))

body_by : (a b : List ℕ) (d : Data) (o : Option Data)
    → MatchOption o (HasMember (codes "hex") (SaysBytes a) d) (λ e. (get (codes "hex") d ≡ None) × (e ≡ string a))
    → MatchOption o (HasMember (codes "hex") (SaysBytes b) d) (λ e. (get (codes "hex") d ≡ None) × (e ≡ string b))
    → a ≡ b
body_by a b d None h k = both (get (codes "hex") d) _ _ h k (λ e p q. ap decoded_in (sym p ∙ q))
body_by a b d (Some e) h k = ap string_in (sym h.1 ∙ k.1)

body_one : (a b : List ℕ) (d : Data) → SaysBody a d → SaysBody b d → a ≡ b
body_one a b d h k = body_by a b d (get (codes "body") d) h.1 k.1

member_number : (name : List ℕ) (least most a b : ℕ) (d : Data) → HasMember name (IsNumberIn least most a) d
    → HasMember name (IsNumberIn least most b) d → a ≡ b
member_number name least most a b d h k = both (get name d) _ _ h k (λ e p q. number_one least most a b e p q)

member_identifier : (a b : List ℕ) (d : Data) → HasMember (codes "id") (SaysIdentifier a) d
    → HasMember (codes "id") (SaysIdentifier b) d → a ≡ b
member_identifier a b d h k = both (get (codes "id") d) _ _ h k (λ e p q. identifier_one a b e p q)

pub event_one : (cells stated : ℕ) (a b : Event) (d : Data) → SaysEvent cells stated a d → SaysEvent cells stated b d
    → a ≡ b
event_one cells stated (Format s l v p) (Format t m w q) d h k =
    ap (λ x. Format x l v p) (member_number (codes "slots") _ _ s t d h.1.1.1 k.1.1.1)
    ∙ ap (λ x. Format t x v p) (member_number (codes "lists") _ _ l m d h.1.1.2 k.1.1.2)
    ∙ ap (λ x. Format t m x p) (h.1.0 ∙ sym k.1.0)
    ∙ ap (Format t m w) (plan_one cells p q d h.1.1.3 k.1.1.3)
event_one cells stated (Ingest i s b p) (Ingest j t c q) d h k =
    ap (λ x. Ingest x s b p) (member_identifier i j d h.1.1 k.1.1)
    ∙ ap (λ x. Ingest j x b p) (may_one (codes "stamp") SaysSeconds (number_one _ _) s t d h.1.2 k.1.2)
    ∙ ap (λ x. Ingest j t x p) (body_one b c d h.1.3 k.1.3)
    ∙ ap (Ingest j t c) (plan_one cells p q d h.1.4 k.1.4)
event_one cells stated (Find t p) (Find u q) d h k =
    ap (λ x. Find x p) (both (get (codes "words") d) _ _ h.1.1 k.1.1 (λ e a b. array_one (SaysTerm (rule_of stated)) (term_one (rule_of stated)) _ _ t u e a b))
    ∙ ap (Find u) (plan_one cells p q d h.1.2 k.1.2)
event_one cells stated (Lookup i p) (Lookup j q) d h k =
    ap (λ x. Lookup x p) (member_identifier i j d h.1.1 k.1.1) ∙ ap (Lookup j) (plan_one cells p q d h.1.2 k.1.2)
event_one cells stated (Audit p) (Audit q) d h k = ap Audit (plan_one cells p q d h.1.1 k.1.1)
event_one cells stated (Recover p) (Recover q) d h k = ap Recover (plan_one cells p q d h.1.1 k.1.1)
event_one cells stated (Foreign m a) (Foreign n b) d h k =
    ap (λ x. Foreign x a) (both (get (codes "at") d) _ _ h.1.1 k.1.1 (λ e p q. below_one cells m n e p q))
    ∙ ap (Foreign n) (both (get (codes "cell") d) _ _ h.1.2 k.1.2 (λ e p q. cell_one a b e p q))
event_one cells stated (Crash a) (Crash b) d h k =
    ap Crash (both (get (codes "keep") d) _ _ h.1.1 k.1.1 (λ e p q. array_one (IsNumberIn _ _) (number_one _ _) _ _ a b e p q))
event_one cells stated a b d h k = absurd (two_texts _ _ _ h.0 k.0 refl)
