-- Lists of items, one by one.
use Rattle.std.proofs.Common.{◌≡◌, ◌<◌, ◌+◌, ℕ, zero, suc, List, [], ◌∷◌, ◌++◌, Option, Some, None, length, take, get_or, refl, ap, sym, subst, ◌∙◌, arith}
use Rattle.std.proofs.Math.Seq.{take-suc}
use Rattle.serde_json.specs.Data.{Data}
use Rattle.serde_json.specs.Events.{items_len}
use Rattle.serde_json.specs.View.{view, items_view}
use Rattle.serde_json.specs.declared.value.Value.{Value}
use Rattle.script_events.specs.Json.{AreItems, Exactly, IsFirstOther}

pub items_counted : (vs : List Value) → items_len (items_view vs) ≡ length vs
items_counted [] = refl
items_counted (v ∷ vs) = ap suc (items_counted vs)

appended : {A : Type 0} (R : A → Data → Type 0) (xs : List A) (vs : List Value) (x : A) (v : Value)
    → AreItems R xs (items_view vs) → R x (view v) → AreItems R (xs ++ x ∷ []) (items_view (vs ++ v ∷ []))
appended R [] [] x v are is = (is, tt)
appended R [] (w ∷ vs) x v are is = absurd are
appended R (y ∷ xs) [] x v are is = absurd are
appended R (y ∷ xs) (w ∷ vs) x v are is = (are.0, appended R xs vs x v are.1 is)

-- one item more
pub one_more : {A : Type 0} (R : A → Data → Type 0) (xs ys : List A) (vs : List Value) (i : ℕ) (x : A) (v : Value)
    → i < length vs → v ≡ get_or vs i v → AreItems R xs (items_view (take i vs)) → R x (view v) → ys ≡ xs ++ x ∷ []
    → AreItems R ys (items_view (take (i + 1) vs))
one_more R xs ys vs i x v within is are next more =
    let one : i + 1 ≡ suc i = omega arith in
    let cut : take (i + 1) vs ≡ take i vs ++ v ∷ [] = ap (λ n. take n vs) one ∙ take-suc vs i v within ∙ ap (λ w. take i vs ++ w ∷ []) (sym is) in
    rw (more, cut) (appended R xs (take i vs) x v are next)

none_at : {A : Type 0} (R : A → Data → Type 0) (xs : List A) (vs : List Value) (i : ℕ) (d : Value)
    → i < length vs → ((x : A) → R x (view (get_or vs i d)) → ⊥) → AreItems R xs (items_view vs) → ⊥
none_at R [] [] i d within none are = absurd (omega arith)
none_at R [] (v ∷ vs) i d within none are = absurd are
none_at R (x ∷ xs) [] i d within none are = absurd are
none_at R (x ∷ xs) (v ∷ vs) zero d within none are = none x are.0
none_at R (x ∷ xs) (v ∷ vs) (suc i) d within none are = none_at R xs vs i d (omega arith) none are.1

-- where one item is none, the items are none
pub none_such : {A : Type 0} (R : A → Data → Type 0) (found : Option A) (xs : List A) (vs ws : List Value) (i : ℕ) (v : Value)
    → i < length ws → v ≡ get_or ws i v → vs ≡ ws → ((y : A) → found ≡ Some y → ⊥) → Exactly (λ x. R x (view v)) found → AreItems R xs (items_view vs) → ⊥
none_such R (Some x) xs vs ws i v within is same none exact are = absurd (none x refl)
none_such R None xs vs ws i v within is same none exact are =
    none_at R xs ws i v within (λ x h. exact x (subst (λ w. R x (view w)) (sym is) h)) (subst (λ us. AreItems R xs (items_view us)) same are)

-- what was found is such
pub is_such : {A : Type 0} (P : A → Type 0) (found : Option A) (x : A) → Exactly P found → found ≡ Some x → P x
is_such P found x exact is = subst (Exactly P) is exact

first_at : {A : Type 0} (R : A → Data → Type 0) (xs : List A) (vs : List Value) (i : ℕ) (d : Value)
    → i < length vs → AreItems R xs (items_view (take i vs)) → ((x : A) → R x (view (get_or vs i d)) → ⊥) → IsFirstOther R (suc i) (items_view vs)
first_at R xs [] i d within are none = absurd (omega arith)
first_at R xs (w ∷ vs) zero d within are none = none
first_at R [] (w ∷ vs) (suc i) d within are none = absurd are
first_at R (x ∷ xs) (w ∷ vs) (suc i) d within are none = ((x, are.0), first_at R xs vs i d (omega arith) are.1 none)

-- the first that is none
pub first_other : {A : Type 0} (R : A → Data → Type 0) (found : Option A) (xs : List A) (vs ws : List Value) (i n : ℕ) (v : Value)
    → i < length ws → v ≡ get_or ws i v → vs ≡ ws → AreItems R xs (items_view (take i ws)) → ((y : A) → found ≡ Some y → ⊥) → Exactly (λ x. R x (view v)) found
    → n ≡ suc i → IsFirstOther R n (items_view vs)
first_other R (Some x) xs vs ws i n v within is same are none exact count = absurd (none x refl)
first_other R None xs vs ws i n v within is same are none exact count =
    rw (count, same) (first_at R xs ws i v within are (λ x h. exact x (subst (λ w. R x (view w)) (sym is) h)))
