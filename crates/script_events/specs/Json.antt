-- What the grammar of scripts says of JSON values, whatever they are for.
use Rattle.std.specs.Prelude.{◌≡◌, ◌<◌, ◌≤◌, ◌||◌, ◌&&◌, ℕ, suc, zero, Bool, true, false, List, [], ◌∷◌, Option, Some, None, MatchOption, option_map, unwrap_or, ⊤}
use Rattle.std.specs.Str.{bytes_eq}
use Rattle.serde_json.specs.Data.{Data, number, unsigned, Items, no_items, item, Members, no_members, member}
use Rattle.serde_json.specs.Find.{get, as_object, as_array}
use Rattle.serde_json.specs.Events.{items_len}

-- what is found is such, and None stands exactly where nothing is
abbrev pub Exactly : {A : Type 0} → (A → Type 0) → Option A → Type 0
Exactly P (Some x) = P x
Exactly {A} P None = (x : A) → P x → ⊥

-- the name is one of these
abbrev pub is_name_of : List (List ℕ) → List ℕ → Bool
is_name_of [] name = false
is_name_of (other ∷ names) name = bytes_eq name other || is_name_of names name

-- each member has one of these names
abbrev pub are_named_so : List (List ℕ) → Members → Bool
are_named_so names no_members = true
are_named_so names (member name d ms) = is_name_of names name && are_named_so names ms

-- an object with members of these names alone
abbrev pub is_object_of : List (List ℕ) → Data → Bool
is_object_of names d = unwrap_or (option_map (are_named_so names) (as_object d)) false

-- there is a member of this name, and it is such
abbrev pub HasMember : List ℕ → (Data → Type 0) → Data → Type 0
HasMember name P d = MatchOption (get name d) ⊥ P

-- The member of this name, where there is one. A repeated member is as the value has it, which is its last.
abbrev pub MayHaveMember : {A : Type 0} → List ℕ → (A → Data → Type 0) → Option A → Data → Type 0
MayHaveMember name R None d = get name d ≡ None
MayHaveMember name R (Some x) d = HasMember name (R x) d

-- a whole number without sign, point or exponent, in range
abbrev pub IsNumberIn : ℕ → ℕ → ℕ → Data → Type 0
IsNumberIn least most n d = (d ≡ number (unsigned n)) × (least ≤ n) × (n ≤ most)

-- such a number below this one
abbrev pub IsNumberBelow : ℕ → ℕ → Data → Type 0
IsNumberBelow end n d = (d ≡ number (unsigned n)) × (n < end)

-- the items are these, one by one
abbrev pub AreItems : {A : Type 0} → (A → Data → Type 0) → List A → Items → Type 0
AreItems R [] no_items = ⊤
AreItems R [] (item d ds) = ⊥
AreItems R (x ∷ xs) no_items = ⊥
AreItems R (x ∷ xs) (item d ds) = R x d × AreItems R xs ds

-- the item of this number, from 1, is the first that is none of these
abbrev pub IsFirstOther : {A : Type 0} → (A → Data → Type 0) → ℕ → Items → Type 0
IsFirstOther R n no_items = ⊥
IsFirstOther R zero (item d ds) = ⊥
IsFirstOther {A} R (suc zero) (item d ds) = (x : A) → R x d → ⊥
IsFirstOther {A} R (suc (suc n)) (item d ds) = ((x : A) × R x d) × IsFirstOther R (suc n) ds

-- an array of these, of so many at least and so many at most
abbrev pub IsArrayOf : {A : Type 0} → (A → Data → Type 0) → ℕ → ℕ → List A → Data → Type 0
IsArrayOf R least most xs d =
    MatchOption (as_array d) ⊥ (λ ds. (least ≤ items_len ds) × (items_len ds ≤ most) × AreItems R xs ds)

-- the array that the member of this name is, where there is one, and else no items
abbrev pub HasArray : {A : Type 0} → List ℕ → (A → Data → Type 0) → ℕ → List A → Data → Type 0
HasArray name R most xs d = MatchOption (get name d) (xs ≡ []) (IsArrayOf R 0 most xs)
