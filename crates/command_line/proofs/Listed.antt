-- Lists of so many elements, by the elements that were read.
use Rattle.std.proofs.Common.{◌≡◌, List, [], ◌∷◌, Option, Some, None, length, get_or, sym, arith}
use Rattle.std.specs.Prelude.{IfNone}

-- a list of one is the one that was read
pub one : {A : Type 0} (xs : List A) (x : A) → length xs ≡ 1 → x ≡ get_or xs 0 x → xs ≡ x ∷ []
one (a ∷ []) x n p = let e : a ≡ x = sym p in cc
one [] x n p = absurd (omega arith)
one (a ∷ b ∷ xs) x n p = absurd (omega arith)

-- and a list of two is the two that were read
pub two : {A : Type 0} (xs : List A) (x y : A) → length xs ≡ 2 → x ≡ get_or xs 0 x → y ≡ get_or xs 1 y → xs ≡ x ∷ y ∷ []
two (a ∷ b ∷ []) x y n p q = let e : a ≡ x = sym p in let f : b ≡ y = sym q in cc
two [] x y n p q = absurd (omega arith)
two (a ∷ []) x y n p q = absurd (omega arith)
two (a ∷ b ∷ d ∷ xs) x y n p q = absurd (omega arith)

-- and a list of three is the three
pub three : {A : Type 0} (xs : List A) (x y z : A) → length xs ≡ 3 → x ≡ get_or xs 0 x → y ≡ get_or xs 1 y
    → z ≡ get_or xs 2 z → xs ≡ x ∷ y ∷ z ∷ []
three (a ∷ b ∷ d ∷ []) x y z n p q r = let e : a ≡ x = sym p in let f : b ≡ y = sym q in let h : d ≡ z = sym r in cc
three [] x y z n p q r = absurd (omega arith)
three (a ∷ []) x y z n p q r = absurd (omega arith)
three (a ∷ b ∷ []) x y z n p q r = absurd (omega arith)
three (a ∷ b ∷ d ∷ e ∷ xs) x y z n p q r = absurd (omega arith)

-- lists of three that are the same have the same first, second and third
pub first_of_three : {A : Type 0} (a b c x y z : A) → a ∷ b ∷ c ∷ [] ≡ x ∷ y ∷ z ∷ [] → a ≡ x
first_of_three a b c x y z e = cc

pub second_is : {A : Type 0} (a b c x y z : A) → a ∷ b ∷ c ∷ [] ≡ x ∷ y ∷ z ∷ [] → b ≡ y
second_is a b c x y z e = cc

pub third_is : {A : Type 0} (a b c x y z : A) → a ∷ b ∷ c ∷ [] ≡ x ∷ y ∷ z ∷ [] → c ≡ z
third_is a b c x y z e = cc

-- lists of two that are the same have the same first and second
pub front_is : {A : Type 0} (a b x y : A) → a ∷ b ∷ [] ≡ x ∷ y ∷ [] → a ≡ x
front_is a b x y e = cc

pub last_is : {A : Type 0} (a b x y : A) → a ∷ b ∷ [] ≡ x ∷ y ∷ [] → b ≡ y
last_is a b x y e = cc

-- and of one the same
pub first_is : {A : Type 0} (a x : A) → a ∷ [] ≡ x ∷ [] → a ≡ x
first_is a x e = cc

-- what holds anyway holds where there is none
pub if_none : {A : Type 0} (o : Option A) {P : Type 0} → P → IfNone o P
if_none None p = p
if_none (Some a) p = tt

-- and where what holds for none leads on, what it leads to holds for none
pub if_none_then : {A : Type 0} (o : Option A) {P Q : Type 0} → (P → Q) → IfNone o P → IfNone o Q
if_none_then None f p = f p
if_none_then (Some a) f p = tt
