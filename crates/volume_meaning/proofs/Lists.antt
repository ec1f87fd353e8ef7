-- Two lists whose keys rise and which have the same members are one; so a volume has one list of its documents.
use Rattle.std.proofs.Common.{◌≡◌, ◌≤◌, ◌+◌, ◌⊎◌, ⊎_elim, inl, inr, ℕ, suc, zero, List, [], ◌∷◌, refl, sym, ap, ◌∙◌, subst, arith}
use Rattle.std.specs.Prelude.{Contains}
use Rattle.cell_types.specs.Image.{Image}
use Rattle.volume_meaning.specs.Documents.{Document, Rise, AreDocuments}

-- each key is greater than the one before it, and all are from this one on
abbrev pub Rising : {A : Type 0} → (A → ℕ) → ℕ → List A → Type 0
Rising key from [] = Unit {0}
Rising key from (d ∷ ds) = (from ≤ key d) × Rising key (key d + 1) ds

-- each member of the first is one of the second
abbrev pub Within : {A : Type 0} → List A → List A → Type 0
Within {A} ds es = (x : A) → Contains ds x → Contains es x

-- a member is the first, or one of the rest
among : {A : Type 0} → (d : A) (ds : List A) (x : A) → Contains (d ∷ ds) x → (d ≡ x) ⊎ Contains ds x
among d ds x (zero, low, is) = inl is
among d ds x (suc k, low, is) = inr (k, omega (arith, low), is)

-- the first is a member
head_in : {A : Type 0} → (d : A) (ds : List A) → Contains (d ∷ ds) d
head_in d ds = (zero, omega arith, refl)

-- and so is each of the rest
rest_in : {A : Type 0} → (d : A) (ds : List A) (x : A) → Contains ds x → Contains (d ∷ ds) x
rest_in d ds x (k, low, is) = (suc k, omega (arith, low), is)

-- a list that rises from a number has no lower key
from_on : {A : Type 0} → (key : A → ℕ) (from : ℕ) (ds : List A) → Rising key from ds → (x : A) → Contains ds x
    → from ≤ key x
from_on key from [] rise x (k, low, is) = absurd (omega (arith, low))
from_on {A} key from (d ∷ ds) rise x has = ⊎_elim
    (λ (same : d ≡ x). subst (λ (e : A). from ≤ key e) same rise.0)
    (λ (rest : Contains ds x). let h : key d + 1 ≤ key x = from_on key
    (key d + 1) ds rise.1 x rest in let g = rise.0 in omega arith)
    (among d ds x has)

-- without equal heads
rest_within : {A : Type 0} → (key : A → ℕ) (d : A) (ds es : List A) → Rising key (key d + 1) ds
    → Within (d ∷ ds) (d ∷ es) → Within ds es
rest_within key d ds es rise within x has = ⊎_elim
    (λ (same : d ≡ x).
    let above : key d + 1 ≤ key x = from_on key (key d + 1) ds rise x has in
    let e : key d ≡ key x = ap key same in absurd (omega arith))
    (λ rest. rest)
    (among d es x (within x (rest_in d ds x has)))

heads_same : {A : Type 0} → (key : A → ℕ) (from : ℕ) (d : A) (ds : List A) (e : A) (es : List A)
    → Rising key from (d ∷ ds) → Rising key from (e ∷ es) → Within (d ∷ ds) (e ∷ es) → Within (e ∷ es) (d ∷ ds) → d ≡ e
heads_same key from d ds e es p q f g = ⊎_elim
    (λ (same : e ≡ d). sym same)
    (λ (behind : Contains es d).
    let low : key e + 1 ≤ key d = from_on key (key e + 1) es q.1 d behind in
    ⊎_elim
    (λ (same : d ≡ e). same)
    (λ (after : Contains ds e). let high : key d + 1 ≤ key e = from_on key
    (key d + 1) ds p.1 e after in absurd (omega arith))
    (among d ds e (g e (head_in e es))))
    (among e es d (f d (head_in d ds)))

pub one_list : {A : Type 0} → (key : A → ℕ) (from : ℕ) (ds es : List A) → Rising key from ds → Rising key from es
    → Within ds es → Within es ds → ds ≡ es
one_list key from [] [] p q f g = refl
one_list key from [] (e ∷ es) p q f g = absurd (let h = g e (head_in e es) in omega (arith, h.1))
one_list key from (d ∷ ds) [] p q f g = absurd (let h = f d (head_in d ds) in omega (arith, h.1))
one_list {A} key from (d ∷ ds) (e ∷ es) p q f g =
    let same : d ≡ e = heads_same key from d ds e es p q f g in
    let q' : Rising key from (d ∷ es) = subst (λ (x : A). Rising key from (x ∷ es)) (sym same) q in
    let f' : Within (d ∷ ds) (d ∷ es) = subst (λ (x : A). Within (d ∷ ds) (x ∷ es)) (sym same) f in
    let g' : Within (d ∷ es) (d ∷ ds) = subst (λ (x : A). Within (x ∷ es) (d ∷ ds)) (sym same) g in
    ap (λ (l : List A). d ∷ l) (one_list key (key d + 1) ds es p.1 q'.1 (rest_within key d ds es p.1 f')
    (rest_within key d es ds q'.1 g'))
    ∙ ap (λ (x : A). x ∷ es) same

-- documents by slot
by_slot : (from : ℕ) (ds : List Document) → Rise from ds → Rising (λ (d : Document). d.slot) from ds
by_slot from [] rise = tt
by_slot from (d ∷ ds) rise = (rise.0, by_slot (d.slot + 1) ds rise.1)

pub lists_one : (cells : ℕ) (image : Image) (one other : List Document) → AreDocuments cells image one
    → AreDocuments cells image other → one ≡ other
lists_one cells image one other a b =
    one_list (λ (d : Document). d.slot) 0 one other (by_slot 0 one a.rise) (by_slot 0 other b.rise)
    (λ x has. (b.each x).0 ((a.each x).1 has)) (λ x has. (a.each x).0 ((b.each x).1 has))
