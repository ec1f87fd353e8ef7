-- Rows that are made one by one.
use Rattle.std.proofs.Common.{◌≡◌, ◌+◌, ℕ, suc, List, [], ◌∷◌, ◌++◌, map, sym, ap, ◌∙◌, arith}
use Rattle.std.proofs.Common.{append-nil, append_assoc}
use Rattle.std.proofs.lemmas.List.FromFn.{map-range_with_len_more}
use Rattle.std.specs.List.{flat_map, range_with_len}

-- nothing was added yet
pub none_yet : {A : Type 0} (f : ℕ → A) (before : List A) → before ≡ before ++ map f (range_with_len 0 0)
none_yet f before = sym (append-nil before)

-- one more was added
pub one_more : {A : Type 0} (f : ℕ → A) (before so_far now : List A) (i : ℕ) (x : A) → now ≡ so_far ++ x ∷ [] → x ≡ f i
    → so_far ≡ before ++ map f (range_with_len 0 i) → now ≡ before ++ map f (range_with_len 0 (i + 1))
one_more f before so_far now i x is x_is so_far_is =
    is ∙ ap (λ (l : List _). l ++ x ∷ []) so_far_is ∙ ap (λ (y : _). (before ++ map f (range_with_len 0 i)) ++ y ∷ []) x_is
    ∙ append_assoc before (map f (range_with_len 0 i)) (f i ∷ [])
    ∙ ap (λ (l : List _). before ++ l) (sym (map-range_with_len_more f 0 i i (omega arith)))

-- one piece goes over from those that are left
one_over : {A : Type 0} (f : ℕ → List A) (done whole : List A) (at left more : ℕ) → left ≡ suc more
    → done ++ flat_map f (range_with_len at left) ≡ whole
    → (done ++ f at) ++ flat_map f (range_with_len (at + 1) more) ≡ whole
one_over f done whole at left more is so_far =
    append_assoc done (f at) (flat_map f (range_with_len (at + 1) more))
    ∙ sym (ap (λ (n : ℕ). done ++ flat_map f (range_with_len at n)) is) ∙ so_far

-- one word goes over, behind a space
pub one_word_over : (f : ℕ → List ℕ) (done whole word : List ℕ) (at left more : ℕ) → left ≡ suc more
    → done ++ flat_map (λ j. 32 ∷ f j) (range_with_len at left) ≡ whole → word ≡ f at
    → ((done ++ 32 ∷ []) ++ word) ++ flat_map (λ j. 32 ∷ f j) (range_with_len (at + 1) more) ≡ whole
one_word_over f done whole word at left more is so_far word_is =
    ap (λ (l : List ℕ). l ++ flat_map (λ j. 32 ∷ f j) (range_with_len (at + 1) more))
    (append_assoc done (32 ∷ []) word ∙ ap (λ (w : List ℕ). done ++ 32 ∷ w) word_is)
    ∙ one_over (λ j. 32 ∷ f j) done whole at left more is so_far

-- five rows behind a first element, pushed one after another
pub rows_joined : {A : Type 0} (first last : A) (a b c d : List A) (e0 e1 e2 e3 e4 e5 e6 : List A) → e0 ≡ []
    → e1 ≡ e0 ++ first ∷ [] → e2 ≡ e1 ++ a → e3 ≡ e2 ++ b → e4 ≡ e3 ++ c → e5 ≡ e4 ++ d → e6 ≡ e5 ++ last ∷ []
    → e6 ≡ first ∷ (a ++ (b ++ (c ++ (d ++ last ∷ []))))
rows_joined first last a b c d e0 e1 e2 e3 e4 e5 e6 none p1 p2 p3 p4 p5 p6 =
    p6 ∙ ap (λ (l : List _). l ++ last ∷ []) (p5 ∙ ap (λ (l : List _). l ++ d) (p4 ∙ ap (λ (l : List _). l ++ c)
    (p3 ∙ ap (λ (l : List _). l ++ b) (p2 ∙ ap (λ (l : List _). l ++ a) (p1 ∙ ap (λ (l : List _). l ++ first ∷ []) none)))))
    ∙ append_assoc (((first ∷ a) ++ b) ++ c) d (last ∷ []) ∙ append_assoc ((first ∷ a) ++ b) c (d ++ last ∷ [])
    ∙ append_assoc (first ∷ a) b (c ++ (d ++ last ∷ []))
