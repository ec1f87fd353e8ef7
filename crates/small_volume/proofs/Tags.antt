-- The tags of `hello world`: two in list 0, and none in list 1.
use Rattle.std.proofs.Common.{◌≡◌, ◌<◌, ◌≤◌, ◌%◌, ◌⊎◌, ⊎_elim, inl, inr, ℕ, suc, zero, List, [], ◌∷◌, Some, refl, sym, ◌∙◌, subst, ap, arith, codes, length, take, drop}
use Rattle.std.specs.Prelude.{Contains, slice_get}
use Rattle.std.proofs.lemmas.Option.{none-some}
use Rattle.byteorder.specs.Endian.{big_number}
use Rattle.volume_meaning.specs.Words.{words_of, HasWord}
use Rattle.volume_meaning.specs.declared.word_rules.WordRule.TheVariants.{Ascii}
use Rattle.volume_meaning.proofs.Holding.{some_is}
use Rattle.volume_meaning.proofs.Words.{words_are_one}
use Rattle.volume_meaning.specs.Postings.{tag_of, list_of, HasTag, AreTags, HasPostings}
use Rattle.small_volume.specs.SmallVolume.{small_layout, hello_tag, world_tag}
use Rattle.small_volume.proofs.Digests.{sha256_of_hello, sha256_of_world}

-- the body's words
words : words_of Ascii (codes "hello world") ≡ codes "hello" ∷ codes "world" ∷ []
unfolding words_of
words = refl

-- a member of a row of two is one of these
one_of_two : (a b x : List ℕ) → Contains (a ∷ b ∷ []) x → (x ≡ a) ⊎ (x ≡ b)
one_of_two a b x (zero, low, is) = inl (sym is)
one_of_two a b x (suc zero, low, is) = inr (sym is)
one_of_two a b x (suc (suc k), low, is) = absurd (omega (arith, low))

-- each word of the body is one of the two
pub word_is : (word : List ℕ) → HasWord Ascii (codes "hello world") word
    → (word ≡ codes "hello") ⊎ (word ≡ codes "world")
word_is word h =
    let all : h.words ≡ codes "hello" ∷ codes "world" ∷ [] =
    words_are_one.one Ascii (codes "hello world") h.words h.are ∙ words in
    one_of_two (codes "hello") (codes "world") word (subst (λ (ws : List (List ℕ)). Contains ws word) all h.among)

-- the list of `hello` is list 0
hello_list : list_of 2 (codes "hello") ≡ 0
hello_list = ap (λ (d : List ℕ). big_number 4 (drop 6 d) % 2) sha256_of_hello

-- and so is that of `world`
world_list : list_of 2 (codes "world") ≡ 0
world_list = ap (λ (d : List ℕ). big_number 4 (drop 6 d) % 2) sha256_of_world

-- the tag of `hello` is the one of its posting
hello_has : tag_of (codes "hello") ≡ hello_tag
hello_has = ap (λ (d : List ℕ). take 6 d) sha256_of_hello

-- and that of `world`
world_has : tag_of (codes "world") ≡ world_tag
world_has = ap (λ (d : List ℕ). take 6 d) sha256_of_world

-- `hello` is a word of the body
has_hello : HasWord Ascii (codes "hello world") (codes "hello")
has_hello = record {
  words = words_of Ascii (codes "hello world");
  are = words_are_one.read Ascii (codes "hello world");
  among = subst (λ (ws : List (List ℕ)). Contains ws (codes "hello")) (sym words) (zero, omega arith, refl);
}

-- and so is `world`
has_world : HasWord Ascii (codes "hello world") (codes "world")
has_world = record {
  words = words_of Ascii (codes "hello world");
  are = words_are_one.read Ascii (codes "hello world");
  among = subst (λ (ws : List (List ℕ)). Contains ws (codes "world")) (sym words) (suc zero, omega arith, refl);
}

-- each tag is in list 0, and one of the two
pub tag_is : (l : ℕ) (tag : List ℕ) → HasTag small_layout (codes "hello world") l tag
    → (l ≡ 0) × ((tag ≡ hello_tag) ⊎ (tag ≡ world_tag))
tag_is l tag h = ⊎_elim
    (λ is. (sym h.list ∙ ap (list_of 2) is ∙ hello_list, inl (sym h.same ∙ ap tag_of is ∙ hello_has)))
    (λ is. (sym h.list ∙ ap (list_of 2) is ∙ world_list, inr (sym h.same ∙ ap tag_of is ∙ world_has)))
    (word_is h.word h.among)

-- the tag of `hello` is one of the body's in list 0
hello_tagged : HasTag small_layout (codes "hello world") 0 hello_tag
hello_tagged = record { word = codes "hello"; among = has_hello; list = hello_list; same = hello_has }

-- and so is that of `world`
world_tagged : HasTag small_layout (codes "hello world") 0 world_tag
world_tagged = record { word = codes "world"; among = has_world; list = world_list; same = world_has }

-- `hello` is before `world`, by the bytes of their tags
two_rise : (i j : ℕ) (a b : List ℕ) → i < j → slice_get (hello_tag ∷ world_tag ∷ []) i ≡ Some a
    → slice_get (hello_tag ∷ world_tag ∷ []) j ≡ Some b → big_number 6 a < big_number 6 b
two_rise i zero a b less p q = absurd (omega arith)
two_rise zero (suc zero) a b less p q =
    subst (λ (x : List ℕ). big_number 6 x < big_number 6 b) (some_is hello_tag a p)
    (subst (λ (y : List ℕ). big_number 6 hello_tag < big_number 6 y) (some_is world_tag b q) (omega arith))
two_rise (suc i) (suc zero) a b less p q = absurd (omega arith)
two_rise i (suc (suc j)) a b less p q = absurd (none-some b q)

-- these are the tags in list 0
pub tags_of_0 : AreTags small_layout (codes "hello world") 0 (hello_tag ∷ world_tag ∷ [])
tags_of_0 = record {
  rise = two_rise;
  each = λ tag among. ⊎_elim
      (λ is. subst (λ (t : List ℕ). HasTag small_layout (codes "hello world") 0 t) (sym is) hello_tagged)
      (λ is. subst (λ (t : List ℕ). HasTag small_layout (codes "hello world") 0 t) (sym is) world_tagged)
      (one_of_two hello_tag world_tag tag among);
  all = λ tag h. ⊎_elim
      (λ is. (zero, omega arith, sym is))
      (λ is. (suc zero, omega arith, sym is))
      (tag_is 0 tag h).1;
}

-- and list 1 has none
pub tags_of_1 : AreTags small_layout (codes "hello world") 1 []
tags_of_1 = record {
  rise = λ i j a b less p q. absurd (none-some a p);
  each = λ tag among. absurd (omega (arith, among.1));
  all = λ tag h. absurd (omega (arith, (tag_is 1 tag h).0));
}

-- so the postings exist
pub postings : HasPostings small_layout (codes "hello world")
postings = record { each = in_list }
  where
    in_list : (l : ℕ) → l < 2 → (tags : List (List ℕ)) × AreTags small_layout (codes "hello world") l tags
        × (length tags ≤ 256)
    in_list zero below = (hello_tag ∷ world_tag ∷ [], tags_of_0, omega arith)
    in_list (suc zero) below = ([], tags_of_1, omega arith)
    in_list (suc (suc l)) below = absurd (omega arith)

-- the number of a tag is that of one of the two
number_is : (tag : List ℕ) → HasTag small_layout (codes "hello world") 0 tag
    → (big_number 6 tag ≡ big_number 6 hello_tag) ⊎ (big_number 6 tag ≡ big_number 6 world_tag)
number_is tag h = ⊎_elim (λ is. inl (ap (big_number 6) is)) (λ is. inr (ap (big_number 6) is)) (tag_is 0 tag h).1

-- a list of its tags in list 0 has these two, in this order
pub only_tags : (tags : List (List ℕ)) → AreTags small_layout (codes "hello world") 0 tags
    → tags ≡ hello_tag ∷ world_tag ∷ []
only_tags [] are = absurd (omega (arith, (are.all hello_tag hello_tagged).1))
only_tags (x ∷ []) are =
    let first = ap (big_number 6) (only hello_tag hello_tagged) in
    let second = ap (big_number 6) (only world_tag world_tagged) in
    absurd (omega (arith, first, second))
  where
    only : (tag : List ℕ) → HasTag small_layout (codes "hello world") 0 tag → x ≡ tag
    only tag h = first (are.all tag h)
      where
        first : Contains (x ∷ []) tag → x ≡ tag
        first (zero, low, is) = is
        first (suc k, low, is) = absurd (omega (arith, low))
only_tags (x ∷ y ∷ []) are =
    let rise : big_number 6 x < big_number 6 y = are.rise 0 1 x y (omega arith) refl refl in
    let first = are.each x (zero, omega arith, refl) in
    let second = are.each y (suc zero, omega arith, refl) in
    ⊎_elim
    (λ x_is. ⊎_elim
    (λ y_is. absurd (omega (arith, rise, ap (big_number 6) x_is, ap (big_number 6) y_is)))
    (λ y_is. ap (λ (t : List ℕ). t ∷ y ∷ []) x_is ∙ ap (λ (t : List ℕ). hello_tag ∷ t ∷ []) y_is)
    (tag_is 0 y second).1)
    (λ x_is. absurd (omega (arith, rise, ap (big_number 6) x_is, number_is y second)))
    (tag_is 0 x first).1
only_tags (x ∷ y ∷ z ∷ tags) are =
    let rise : big_number 6 x < big_number 6 y = are.rise 0 1 x y (omega arith) refl refl in
    let more : big_number 6 y < big_number 6 z = are.rise 1 2 y z (omega arith) refl refl in
    absurd (omega (
      arith,
      rise,
      more,
      number_is x (are.each x (zero, omega arith, refl)),
      number_is y (are.each y (suc zero, omega arith, refl)),
      number_is z (are.each z (suc (suc zero), omega arith, refl)),
    ))

-- and one in list 1 has none
pub no_tags : (tags : List (List ℕ)) → AreTags small_layout (codes "hello world") 1 tags → tags ≡ []
no_tags [] are = refl
no_tags (x ∷ tags) are = absurd (omega (arith, (tag_is 1 x (are.each x (zero, omega arith, refl))).0))
