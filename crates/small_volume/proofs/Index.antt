-- The rules that need digests, at the cells of the small volume.
use Rattle.std.proofs.Common.{◌≡◌, ◌<◌, ◌+◌, ◌*◌, inl, inr, ℕ, suc, zero, List, [], ◌∷◌, Some, None, refl, sym, ◌∙◌, subst, ap, arith, codes, length}
use Rattle.std.specs.Prelude.{slice_get}
use Rattle.std.proofs.lemmas.Bool.{cases_lt}
use Rattle.std.proofs.lemmas.Option.{none-some}
use Rattle.cell_types.specs.Layout.{all_lists, list_at}
use Rattle.volume_meaning.specs.Volumes.{Holds, IsWritten}
use Rattle.volume_meaning.proofs.Holding.{some_is}
use Rattle.volume_meaning.specs.Blocks.{PostingFields, posting_record, InFront, Trail, here, at_the_start, behind}
use Rattle.volume_meaning.specs.Postings.{IsPostingOf, IsWordPosting}
use Rattle.volume_meaning.proofs.Fronts.{one_posting}
use Rattle.tamper_rules.specs.Rules.{PostingRule, IsTruePosting, TrailRule}
use Rattle.small_volume.specs.SmallVolume.{small_image, small_layout, hello_tag, world_tag}
use Rattle.small_volume.proofs.EachRule.{heads_alone}
use Rattle.small_volume.proofs.Found.{numbers, alone}
use Rattle.small_volume.proofs.OneSlot.{live_alone}
use Rattle.small_volume.proofs.Small.{stands_0, hello_posting, hello_holds, world_posting, world_holds}
use Rattle.small_volume.proofs.Tags.{tags_of_0, only_tags, no_tags, postings}

-- `hello` is the first posting of its document
is_hello : IsWordPosting small_layout (codes "hello world") 0 0 hello_posting
is_hello = record {
  list = omega arith;
  tags = hello_tag ∷ world_tag ∷ [];
  are = tags_of_0;
  ordinal = 0;
  here = refl;
  key = refl;
  last = refl;
}

-- `world` is the second
is_world : IsWordPosting small_layout (codes "hello world") 0 0 world_posting
is_world = record {
  list = omega arith;
  tags = hello_tag ∷ world_tag ∷ [];
  are = tags_of_0;
  ordinal = 1;
  here = refl;
  key = refl;
  last = refl;
}

-- so the posting in cell 36 is a true one
true_hello : IsTruePosting small_layout small_image 0 hello_posting
true_hello = record {
  slot = 0;
  live = live_alone alone;
  stamp = None;
  is_stamp = omega arith;
  id = codes "a";
  body = codes "hello world";
  stands = stands_0;
  postings = postings;
  is = inl is_hello;
}

-- and so is the posting in cell 37
true_world : IsTruePosting small_layout small_image 0 world_posting
true_world = record {
  slot = 0;
  live = live_alone alone;
  stamp = None;
  is_stamp = omega arith;
  id = codes "a";
  body = codes "hello world";
  stands = stands_0;
  postings = postings;
  is = inl is_world;
}

-- rule 9
pub posting_rule : (cell : ℕ) → IsWritten small_image cell → PostingRule small_layout small_image cell
posting_rule cell w = λ l block place p b below at h.
    let number = numbers cell w in
    let head : list_at small_layout l ≡ block = heads_alone b.leads in
    let list : l ≡ 0 = omega (arith, number, head, b.list, at, below) in
    subst (λ (k : ℕ). IsTruePosting small_layout small_image k p) (sym list) (elim (cases_lt cell 37) [
      | inl low ↦
          let is : cell ≡ 36 = omega (arith, number, head, at, below) in
          let held = subst (λ (k : ℕ). Holds small_image k (posting_record p)) is h in
          let same = one_posting small_image 36 p hello_posting held hello_holds in
          subst (IsTruePosting small_layout small_image 0) (sym same) true_hello
      | inr high ↦
          let is : cell ≡ 37 = omega (arith, number, head, b.list, at, below) in
          let held = subst (λ (k : ℕ). Holds small_image k (posting_record p)) is h in
          let same = one_posting small_image 37 p world_posting held world_holds in
          subst (IsTruePosting small_layout small_image 0) (sym same) true_world
    ])

-- the posting of `hello` is in front of the first block
hello_front : InFront small_image 36 0 hello_posting
hello_front = at_the_start 0 hello_posting refl hello_holds

-- the posting of `world` is in front behind it
world_front : InFront small_image 36 1 world_posting
world_front = behind 1 0 world_posting hello_posting refl hello_front (omega arith) world_holds

-- so it has a trail
hello_trail : Trail small_image 580 1000 36 hello_posting 36
hello_trail = here 36 0 refl (omega arith) hello_front

-- and so has the other
world_trail : Trail small_image 580 1000 37 world_posting 36
world_trail = here 36 1 refl (omega arith) world_front

-- a posting by its fields
abbrev fields : ℕ → ℕ → List ℕ → PostingFields
fields key last tag = record { key = key; last = last; tag = tag }

-- postings with the same fields are the same
same_fields : (p : PostingFields) (key last : ℕ) (tag : List ℕ) → p.key ≡ key → p.last ≡ last → p.tag ≡ tag
    → p ≡ fields key last tag
same_fields p key last tag k l t =
    ap (λ (n : ℕ). fields n p.last p.tag) k ∙ ap (λ (n : ℕ). fields key n p.tag) l ∙ ap (fields key last) t

-- each posting of the document is one of these two, and has a trail
trail_of_word : (l : ℕ) (p : PostingFields) → l < 2 → IsWordPosting small_layout (codes "hello world") 0 l p
    → (at : ℕ) × Trail small_image 580 1000 at p (list_at small_layout l)
trail_of_word zero p below i =
    let all = only_tags i.tags i.are in
    by i.ordinal i.key (i.last ∙ ap length all) (ap (λ (ts : List (List ℕ)). slice_get ts i.ordinal) (sym all) ∙ i.here)
  where
    by : (ordinal : ℕ) → p.key ≡ 256 * 0 + ordinal → p.last + 1 ≡ 2
        → slice_get (hello_tag ∷ world_tag ∷ []) ordinal ≡ Some p.tag → (at : ℕ) × Trail small_image 580 1000 at p 36
    by zero key last found =
        let tag : p.tag ≡ hello_tag = sym (some_is hello_tag p.tag found) in
        let same = same_fields p 0 1 hello_tag (omega (arith, key)) (omega (arith, last)) tag in
        (36, subst (λ (q : PostingFields). Trail small_image 580 1000 36 q 36) (sym same) hello_trail)
    by (suc zero) key last found =
        let tag : p.tag ≡ world_tag = sym (some_is world_tag p.tag found) in
        let same = same_fields p 1 1 world_tag (omega (arith, key)) (omega (arith, last)) tag in
        (37, subst (λ (q : PostingFields). Trail small_image 580 1000 37 q 36) (sym same) world_trail)
    by (suc (suc ordinal)) key last found = absurd (none-some p.tag found)
trail_of_word (suc zero) p below i =
    let none = sym (no_tags i.tags i.are) in
    absurd (none-some p.tag (ap (λ (ts : List (List ℕ)). slice_get ts i.ordinal) none ∙ i.here))
trail_of_word (suc (suc l)) p below i = absurd (omega arith)

trail_of : (l : ℕ) (p : PostingFields) → l < all_lists small_layout
    → IsPostingOf small_layout None (codes "hello world") 0 l p
    → (at : ℕ) × Trail small_image 580 1000 at p (list_at small_layout l)
trail_of l p below (inl word) = trail_of_word l p (omega (arith, below)) word
trail_of l p below (inr (seconds, given, list, is)) = absurd (omega (arith, below, list))

-- rule 13
pub trail_rule : TrailRule small_layout small_image 0 (codes "hello world")
trail_rule = record { postings = postings; stamp = None; is_stamp = omega arith; trails = trail_of }
