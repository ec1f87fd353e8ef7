-- The postings of a body are in order, with keys of their slot, and few.
use Rattle.std.proofs.Common.{◌≡◌, ◌<◌, ◌≤◌, ◌+◌, ◌*◌, ◌-◌, ⊎_elim, ℕ, zero, suc, List, [], Some, Option, refl, ap, sym, subst, arith, ◌∙◌}
use Rattle.std.specs.Prelude.{length, slice_get}
use Rattle.std.proofs.Math.ListN.{get_or}
use Rattle.std.proofs.lemmas.Bool.{cases_lt}
use Rattle.std.proofs.lemmas.Option.{slice_get_within, slice_get-get_or}
use Rattle.volume_meaning.proofs.OnePostings.{keys_fit}
use Rattle.volume_meaning.proofs.Tags.{tags_one}
use Rattle.volume_meaning.specs.Postings.{ArePostings, IsWordPosting, ListedPosting, time_posting}
use Rattle.volume_meaning.specs.Blocks.{PostingFields}
use Rattle.cell_types.specs.Image.{Image}
use Rattle.cell_types.specs.Layout.{Layout}
use Rattle.volume_meaning.specs.Words.{AreWords, rule_of}
use Rattle.term_tags.specs.Listing.{GivesListed, MayHaveStamp}
use Rattle.jump_insertion.specs.Evidence.{IsPastSlots, IsPastStamps}
use Rattle.ingest_plan.specs.Planning.{IsLater}
use Rattle.ingest_plan.specs.Rows.{AreInOrder}

pub in_order : (g : Layout) (stamp : Option ℕ) (body : List ℕ) (n : ℕ) (rows : List ListedPosting)
    → ArePostings g stamp body n rows → AreInOrder g rows
in_order g stamp body n rows are = record {
  lists_are = λ i p is. (are.each i p is).0;
  keys_fit = λ i p is. (keys_fit g stamp body n p.list p.posting are.exist (are.each i p is).1).0;
  order = are.order;
}

-- the posting is that of the stamp, in the time list
abbrev IsTime : Layout → Option ℕ → ℕ → ListedPosting → Type 0
IsTime g stamp n p =
    (seconds : ℕ) × (stamp ≡ Some seconds) × (p.list ≡ g.lists) × (p.posting ≡ time_posting n seconds)

module _ (g : Layout) (stamp : Option ℕ) (body : List ℕ) (n : ℕ) (rows : List ListedPosting)
    (are : ArePostings g stamp body n rows) where
  -- the key of a word's posting is one of the slot
  pub word_key : {l : ℕ} {q : PostingFields} → IsWordPosting g body n l q → (256 * n ≤ q.key) × (q.key < 256 * (n + 1))
  word_key {l} {q} word =
      let small = slice_get_within word.tags word.ordinal q.tag word.here in
      let fits = are.exist.each l word.list in
      let same = tags_one g body l word.tags fits.0 word.are fits.1 in (
        omega (arith, word.key),
        omega (arith, word.key, small, fits.2, ap (λ (t : List (List ℕ)). length t) same),
      )

  -- nothing comes behind the stamp's posting
  is_last : (i j : ℕ) (p q : ListedPosting) → i < j → slice_get rows i ≡ Some p → slice_get rows j ≡ Some q
      → IsTime g stamp n p → ⊥
  is_last i j p q less here there time = ⊎_elim
      (λ (lower : p.list < q.list). omega (arith, time.2, lower, (are.each j q there).0))
      (λ (same : (p.list ≡ q.list) × (p.posting.key < q.posting.key)). ⊎_elim
      (λ (word : IsWordPosting g body n q.list q.posting). omega (arith, word.list, same.0, time.2))
      (λ (too : IsTime g stamp n q).
      omega (
        arith,
        same.1,
        ap (λ (f : PostingFields). f.key) time.3,
        ap (λ (f : PostingFields). f.key) too.3,
        some_one time.0 too.0 (sym time.1 ∙ too.1),
      ))
      (are.each j q there).1)
      (are.order i j p q less here there)
    where
      some_one : (a b : ℕ) → Some a ≡ Some b → a ≡ b
      some_one a b e = cc

  -- so what comes before another posting is one of a word
  word_before : (i j : ℕ) (p q : ListedPosting) → i < j → slice_get rows i ≡ Some p → slice_get rows j ≡ Some q
      → IsWordPosting g body n p.list p.posting
  word_before i j p q less here there = ⊎_elim
      (λ (word : IsWordPosting g body n p.list p.posting). word)
      (λ (time : IsTime g stamp n p). absurd (is_last i j p q less here there time))
      (are.each i p here).1

  -- each posting of a word has so many before it at most
  behind : (i : ℕ) (p : ListedPosting) → slice_get rows i ≡ Some p → IsWordPosting g body n p.list p.posting
      → i + 256 * n ≤ 256 * p.list + p.posting.key
  behind zero p is word = omega (arith, (word_key word).0)
  behind (suc i) p is word =
      let none : ListedPosting = record { list = 0; posting = record { key = 0; last = 0; tag = [] } } in
      let q : ListedPosting = get_or rows i none in
      let here : slice_get rows i ≡ Some q = slice_get-get_or rows i none (omega (arith, slice_get_within rows (suc i) p is)) in
      let other = word_before i (suc i) q p (omega arith) here is in
      let before = behind i q here other in
      ⊎_elim
      (λ (lower : q.list < p.list). omega (arith, before, (word_key other).1, (word_key word).0, lower))
      (λ (same : (q.list ≡ p.list) × (q.posting.key < p.posting.key)). omega (arith, before, same.0, same.1))
      (are.order i (suc i) q p (omega arith) here is)

  -- a word's posting has less than all of them before it
  word_place : (i : ℕ) (p : ListedPosting) → slice_get rows i ≡ Some p → IsWordPosting g body n p.list p.posting
      → i < 256 * g.lists
  word_place i p is word = omega (arith, behind i p is word, (word_key word).1, word.list)

  pub few : length rows ≤ 256 * g.lists + 1
  few = ⊎_elim (λ (some : 1 < length rows).
      let last : ℕ = length rows - 1 in
      let empty : ListedPosting = record { list = 0; posting = record { key = 0; last = 0; tag = [] } } in
      let before : ListedPosting = get_or rows (last - 1) empty in
      let p : ListedPosting = get_or rows last empty in
      let there : slice_get rows (last - 1) ≡ Some before = slice_get-get_or rows (last - 1) empty (omega (arith, some)) in
      let here : slice_get rows last ≡ Some p = slice_get-get_or rows last empty (omega (arith, some)) in
      let word = word_before (last - 1) last before p (omega (arith, some)) there here in
      omega (arith, word_place (last - 1) before there word, some))
      (λ (less : length rows ≤ 1). omega (arith, less))
      (cases_lt 1 (length rows))

  -- each key is past those of earlier slots, where the stamp is
  pub past : (image : Image) → IsLater g image n stamp → (i : ℕ) (p : ListedPosting) → slice_get rows i ≡ Some p
      → IsPastSlots g image n p.list p.posting.key
  past image later i p is = ⊎_elim
      (λ (word : IsWordPosting g body n p.list p.posting).
      (λ words. (word_key word).0, λ same. absurd (omega (arith, word.list, same))))
      (λ (time : IsTime g stamp n p). (
        λ words. absurd (omega (arith, time.2, words)),
        λ same. subst (λ (k : ℕ). IsPastStamps g image n k) (sym (ap (λ (f : PostingFields). f.key) time.3))
            (subst (λ (s : Option ℕ). IsLater g image n s) time.1 later),
      ))
      (are.each i p is).1

-- the rows that were asked for are the postings of the body whose words were handed in
pub given : (g : Layout) (stamp : Option ℕ) (body : List ℕ) (n : ℕ) (terms : List (List ℕ)) (words : List (List ℕ))
    (rows : List ListedPosting) (handed : List ListedPosting) → MayHaveStamp g stamp
    → AreWords (rule_of g.version) body terms → words ≡ terms → GivesListed g.lists n stamp words rows → handed ≡ rows
    → ArePostings g stamp body n handed
given g stamp body n terms words rows handed may are same gives is =
    subst (λ (r : List ListedPosting). ArePostings g stamp body n r) (sym is)
    (gives g body refl may (subst (λ (w : List (List ℕ)). AreWords (rule_of g.version) body w) (sym same) are))
