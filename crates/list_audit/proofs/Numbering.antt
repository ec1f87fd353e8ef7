-- Blocks by their numbers.
use Rattle.std.proofs.Common.{◌≡◌, ◌<◌, ◌+◌, ◌↔◌, ◌++◌, ⊎_elim, inl, inr, ℕ, Bool, true, List, [], ◌∷◌, length, get_or, Some, refl, sym, ◌∙◌, subst, ap, arith}
use Rattle.std.specs.Prelude.{Contains, IsTrue, slice_get, slice_index, slice_index_or}
use Rattle.std.specs.BTreeSet.{contains}
use Rattle.std.specs.List.Sorted.{IsStrictlyIncreasing}
use Rattle.std.specs.Ordering.{nat_cmp}
use Rattle.std.proofs.lemmas.List.Kept.{AllPairs-from_increasing}
use Rattle.std.proofs.lemmas.Option.{get_or_from_slice_get, slice_get_within, slice_get-get_or}
use Rattle.cell_types.specs.Image.{Image}
use Rattle.cell_types.specs.Layout.{Layout}
use Rattle.volume_meaning.specs.Nodes.{IsBlockOf}
use Rattle.log_audit.proofs.OneMore.{get_pushed, length_pushed}
use Rattle.list_audit.specs.Blocks.{AreBlocks, AreDecoded, AreFound, AreInOrder, AreNumbered, AreRising, AreSmall, AreTaken, IsAmongBlocks, IsShared}
use Rattle.list_audit.specs.Numbers.{neighbour_number}
use Rattle.list_audit.specs.declared.found.FoundBlocks.{FoundBlocks}
use Rattle.list_audit.specs.declared.found.ListBlocks.{ListBlocks}
use Rattle.list_audit.specs.declared.listed.ListBlock.{ListBlock}
use Rattle.list_audit.specs.declared.listed.TheConstants.{BLOCK_STEP}
use Rattle.list_audit.proofs.Taking.{among_of, few_among, has_number}

-- a number of a list, whatever stands where there is none
at_index : (listed : List ℕ) (i n : ℕ) → i < length listed → slice_index listed i ≡ n → slice_index_or listed i n ≡ n
at_index listed i n inside is = get_or_from_slice_get listed i n n (slice_get-get_or listed i 0 inside ∙ ap (λ (m : ℕ). Some m) is)

index_at : (listed : List ℕ) (i n : ℕ) → i < length listed → slice_index_or listed i n ≡ n → slice_index listed i ≡ n
index_at listed i n inside is = get_or_from_slice_get listed i n 0 (slice_get-get_or listed i n inside ∙ ap (λ (m : ℕ). Some m) is)

-- these are the blocks of the first n numbers
pub record AreDecodedSoFar (numbers : List ℕ) (n : ℕ) (blocks : List ListBlock) : Type 0 where
  pub count : length blocks ≡ n
  pub each : (i : ℕ) (b : ListBlock) → slice_get blocks i ≡ Some b
      → (slice_index numbers i ≡ neighbour_number b.list b.block) × (b.list < BLOCK_STEP)

pub all_decoded : {numbers : List ℕ} {n : ℕ} {blocks : List ListBlock} → AreDecodedSoFar numbers n blocks → n ≡ length numbers
    → AreDecoded numbers blocks
all_decoded so_far all = record { count = so_far.count ∙ all; each = so_far.each }

pub none_decoded : (numbers : List ℕ) {blocks : List ListBlock} → blocks ≡ [] → AreDecodedSoFar numbers 0 blocks
none_decoded numbers none = subst (AreDecodedSoFar numbers 0) (sym none) (record {
  count = refl;
  each = λ i b there. absurd (omega (arith, slice_get_within [] i b there));
})

pub one_decoded : {numbers : List ℕ} {n : ℕ} {old new : List ListBlock} (block : ListBlock) → AreDecodedSoFar numbers n old → new ≡ old ++ block ∷ []
    → neighbour_number block.list block.block ≡ slice_index numbers n → block.list < BLOCK_STEP → AreDecodedSoFar numbers (n + 1) new
one_decoded {numbers} {n} {old} {new} block are is number few = record {
  count = omega (arith, ap length is, length_pushed old block, are.count);
  each = λ i b there. ⊎_elim
      (λ (before : slice_get old i ≡ Some b). are.each i b before)
      (λ last. (
        ap (slice_index numbers) (last.0 ∙ are.count) ∙ sym number ∙ ap (λ (d : ListBlock). neighbour_number d.list d.block) last.1,
        omega (arith, few, ap (λ (d : ListBlock). d.list) last.1),
      ))
      (get_pushed old block i b (subst (λ (xs : List ListBlock). slice_get xs i ≡ Some b) is there));
}

-- the numbers of blocks that were found are small
pub are_small : {found : FoundBlocks} (listed : List ℕ) → AreFound found
    → ((x : ℕ) → Contains listed x ↔ (contains nat_cmp found.numbers x ≡ true)) → AreSmall listed
are_small {found} listed are same i inside =
    let n = are.all (slice_index listed i) ((same (slice_index listed i)).0 (i, inside, at_index listed i (slice_index listed i) inside refl)) in let small = are.small n.place n.one n.there in
    omega (arith, n.is, small.0, small.1)

module _ {found : FoundBlocks} (are : AreFound found) (listed : List ℕ) (rows : List ListBlock) (decoded : AreDecoded listed rows)
    (increasing : IsStrictlyIncreasing listed) (same : (x : ℕ) → Contains listed x ↔ (contains nat_cmp found.numbers x ≡ true)) where
  none : ListBlock
  none = record { list = 0; block = 0 }

  -- each block has its number there
  has : (i : ℕ) (b : ListBlock) → slice_get rows i ≡ Some b → contains nat_cmp found.numbers (neighbour_number b.list b.block) ≡ true
  has i b there = (same (neighbour_number b.list b.block)).0 (
    i,
    omega (arith, slice_get_within rows i b there, decoded.count),
    at_index listed i (neighbour_number b.list b.block) (omega (arith, slice_get_within rows i b there, decoded.count)) (decoded.each i b there).0,
  )

  pub are_rising : AreRising rows
  are_rising = record {
    few = λ i b there. (decoded.each i b there).1;
    rises = λ i j b c less there next. omega (
      arith,
      (decoded.each i b there).0,
      (decoded.each j c next).0,
      AllPairs-from_increasing listed increasing i j 0 less (omega (arith, slice_get_within rows j c next, decoded.count)),
    );
  }

  pub are_numbered : AreNumbered rows listed
  are_numbered = record {
    count = sym decoded.count;
    each = λ i b there. slice_get-get_or listed i 0 (omega (arith, slice_get_within rows i b there, decoded.count))
        ∙ ap (λ (n : ℕ). Some n) (decoded.each i b there).0;
    increasing = increasing;
  }

  -- so those that were found are these
  pub are_same : (l block : ℕ) → IsAmongBlocks found.blocks.items l block ↔ IsAmongBlocks rows l block
  are_same l block = (
    λ a. let w = (same (neighbour_number l block)).1 (has_number are a) in
        let there : slice_get rows w.0 ≡ Some (get_or rows w.0 none) = slice_get-get_or rows w.0 none (omega (arith, w.1, decoded.count)) in
        let is = decoded.each w.0 (get_or rows w.0 none) there in
        let number : slice_index listed w.0 ≡ neighbour_number l block = index_at listed w.0 (neighbour_number l block) w.1 w.2 in
        record {
          place = w.0;
          one = get_or rows w.0 none;
          there = there;
          list = omega (arith, is.0, is.1, number, few_among are a);
          is = omega (arith, is.0, is.1, number, few_among are a);
        },
    λ a. let there = has a.place a.one a.there in
        among_of are (neighbour_number a.one.list a.one.block) l block there
        (omega (arith, (decoded.each a.place a.one a.there).1, a.list)) (omega (arith, a.list, a.is)),
  )

-- the same blocks in order are blocks of lists, as those are
pub blocks_by : {for_two : Bool} {g : Layout} {image : Image} {found : FoundBlocks} {ordered : ListBlocks} → found.for_two ≡ for_two
    → AreTaken for_two g image found.blocks.items → AreFound found → AreInOrder found.blocks.items ordered → AreBlocks for_two g image ordered
blocks_by {for_two} {g} {image} {found} {ordered} mode taken are same = record {
  taken = record {
    each = λ i b there. let a = (same.same b.list b.block).1 (record { place = i; one = b; there = there; list = refl; is = refl }) in
        subst (λ (l : ℕ). IsBlockOf g image l b.block) a.list (subst (IsBlockOf g image a.one.list) a.is (taken.each a.place a.one a.there));
    all = λ l block is. ⊎_elim
        (λ (a : IsAmongBlocks found.blocks.items l block). inl ((same.same l block).0 a))
        (λ (s : IsTrue for_two × IsShared found.blocks.items block). let t = s.1 in inr (
          s.0,
          record { one = t.one; other = t.other; first = (same.same t.one block).0 t.first; second = (same.same t.other block).0 t.second; two = t.two },
        ))
        (taken.all l block is);
  };
  rising = same.rising;
  numbered = same.numbered;
  most = λ two k l m block a b c. are.most (mode ∙ two) k l m block ((same.same k block).1 a) ((same.same l block).1 b) ((same.same m block).1 c);
}
