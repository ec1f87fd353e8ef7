-- Blocks that were taken: each for its list, or for two others.
use Rattle.std.proofs.Common.{◌≡◌, ◌<◌, ◌+◌, ◌-◌, ◌*◌, ◌^◌, ◌⊎◌, ◌++◌, ⊎_elim, inl, inr, ℕ, Bool, true, false, not, List, [], ◌∷◌, length, Option, Some, refl, sym, ◌∙◌, subst, ap, arith}
use Rattle.std.specs.Prelude.{IsTrue, slice_get}
use Rattle.std.specs.Ordering.{nat_cmp}
use Rattle.std.specs.BTreeSet.{BTreeSet, contains, Updates as SetUpdates}
use Rattle.std.proofs.lemmas.Bool.{cases_order}
use Rattle.std.proofs.lemmas.Bool.Decides.{nat_tests}
use Rattle.std.proofs.lemmas.Option.{slice_get_within}
use Rattle.log_audit.proofs.OneMore.{get_before, get_last, get_pushed, length_pushed}
use Rattle.list_audit.specs.Blocks.{AddsBlock, AreForTwo, AreFound, IsAmongBlocks, IsAnother, IsNumbered, IsShared, IsTaken}
use Rattle.list_audit.specs.declared.found.FoundBlocks.{FoundBlocks}
use Rattle.list_audit.specs.declared.listed.ListBlock.{ListBlock}
use Rattle.list_audit.specs.declared.listed.TheConstants.{BLOCK_STEP}
use Rattle.list_audit.specs.Numbers.{HasTwoBetween, neighbour_number}

module _ {for_two : Bool} {l block : ℕ} {old new : List ListBlock} where
  -- by the same mode
  pub adds_by : {mode : Bool} → for_two ≡ mode → AddsBlock for_two l block old new → AddsBlock mode l block old new
  adds_by same adds = subst (λ (mode : Bool). AddsBlock mode l block old new) same adds

  -- what is among the blocks is among more
  pub among_more : AddsBlock for_two l block old new → (m other : ℕ) → IsAmongBlocks old m other → IsAmongBlocks new m other
  among_more adds m other a = record { place = a.place; one = a.one; there = adds.keeps a.place a.one a.there; list = a.list; is = a.is }

  -- a block that two lists have is one of more
  pub shared_more : AddsBlock for_two l block old new → {other : ℕ} → IsShared old other → IsShared new other
  shared_more adds {other} s = record {
    one = s.one;
    other = s.other;
    first = among_more adds s.one other s.first;
    second = among_more adds s.other other s.second;
    two = s.two;
  }

  -- what was taken is taken of more
  pub taken_more : AddsBlock for_two l block old new → (m other : ℕ) → IsTaken for_two old m other → IsTaken for_two new m other
  taken_more adds m other taken = ⊎_elim
      (λ (among : IsAmongBlocks old m other). inl (among_more adds m other among))
      (λ (shared : IsTrue for_two × IsShared old other). inr (shared.0, shared_more adds shared.1))
      taken

module _ {for_two : Bool} {l block : ℕ} {old new : List ListBlock} (adds : AddsBlock for_two l block old new) (alone : IsShared old block → ⊥) where
  -- what is among more was among the blocks, or is this one
  old_or_new : {m other : ℕ} → IsAmongBlocks new m other → IsAmongBlocks old m other ⊎ ((m ≡ l) × (other ≡ block))
  old_or_new {m} {other} a = ⊎_elim
      (λ (before : slice_get old a.place ≡ Some a.one). inl (record { place = a.place; one = a.one; there = before; list = a.list; is = a.is }))
      (λ (is : (a.one.list ≡ l) × (a.one.block ≡ block)). inr (omega (arith, is.0, a.list), omega (arith, is.1, a.is)))
      (adds.only a.place a.one a.there)

  -- of the lists that had it there was one
  one_list : (k m other : ℕ) → IsAmongBlocks old k other → IsAmongBlocks old m other → other ≡ block → k ≡ m
  one_list k m other a b is = ⊎_elim
      (λ (same : k ≡ m). same)
      (λ differ. absurd (alone (record {
        one = k;
        other = m;
        first = subst (IsAmongBlocks old k) is a;
        second = subst (IsAmongBlocks old m) is b;
        two = λ same. ⊎_elim (λ (less : k < m). omega (arith, less, same)) (λ (more : m < k). omega (arith, more, same)) differ;
      })))
      (cases_order k m)

  -- so no three have it
  pub most_more : AreForTwo old → AreForTwo new
  most_more most k m n other a b c = by (old_or_new a) (old_or_new b) (old_or_new c)
    where
      by : IsAmongBlocks old k other ⊎ ((k ≡ l) × (other ≡ block)) → IsAmongBlocks old m other ⊎ ((m ≡ l) × (other ≡ block))
          → IsAmongBlocks old n other ⊎ ((n ≡ l) × (other ≡ block)) → (k ≡ m) ⊎ (k ≡ n) ⊎ (m ≡ n)
      by (inl x) (inl y) (inl z) = most k m n other x y z
      by (inl x) (inl y) (inr z) = inl (one_list k m other x y z.1)
      by (inl x) (inr y) (inl z) = inr (inl (one_list k n other x z y.1))
      by (inl x) (inr y) (inr z) = inr (inr (omega (arith, y.0, z.0)))
      by (inr x) (inl y) (inl z) = inr (inr (one_list m n other y z x.1))
      by (inr x) (inl y) (inr z) = inr (inl (omega (arith, x.0, z.0)))
      by (inr x) (inr y) (inl z) = inl (omega (arith, x.0, y.0))
      by (inr x) (inr y) (inr z) = inl (omega (arith, x.0, y.0))

module _ {found : FoundBlocks} (are : AreFound found) where
  -- the number of a block that is among these is there
  pub has_number : {l block : ℕ} → IsAmongBlocks found.blocks.items l block → contains nat_cmp found.numbers (neighbour_number l block) ≡ true
  has_number {l} {block} a =
      subst (λ (m : ℕ). contains nat_cmp found.numbers (neighbour_number m block) ≡ true) a.list
      (subst (λ (c : ℕ). contains nat_cmp found.numbers (neighbour_number a.one.list c) ≡ true) a.is (are.each a.place a.one a.there))

  pub few_among : {l block : ℕ} → IsAmongBlocks found.blocks.items l block → l < BLOCK_STEP
  few_among {l} {block} a = let small = are.small a.place a.one a.there in omega (arith, small.0, a.list)

  -- and the block of a number that is there is among these
  pub among_of : (number l block : ℕ) → contains nat_cmp found.numbers number ≡ true → l < BLOCK_STEP → number ≡ neighbour_number l block
      → IsAmongBlocks found.blocks.items l block
  among_of number l block has few is = let n = are.all number has in let small = are.small n.place n.one n.there in
      record {
        place = n.place;
        one = n.one;
        there = n.there;
        list = omega (arith, n.is, small.0, few, is);
        is = omega (arith, n.is, small.0, few, is);
      }

  module _ (block from : ℕ) (is : from ≡ block * BLOCK_STEP) where
    -- two numbers of a block are those of two of its lists
    pub two_shared : HasTwoBetween found.numbers from (from + BLOCK_STEP) → IsShared found.blocks.items block
    two_shared h = record {
      one = h.first - block * BLOCK_STEP;
      other = h.last - block * BLOCK_STEP;
      first = among_of h.first (h.first - block * BLOCK_STEP) block h.has_first (omega (arith, is, h.low, h.rises, h.high)) (omega (arith, is, h.low));
      second = among_of h.last (h.last - block * BLOCK_STEP) block h.has_last (omega (arith, is, h.low, h.rises, h.high)) (omega (arith, is, h.low, h.rises));
      two = λ same. omega (arith, is, same, h.rises, h.low);
    }

    two_numbers : (l m : ℕ) → l < m → IsAmongBlocks found.blocks.items l block → IsAmongBlocks found.blocks.items m block
        → HasTwoBetween found.numbers from (from + BLOCK_STEP)
    two_numbers l m less a b = record {
      first = neighbour_number l block;
      last = neighbour_number m block;
      rises = omega (arith, less);
      low = omega (arith, is);
      high = omega (arith, is, few_among b);
      has_first = has_number a;
      has_last = has_number b;
    }

    -- and two of its lists have two numbers
    pub shared_two : IsShared found.blocks.items block → HasTwoBetween found.numbers from (from + BLOCK_STEP)
    shared_two s = ⊎_elim
        (λ (same : s.one ≡ s.other). absurd (s.two same))
        (λ differ. ⊎_elim
        (λ (less : s.one < s.other). two_numbers s.one s.other less s.first s.second)
        (λ (more : s.other < s.one). two_numbers s.other s.one more s.second s.first) differ)
        (cases_order s.one s.other)

-- a number of a set with one number more
pub more_numbers : (old new : BTreeSet ℕ) (key : ℕ) → SetUpdates nat_cmp old new key true → (q : ℕ) → contains nat_cmp new q ≡ true
    → (q ≡ key) ⊎ (contains nat_cmp old q ≡ true)
more_numbers old new key updates q has = let at = updates.0 q in grind (arith, nat_tests)

pub same_number : (old new : BTreeSet ℕ) (key : ℕ) → SetUpdates nat_cmp old new key true → contains nat_cmp new key ≡ true
same_number old new key updates = updates.1

pub kept_number : (old new : BTreeSet ℕ) (key : ℕ) → SetUpdates nat_cmp old new key true → (q : ℕ) → contains nat_cmp old q ≡ true
    → contains nat_cmp new q ≡ true
kept_number old new key updates q has = let at = updates.0 q in grind (arith, nat_tests)

pub was_there : (has : Bool) → false ≡ not has → has ≡ true
was_there true old = refl
was_there false old = let clash : false ≡ true = old in cc

-- a block is put behind the others
module _ {found : FoundBlocks} (are : AreFound found) (block : ListBlock) where
  -- one that is there already was taken
  pub adds_same : contains nat_cmp found.numbers (neighbour_number block.list block.block) ≡ true → block.list < BLOCK_STEP
      → AddsBlock found.for_two block.list block.block found.blocks.items found.blocks.items
  adds_same has few = record {
    keeps = λ i b there. there;
    has = inl (among_of are (neighbour_number block.list block.block) block.list block.block has few refl);
    only = λ i b there. inl there;
  }

  -- so was one that two lists have
  pub adds_shared : IsTrue found.for_two × IsShared found.blocks.items block.block
      → AddsBlock found.for_two block.list block.block found.blocks.items found.blocks.items
  adds_shared shared = record { keeps = λ i b there. there; has = inr shared; only = λ i b there. inl there }

  -- which may be noted
  pub found_shared : {after : FoundBlocks} → after.for_two ≡ found.for_two → after.blocks.items ≡ found.blocks.items → after.numbers ≡ found.numbers
      → after.others.items ≡ found.others.items → SetUpdates nat_cmp found.shared after.shared block.block true → IsTrue found.for_two × IsShared found.blocks.items block.block → AreFound after
  found_shared {after} mode is numbers beside updates shared = record {
    each = λ i b there. subst (λ (set : BTreeSet ℕ). contains nat_cmp set (neighbour_number b.list b.block) ≡ true) (sym numbers) (are.each i b (here i b there));
    small = λ i b there. are.small i b (here i b there);
    all = λ n has. subst (λ (blocks : List ListBlock). IsNumbered blocks n) (sym is)
        (are.all n (subst (λ (set : BTreeSet ℕ). contains nat_cmp set n ≡ true) numbers has));
    most = λ for_two. subst AreForTwo (sym is) (are.most (sym mode ∙ for_two));
    shared = λ other has. ⊎_elim
        (λ (same : other ≡ block.block). (mode ∙ shared.0, still other (subst (IsShared found.blocks.items) (sym same) shared.1)))
        (λ before. let s = are.shared other before in (mode ∙ s.0, still other s.1))
        (more_numbers found.shared after.shared block.block updates other has);
    beside = omega (arith, ap length beside, ap (λ (bs : List ListBlock). length bs) is, are.beside);
    others = λ i b other there at. subst (λ (m : Bool). IsAnother m b.list other) (sym mode)
        (are.others i b other (here i b there) (subst (λ (xs : List (Option ℕ)). slice_get xs i ≡ Some other) beside at));
  }
    where
      here : (i : ℕ) (b : ListBlock) → slice_get after.blocks.items i ≡ Some b → slice_get found.blocks.items i ≡ Some b
      here i b there = subst (λ (blocks : List ListBlock). slice_get blocks i ≡ Some b) is there

      still : (other : ℕ) → IsShared found.blocks.items other → IsShared after.blocks.items other
      still other s = subst (λ (blocks : List ListBlock). IsShared blocks other) (sym is) s

  -- the one that was put is among them
  among_last : {new : List ListBlock} → new ≡ found.blocks.items ++ block ∷ [] → IsAmongBlocks new block.list block.block
  among_last {new} is = record {
    place = length found.blocks.items;
    one = block;
    there = subst (λ (xs : List ListBlock). slice_get xs (length found.blocks.items) ≡ Some block) (sym is)
        (get_last found.blocks.items block (length found.blocks.items) refl);
    list = refl;
    is = refl;
  }

  -- a new one is taken
  pub adds_behind : {new : List ListBlock} → new ≡ found.blocks.items ++ block ∷ [] → AddsBlock found.for_two block.list block.block found.blocks.items new
  adds_behind {new} is = record {
    keeps = λ i b there. subst (λ (xs : List ListBlock). slice_get xs i ≡ Some b) (sym is)
        (get_before found.blocks.items block i (slice_get_within found.blocks.items i b there) ∙ there);
    has = inl (among_last is);
    only = λ i b there. ⊎_elim
        (λ (h : slice_get found.blocks.items i ≡ Some b). inl h)
        (λ h. inr (ap (λ (d : ListBlock). d.list) (sym h.1), ap (λ (d : ListBlock). d.block) (sym h.1)))
        (get_pushed found.blocks.items block i b (subst (λ (xs : List ListBlock). slice_get xs i ≡ Some b) is there));
  }

  -- and its number is one of the numbers
  pub found_behind : {after : FoundBlocks} → after.for_two ≡ found.for_two → after.blocks.items ≡ found.blocks.items ++ block ∷ []
      → SetUpdates nat_cmp found.numbers after.numbers (neighbour_number block.list block.block) true → after.shared ≡ found.shared
      → (other : Option ℕ) → after.others.items ≡ found.others.items ++ other ∷ [] → IsAnother found.for_two block.list other
      → (block.list < BLOCK_STEP) × (block.block < 2 ^ 32) → (IsTrue found.for_two → IsShared found.blocks.items block.block → ⊥) → AreFound after
  found_behind {after} mode is updates shared other put another small alone = record {
    each = λ i b there. ⊎_elim
        (λ (h : slice_get found.blocks.items i ≡ Some b). kept_number found.numbers after.numbers number updates (neighbour_number b.list b.block) (are.each i b h))
        (λ (h : (b.list ≡ block.list) × (b.block ≡ block.block)).
        subst (λ (n : ℕ). contains nat_cmp after.numbers n ≡ true) (omega (arith, h.0, h.1)) (same_number found.numbers after.numbers number updates))
        (adds.only i b there);
    small = λ i b there. ⊎_elim
        (λ (h : slice_get found.blocks.items i ≡ Some b). are.small i b h)
        (λ (h : (b.list ≡ block.list) × (b.block ≡ block.block)). (omega (arith, h.0, small.0), omega (arith, h.1, small.1)))
        (adds.only i b there);
    all = λ n has. ⊎_elim
        (λ (same : n ≡ number). record { place = last.place; one = last.one; there = last.there; is = omega (arith, same, last.list, last.is) })
        (λ before. let w = are.all n before in record { place = w.place; one = w.one; there = adds.keeps w.place w.one w.there; is = w.is })
        (more_numbers found.numbers after.numbers number updates n has);
    most = λ for_two. let two : IsTrue found.for_two = sym mode ∙ for_two in most_more adds (alone two) (are.most two);
    shared = λ one has. let s = are.shared one (subst (λ (set : BTreeSet ℕ). contains nat_cmp set one ≡ true) shared has) in
        (mode ∙ s.0, shared_more adds s.1);
    beside = omega (
      arith,
      ap length put ∙ length_pushed found.others.items other,
      ap (λ (bs : List ListBlock). length bs) is ∙ length_pushed found.blocks.items block,
      are.beside,
    );
    others = λ i b one there at. subst (λ (m : Bool). IsAnother m b.list one) (sym mode) (beside_put i b one
        (get_pushed found.others.items other i one (subst (λ (xs : List (Option ℕ)). slice_get xs i ≡ Some one) put at))
        (get_pushed found.blocks.items block i b (subst (λ (xs : List ListBlock). slice_get xs i ≡ Some b) is there)));
  }
    where
      beside_put : (i : ℕ) (b : ListBlock) (one : Option ℕ)
          → (slice_get found.others.items i ≡ Some one) ⊎ ((i ≡ length found.others.items) × (other ≡ one))
          → (slice_get found.blocks.items i ≡ Some b) ⊎ ((i ≡ length found.blocks.items) × (block ≡ b))
          → IsAnother found.for_two b.list one
      beside_put i b one (inl x) (inl y) = are.others i b one y x
      beside_put i b one (inl x) (inr y) = absurd (omega (arith, slice_get_within found.others.items i one x, y.0, are.beside))
      beside_put i b one (inr x) (inl y) = absurd (omega (arith, slice_get_within found.blocks.items i b y, x.0, are.beside))
      beside_put i b one (inr x) (inr y) = subst (IsAnother found.for_two b.list) x.1
          (subst (λ (d : ListBlock). IsAnother found.for_two d.list other) y.1 another)

      number : ℕ
      number = neighbour_number block.list block.block

      adds : AddsBlock found.for_two block.list block.block found.blocks.items after.blocks.items
      adds = adds_behind is

      last : IsAmongBlocks after.blocks.items block.list block.block
      last = among_last is
