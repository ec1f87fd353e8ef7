-- The numbers of all blocks.
use Rattle.std.proofs.Common.{◌≡◌, ◌<◌, ◌⊎◌, ⊎_elim, inl, inr, ◌∙◌, ℕ, List, get_or, Some, sym, ap, subst, arith}
use Rattle.std.specs.Prelude.{Contains, IsTrue, slice_get, true}
use Rattle.std.proofs.lemmas.Option.{get_or_from_slice_get, slice_get-get_or, slice_get_within}
use Rattle.cell_types.specs.Image.{Image}
use Rattle.cell_types.specs.Layout.{Layout}
use Rattle.volume_meaning.specs.Nodes.{IsBlockOf}
use Rattle.list_audit.specs.Blocks.{AreBlocksForTwo, IsAmongBlocks, IsShared}
use Rattle.list_audit.specs.Numbers.{neighbour_number}
use Rattle.list_audit.specs.declared.found.ListBlocks.{ListBlocks}
use Rattle.list_audit.specs.declared.listed.ListBlock.{ListBlock}
use Rattle.list_audit.specs.declared.listed.TheConstants.{BLOCK_STEP}

-- a block of some list has this number
pub record IsBlockNumber (g : Layout) (image : Image) (number : ℕ) : Type 0 where
  pub list : ℕ
  pub block : ℕ
  pub is : IsBlockOf g image list block
  pub small : list < BLOCK_STEP
  pub number_is : number ≡ neighbour_number list block

-- two lists have a block there, by these numbers
pub record IsOccupiedTwice (numbers : List ℕ) (block : ℕ) : Type 0 where
  pub one : ℕ
  pub other : ℕ
  pub first : Contains numbers (neighbour_number one block)
  pub second : Contains numbers (neighbour_number other block)
  pub small : one < BLOCK_STEP
  pub few : other < BLOCK_STEP
  pub two : one ≡ other → ⊥

-- the block of list l has its number among these, or two others have theirs
abbrev pub IsTold : List ℕ → ℕ → ℕ → Type 0
IsTold numbers l block = ((l < BLOCK_STEP) × Contains numbers (neighbour_number l block)) ⊎ IsOccupiedTwice numbers block

-- these are the numbers of blocks, of each for two lists at least that have it
pub record AreTold (g : Layout) (image : Image) (numbers : List ℕ) : Type 0 where
  pub block_is : (number : ℕ) → Contains numbers number → IsBlockNumber g image number
  pub all_blocks : (l block : ℕ) → IsBlockOf g image l block → IsTold numbers l block

module _ (g : Layout) (image : Image) {blocks : ListBlocks} (lists : AreBlocksForTwo g image blocks) where
  -- a block that is listed for a list has its number
  told : {l block : ℕ} → IsAmongBlocks blocks.blocks.items l block → (l < BLOCK_STEP) × Contains blocks.numbers.items (neighbour_number l block)
  told {l} {block} a =
      let there = lists.numbered.each a.place a.one a.there in
      let number = neighbour_number a.one.list a.one.block in
      let few = lists.rising.few a.place a.one a.there in
      let has : Contains blocks.numbers.items number = (
        a.place,
        slice_get_within blocks.numbers.items a.place number there,
        get_or_from_slice_get blocks.numbers.items a.place number number there,
      ) in
      (omega (arith, few, a.list), subst (Contains blocks.numbers.items) (omega (arith, a.list, a.is)) has)

  pub are_told : AreTold g image blocks.numbers.items
  are_told = record {
    block_is = λ number has.
        let none : ListBlock = record { list = 0; block = 0 } in
        let b = get_or blocks.blocks.items has.0 none in
        let there : slice_get blocks.blocks.items has.0 ≡ Some b = slice_get-get_or blocks.blocks.items has.0 none (omega (arith, has.1, lists.numbered.count)) in
        let here : slice_get blocks.numbers.items has.0 ≡ Some number = slice_get-get_or blocks.numbers.items has.0 number has.1 ∙ ap (λ (n : ℕ). Some n) has.2 in
        let both : Some number ≡ Some (neighbour_number b.list b.block) = sym here ∙ lists.numbered.each has.0 b there in
        record {
          list = b.list;
          block = b.block;
          is = lists.taken.each has.0 b there;
          small = lists.rising.few has.0 b there;
          number_is = cc;
        };
    all_blocks = λ l block is. ⊎_elim
        (λ (a : IsAmongBlocks blocks.blocks.items l block). inl (told a))
        (λ (two : IsTrue true × IsShared blocks.blocks.items block).
        let s = two.1 in let first = told s.first in let second = told s.second in
        inr (record {
          one = s.one;
          other = s.other;
          first = first.1;
          second = second.1;
          small = first.0;
          few = second.0;
          two = s.two;
        }))
        (lists.taken.all l block is);
  }
