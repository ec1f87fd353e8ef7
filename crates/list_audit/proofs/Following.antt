-- Blocks whose pointers were followed, and the places that need not be followed again.
use Rattle.std.proofs.Common.{◌≡◌, ◌<◌, ◌≤◌, ◌+◌, ◌⊎◌, ⊎_elim, inl, inr, ℕ, Bool, true, List, Some, sym, ◌∙◌, subst, ap, arith}
use Rattle.std.specs.Prelude.{IsTrue, slice_get}
use Rattle.std.specs.BTreeSet.{BTreeSet, contains}
use Rattle.std.specs.Ordering.{nat_cmp}
use Rattle.cell_types.specs.Image.{Image}
use Rattle.cell_types.specs.Layout.{Layout}
use Rattle.list_audit.specs.Blocks.{AddsBlock, AreClosedBelow, IsAmongBlocks, IsShared, IsTaken, LeadsAmong, PointsTo}
use Rattle.list_audit.specs.Following.{AddsFollowed, AreFollowed, HasNoneFollowed, IsFollowedAt, IsPassedAt, WasFollowed}
use Rattle.list_audit.specs.Numbers.{block_number}
use Rattle.list_audit.specs.declared.followed.TheConstants.{EVERY_LIST}
use Rattle.list_audit.specs.declared.listed.ListBlock.{ListBlock}
use Rattle.list_audit.proofs.Closing.{IsFollowed}
use Rattle.list_audit.proofs.Taking.{taken_more}

before_or_from : (p n : ℕ) → (p < n) ⊎ (n ≤ p)
before_or_from p n = grind arith

-- what was taken for two lists was taken for each
both_taken : {for_two : Bool} {blocks : List ListBlock} {l m target : ℕ} → IsTrue for_two → (m ≡ l → ⊥) → IsTaken for_two blocks l target → IsTaken for_two blocks m target → (n : ℕ)
    → IsTaken for_two blocks n target
both_taken {for_two} {blocks} {l} {m} {target} two another first second n = ⊎_elim
    (λ (a : IsAmongBlocks blocks l target). ⊎_elim
    (λ (b : IsAmongBlocks blocks m target). inr (two, record { one = m; other = l; first = b; second = a; two = another }))
    (λ (shared : IsTrue for_two × IsShared blocks target). inr shared)
    second)
    (λ (shared : IsTrue for_two × IsShared blocks target). inr shared)
    first

module _ {for_two : Bool} {g : Layout} {image : Image} {numbers : BTreeSet ℕ} {blocks : List ListBlock} where
  -- where no block was followed
  pub none_yet : HasNoneFollowed numbers → AreFollowed for_two g image numbers blocks
  none_yet none l at target p h = ⊎_elim
      (λ (f : IsFollowedAt numbers l at). absurd (none _ f.followed))
      (λ (f : IsFollowedAt numbers EVERY_LIST at). absurd (none _ f.followed))
      p

  -- a block was found besides
  pub followed_more : {l block : ℕ} {new : List ListBlock} → AddsBlock for_two l block blocks new → AreFollowed for_two g image numbers blocks
      → AreFollowed for_two g image numbers new
  followed_more adds are m at target f h = taken_more adds m target (are m at target f h)

  module _ {from : ListBlock} {new : BTreeSet ℕ} (few : from.list < EVERY_LIST) (are : AreFollowed for_two g image numbers blocks)
      (leads : LeadsAmong for_two g image blocks from 248) (adds : AddsFollowed for_two from.list from.block numbers new) where
    -- what a pointer of the block leads to was taken for its list
    led : {x at target : ℕ} (f : IsFollowedAt new x at) → f.block ≡ from.block → PointsTo g image at target → IsTaken for_two blocks from.list target
    led {x} {at} {target} f same h = leads f.pointer target f.from f.to
        (subst (λ (k : ℕ). PointsTo g image k target) (f.is ∙ ap (λ (b : ℕ). b + f.pointer) same) h)

    -- and for each list, where it was followed for another
    led_twice : {x at target : ℕ} (f : IsFollowedAt new x at) → f.block ≡ from.block → WasFollowed for_two numbers from.list from.block
        → PointsTo g image at target → (n : ℕ) → IsTaken for_two blocks n target
    led_twice {x} {at} {target} f same w h = both_taken w.two w.another (led f same h) (are w.list at target (inl (record {
      block = from.block;
      small = omega (arith, f.small, same);
      followed = w.followed;
      pointer = f.pointer;
      from = f.from;
      to = f.to;
      is = omega (arith, f.is, same);
    })) h)

    -- one of the blocks before
    before : {x at : ℕ} (f : IsFollowedAt new x at) → contains nat_cmp numbers (block_number x f.block) ≡ true → IsFollowedAt numbers x at
    before f old = record { block = f.block; small = f.small; followed = old; pointer = f.pointer; from = f.from; to = f.to; is = f.is }

    -- a block was followed besides
    pub one_followed : AreFollowed for_two g image new blocks
    one_followed l at target (inl f) h = ⊎_elim
        (λ old. are l at target (inl (before f old)) h)
        (λ rest. ⊎_elim
        (λ (same : (l ≡ from.list) × (f.block ≡ from.block)). subst (λ (m : ℕ). IsTaken for_two blocks m target) (sym same.0) (led f same.1 h))
        (λ (twice : (l ≡ EVERY_LIST) × (f.block ≡ from.block) × WasFollowed for_two numbers from.list from.block).
        led_twice f twice.1 twice.2 h l)
        rest)
        (adds l f.block f.small f.followed)
    one_followed l at target (inr f) h = ⊎_elim
        (λ old. are l at target (inr (before f old)) h)
        (λ rest. ⊎_elim
        (λ (same : (EVERY_LIST ≡ from.list) × (f.block ≡ from.block)). absurd (omega (arith, few, same.0)))
        (λ (twice : (EVERY_LIST ≡ EVERY_LIST) × (f.block ≡ from.block) × WasFollowed for_two numbers from.list from.block).
        led_twice f twice.1 twice.2 h l)
        rest)
        (adds EVERY_LIST f.block f.small f.followed)

  -- by the same mode
  pub followed_by : {mode : Bool} → for_two ≡ mode → AreFollowed for_two g image numbers blocks → AreFollowed mode g image numbers blocks
  followed_by same are = subst (λ (mode : Bool). AreFollowed mode g image numbers blocks) same are

  -- a turn more, by the same mode
  pub turn_by : {mode : Bool} {n : ℕ} {from : ListBlock} {new : BTreeSet ℕ} → for_two ≡ mode → AreClosedBelow for_two g image n blocks
      → AreFollowed for_two g image numbers blocks → LeadsAmong for_two g image blocks from 248
      → from.list < EVERY_LIST → AddsFollowed for_two from.list from.block numbers new
      → AreClosedBelow mode g image n blocks × AreFollowed mode g image new blocks
  turn_by {mode} {n} {from} {new} same below are leads few adds = (
    subst (λ (m : Bool). AreClosedBelow m g image n blocks) same below,
    subst (λ (m : Bool). AreFollowed m g image new blocks) same (one_followed few are leads adds),
  )

  module _ {n : ℕ} {from : ListBlock} where
    -- the places up to this one are of a block that was followed
    pub passed_before : {pointer : ℕ} → AreClosedBelow for_two g image n blocks → slice_get blocks n ≡ Some from → AreFollowed for_two g image numbers blocks
        → ((p : ℕ) → 128 ≤ p → p < pointer → IsPassedAt numbers from.list (from.block + p))
        → IsFollowed for_two g image n from pointer blocks
    passed_before below here are passed = record {
      below = below;
      here = here;
      leads = λ p target low high h. are from.list (from.block + p) target (passed p low high) h;
    }

    -- the places from one on are, and those before it were followed
    pub passed_behind : {pointer behind : ℕ} → IsFollowed for_two g image n from pointer blocks → behind ≤ pointer
        → AreFollowed for_two g image numbers blocks
        → ((p : ℕ) → behind ≤ p → p < 248 → IsPassedAt numbers from.list (from.block + p))
        → IsFollowed for_two g image n from 248 blocks
    passed_behind {pointer} {behind} w past are passed = record {
      below = w.below;
      here = w.here;
      leads = λ p target low high h. ⊎_elim
          (λ (before : p < pointer). w.leads p target low before h)
          (λ (from' : pointer ≤ p). are from.list (from.block + p) target (passed p (omega (arith, past, from')) high) h)
          (before_or_from p pointer);
    }
