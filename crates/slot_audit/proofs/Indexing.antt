-- Index cells, before the pool and in it.
use Rattle.std.proofs.Common.{◌≡◌, ◌<◌, ◌≤◌, ◌+◌, ◌-◌, ◌/◌, ◌↔◌, ⊎_elim, ℕ, min, nat_le, arith}
use Rattle.std.specs.Prelude.{IsTrue}
use Rattle.std.proofs.lemmas.Bool.Decides.{nat_tests}
use Rattle.cell_types.specs.Image.{Image}
use Rattle.cell_types.specs.Layout.{Layout, all_lists, lists_at, list_at, root_at, pool_at, time_lists}
use Rattle.tamper_rules.specs.Journals.{LiesInBlocks, IsIndexCell, of_list, of_root, of_slot}
use Rattle.tamper_rules.specs.Rules.{ReserveCells}
use Rattle.log_audit.specs.Findings.{IsMetAll}
use Rattle.log_audit.proofs.Logged.{one_slot}
use Rattle.log_audit.proofs.Orders.{below_or_not}

is_most : (a b : ℕ) → a ≤ b → IsTrue (nat_le a b)
is_most a b h = grind (arith, nat_tests)

most_is : (a b : ℕ) → IsTrue (nat_le a b) → a ≤ b
most_is a b h = grind (arith, nat_tests)

-- a volume has one time list at most
one_time : (n : ℕ) → min 1 n ≤ 1
one_time n = omega arith

-- a first block ends where the pool begins, or before
block_end : (g : Layout) (l : ℕ) → l < all_lists g → list_at g l + 256 ≤ pool_at g
block_end g l less = let one : time_lists g ≤ 1 = one_time _ in omega (arith, one, less)

-- from the first list on and below the pool each cell is one of the index
below_pool : (g : Layout) (image : Image) (n cell : ℕ) → lists_at g ≤ cell → cell < pool_at g → IsIndexCell g image n cell
below_pool g image n cell from less = ⊎_elim
    (λ (low : cell < root_at g). of_list ((cell - lists_at g) / 256)
    (record { exists = omega (arith, from, low); from = omega (arith, from, low); below = omega (arith, from, low) }))
    (λ (high : root_at g ≤ cell). ⊎_elim
    (λ (root : cell < root_at g + 32). of_root (record { exists = tt; from = high; below = omega (arith, root) }))
    (λ (past : root_at g + 32 ≤ cell). let one : time_lists g ≤ 1 = one_time _ in of_list g.lists
    (record { exists = omega (arith, less, past, one); from = omega (arith, past); below = omega (arith, less, one) }))
    (below_or_not cell (root_at g + 32)))
    (below_or_not cell (root_at g))

pub before_pool : (g : Layout) (image : Image) (n cell : ℕ) → cell < pool_at g
    → (IsTrue (nat_le (lists_at g) cell) ↔ IsIndexCell g image n cell)
before_pool g image n cell less = (
  λ yes. below_pool g image n cell (most_is (lists_at g) cell yes) less,
  λ is. is_most (lists_at g) cell (from is),
)
  where
    from : IsIndexCell g image n cell → lists_at g ≤ cell
    from (of_list l lies) = omega (arith, lies.from)
    from (of_root lies) = omega (arith, lies.from)
    from (of_slot m le lies) = absurd (omega (arith, lies.from, lies.stores.commits.reserves.from, less))

-- in the pool they lie in blocks of slots
in_blocks : (g : Layout) (image : Image) (n cell : ℕ) → pool_at g ≤ cell → IsIndexCell g image n cell
    → (m : ℕ) × (m ≤ n) × LiesInBlocks g image m cell
in_blocks g image n cell pool (of_list l lies) =
    absurd (let past = block_end g l lies.exists in omega (arith, past, lies.below, pool))
in_blocks g image n cell pool (of_root lies) = absurd (omega (arith, lies.below, pool))
in_blocks g image n cell pool (of_slot m le lies) = (m, le, lies)

pub owned_in_pool : (g : Layout) (image : Image) (n cell owner : ℕ) → IsMetAll g image ReserveCells → pool_at g ≤ cell
    → LiesInBlocks g image owner cell → (IsTrue (nat_le owner n) ↔ IsIndexCell g image n cell)
owned_in_pool g image n cell owner met pool lies = (
  λ yes. of_slot owner (most_is owner n yes) lies,
  λ is. let other = in_blocks g image n cell pool is in
      let it = other.2 in
      let same : owner ≡ other.0 = one_slot g image met owner other.0 lies.start lies.length it.start it.length cell
      lies.stores.commits.reserves it.stores.commits.reserves
      lies.from (omega (arith, lies.below)) it.from (omega (arith, it.below)) in
      is_most owner n (omega (arith, same, other.1)),
)

pub unowned_in_pool : (g : Layout) (image : Image) (n cell : ℕ) → pool_at g ≤ cell
    → ((m : ℕ) → LiesInBlocks g image m cell → ⊥) → IsIndexCell g image n cell → ⊥
unowned_in_pool g image n cell pool none is = let other = in_blocks g image n cell pool is in none other.0 other.2
