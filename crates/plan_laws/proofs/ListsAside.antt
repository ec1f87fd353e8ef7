-- What is written outside their blocks leaves all lists as they should be.
use Rattle.std.proofs.Common.{◌≡◌, ◌<◌, ◌≤◌, ◌+◌, ℕ, arith}
use Rattle.cell_types.specs.Image.{Image, Extends}
use Rattle.cell_types.specs.Layout.{Layout, list_at, pool_at, all_lists}
use Rattle.volume_meaning.specs.Blocks.{Leads}
use Rattle.volume_meaning.proofs.Trails.{trail_on, trail_wider}
use Rattle.ingest_laws.specs.ListShapes.{IsWellListed}
use Rattle.ingest_laws.proofs.ListShapes.{back, holds_back, listed_back, well_apart, well_wider}
use Rattle.ingest_plan.specs.Standing.{ListsStand}

module _ {g : Layout} {old new : Image} {next to : ℕ} {bound : ℕ → ℕ} (lists : ListsStand g old next bound)
    (e : Extends old new)
    (more : next ≤ to)
    (same : (l block place : ℕ) → l < all_lists g → Leads old (pool_at g) next block (list_at g l) → place < 256
    → new (block + place) ≡ old (block + place)) where
  as_it_was : (l : ℕ) → l < all_lists g → (block place : ℕ) → Leads old (pool_at g) next block (list_at g l)
      → place < 256
      → new (block + place) ≡ old (block + place)
  as_it_was l list block place leads less = same l block place list leads less

  well_before : (l : ℕ) → l < all_lists g → IsWellListed new (pool_at g) next (list_at g l)
  well_before l list = well_apart (lists.well l list) e (as_it_was l list)

  pub was_block : (l block : ℕ) → l < all_lists g → Leads new (pool_at g) to block (list_at g l)
      → Leads old (pool_at g) next block (list_at g l)
  was_block l block list leads =
      listed_back (lists.well l list) e (as_it_was l list) (back more (well_before l list) leads)

  pub lists_aside : ListsStand g new to bound
  lists_aside = record {
    well = λ l list. well_wider more (well_before l list);
    trails = λ l list block place q leads less holds.
        let there = was_block l block list leads in
        let trail = lists.trails l list block place q there less
        (holds_back (as_it_was l list block place there (omega arith)) holds) in
        (trail.0, trail_on e (trail_wider (pool_at g) to (omega arith) more trail.1));
    keys = λ l list block place q leads less holds.
        let there = was_block l block list leads in
        lists.keys l list block place q there less (holds_back
        (as_it_was l list block place there (omega arith)) holds);
    apart = λ l k list other differ a b x y.
        lists.apart l k list other differ a b (was_block l a list x) (was_block k b other y);
  }
