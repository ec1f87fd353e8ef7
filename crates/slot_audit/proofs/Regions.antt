-- Which cells are of the index, and where the edge is, by the log.
use Rattle.std.proofs.Common.{◌≡◌, ◌<◌, ◌≤◌, ◌+◌, ◌-◌, ◌/◌, ⊎_elim, inr, ℕ, arith}
use Rattle.cell_types.specs.Image.{Image}
use Rattle.cell_types.specs.Layout.{Layout, all_lists, lists_at, root_at, pool_at}
use Rattle.tamper_rules.specs.Journals.{LiesInBlocks, IsNamed}
use Rattle.tamper_rules.specs.Rules.{IsDoneIndexCell, of_list, of_root, of_slot}
use Rattle.log_audit.specs.Logs.{IsLog}
use Rattle.log_audit.specs.declared.log.Log.{Log}
use Rattle.log_audit.proofs.Logged.{stores_of}
use Rattle.log_audit.proofs.Edges.{one_edge}
use Rattle.log_audit.proofs.Orders.{below_or_not}
use Rattle.slot_audit.specs.Strays.{IsExpected}

-- each cell between the slots' and the pool is one of the index
pub in_first_parts : (g : Layout) (image : Image) (cell : ℕ) → lists_at g ≤ cell → cell < pool_at g → IsDoneIndexCell g image cell
in_first_parts g image cell from below = ⊎_elim
    (λ (low : cell < root_at g). of_list ((cell - lists_at g) / 256) (record {
      exists = omega (arith, from, low);
      from = omega (arith, from, low);
      below = omega (arith, from, low);
    }))
    (λ (high : root_at g ≤ cell). ⊎_elim
    (λ (root : cell < root_at g + 32). of_root (record { exists = tt; from = high; below = root }))
    (λ (time : root_at g + 32 ≤ cell). of_list g.lists (record {
      exists = omega (arith, time, below);
      from = omega (arith, time, below);
      below = omega (arith, time, below);
    }))
    (below_or_not cell (root_at g + 32)))
    (below_or_not cell (root_at g))

-- no cell before them is
pub not_before : (g : Layout) (image : Image) (cell : ℕ) → IsDoneIndexCell g image cell → lists_at g ≤ cell
not_before g image cell (of_list l lies) = omega (arith, lies.from)
not_before g image cell (of_root lies) = omega (arith, lies.from)
not_before g image cell (of_slot m start reserved bytes journal done from below) = omega (arith, from, done.commits.reserves.from)

module _ (g : Layout) (image : Image) (log : Log) (is : IsLog g image log) where
  -- a cell of a slot's blocks is one of the index
  pub in_blocks : (m cell : ℕ) → LiesInBlocks g image m cell → IsDoneIndexCell g image cell
  in_blocks m cell lies =
      let some = stores_of g image log is m lies.start lies.length lies.bytes lies.journal lies.stores in
      of_slot m lies.start lies.length lies.bytes lies.journal (is.each m _ some).0 lies.from lies.below

  -- and a cell of the pool that is one of the index is of a slot's blocks
  pub owned : (cell : ℕ) → pool_at g ≤ cell → IsDoneIndexCell g image cell → (m : ℕ) × LiesInBlocks g image m cell
  owned cell pool (of_list l lies) = absurd (let e : l < all_lists g = lies.exists in omega (arith, lies.below, e, pool))
  owned cell pool (of_root lies) = absurd (omega (arith, lies.below, pool))
  owned cell pool (of_slot m start reserved bytes journal done from below) = (
    m,
    record {
      start = start;
      length = reserved;
      bytes = bytes;
      journal = journal;
      stores = record { commits = done.commits; done = inr done.done };
      from = from;
      below = below;
    },
  )

  -- what is expected in each region
  pub expected_first : (cell : ℕ) → cell ≡ 0 → IsExpected g image cell
  expected_first cell first = record {
    kept_blank = λ some. absurd (omega (arith, some, first));
    named = λ index. absurd (let n = not_before g image cell index in omega (arith, n, first));
    edge = λ at e pool. absurd (omega (arith, pool, first));
  }

  pub expected_slots : (cell : ℕ) → 4 ≤ cell → cell < lists_at g → IsExpected g image cell
  expected_slots cell from below = record {
    kept_blank = λ some. from;
    named = λ index. absurd (let n = not_before g image cell index in omega (arith, n, below));
    edge = λ at e pool. absurd (omega (arith, pool, below));
  }

  pub expected_named : (cell : ℕ) → 4 ≤ cell → (pool_at g ≤ cell → cell < log.edge) → IsNamed g image cell → IsExpected g image cell
  expected_named cell from before named = record {
    kept_blank = λ some. from;
    named = λ index. named;
    edge = λ at e pool. let one = one_edge g image log is at e in let b = before pool in omega (arith, one, b);
  }

  pub expected_free : (cell : ℕ) → 4 ≤ cell → pool_at g ≤ cell → cell < log.edge → ((m : ℕ) → LiesInBlocks g image m cell → ⊥)
      → IsExpected g image cell
  expected_free cell from pool before nobody = record {
    kept_blank = λ some. from;
    named = λ index. let o = owned cell pool index in absurd (nobody o.0 o.1);
    edge = λ at e p. let one = one_edge g image log is at e in omega (arith, one, before);
  }
