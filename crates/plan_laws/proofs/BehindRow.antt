-- Behind a row of postings the tree stands as before.
use Rattle.std.proofs.Common.{◌≡◌, ◌<◌, ◌≤◌, ◌+◌, ⊎_elim, inl, inr, ℕ, List, subst, arith}
use Rattle.cell_types.specs.Image.{Image, Extends}
use Rattle.cell_types.specs.Layout.{Layout, pool_at}
use Rattle.volume_meaning.proofs.Extending.{holds_on}
use Rattle.volume_meaning.specs.Nodes.{IsNode, root, under}
use Rattle.ingest_laws.specs.TreeShapes.{IsWellRooted}
use Rattle.ingest_laws.proofs.ListShapes.{holds_back}
use Rattle.ingest_laws.proofs.TreeShapes.{node_place, rooted_apart, rooted_wider}
use Rattle.volume_meaning.specs.Postings.{ListedPosting}
use Rattle.ingest_plan.specs.Standing.{RowStands}
use Rattle.plan_laws.specs.Standing.{TreeStands}

-- a node is one in each image that extends this one
pub node_on : {g : Layout} {old new : Image} {v node : ℕ} → Extends old new → IsNode g old v node → IsNode g new v node
node_on e (root v node is at) = root v node is at
node_on e (under v node u above x is rest less levels child from inside) =
    under v node u above x is (node_on e rest) less levels (holds_on e child) from inside

-- a node lies before the pool's next cell
node_before : {g : Layout} {image : Image} {v node from : ℕ} → pool_at g ≤ from → IsWellRooted g image from
    → IsNode g image v node → node + 32 ≤ from
node_before {g} {image} {v} {node} {from} pool w is = ⊎_elim
    (λ at. omega (arith, at, pool))
    (λ (there : (pool_at g ≤ node) × (node + 32 ≤ from)). there.1)
    (node_place w is)

module _ {g : Layout} {behind : ℕ → ℕ} {rows : List ListedPosting} {count from to : ℕ} {old new : Image}
    (pool : pool_at g ≤ from) (tree : TreeStands g old from) (row : RowStands g behind rows count from to old new) where
  -- each cell of a node is as it was
  pub node_same : {v node i : ℕ} → IsNode g old v node → i < 32 → new (node + i) ≡ old (node + i)
  node_same {v} {node} {i} is less =
      row.outside (node + i) (omega (arith, node_before pool tree.rooted is, less))
      (λ l block list leads. ⊎_elim
      (λ low. inr (omega (arith, low, less)))
      (λ high. inl (omega (arith, high)))
      (tree.apart v node l block is list leads))

  child_same : {v node x : ℕ} → IsNode g old v node → x < 16 → new (node + 16 + x) ≡ old (node + 16 + x)
  child_same {v} {node} {x} is less =
      let same : node + (16 + x) ≡ node + 16 + x = omega arith in
      subst (λ (c : ℕ). new c ≡ old c) same (node_same is (omega (arith, less)))

  pub node_back : {v node : ℕ} → IsNode g new v node → IsNode g old v node
  node_back (root v node is at) = root v node is at
  node_back (under v node u above x is rest less levels child from inside) =
      let there = node_back rest in
      under v node u above x is there less levels (holds_back (child_same there less) child) from inside

  pub tree_behind : to ≤ g.cells → TreeStands g new to
  tree_behind inside = record {
    rooted = rooted_wider row.more inside
        (rooted_apart tree.rooted row.extends (λ v node x is less. child_same is less));
    apart = λ v node l block is list leads.
        let there = node_back is in
        ⊎_elim
        (λ was. tree.apart v node l block there list was)
        (λ later. inl (omega (arith, node_before pool tree.rooted there, later)))
        (row.blocks l block list leads);
  }
