-- Behind a document's whole index the lists and the tree stand as they should.
use Rattle.std.proofs.Common.{◌≡◌, ◌<◌, ◌≤◌, ◌+◌, ⊎_elim, inl, inr, ℕ, List, Option, Some, None, subst, sym, arith, ◌∙◌}
use Rattle.cell_types.specs.Image.{Image, Extends}
use Rattle.cell_types.specs.Layout.{Layout, list_at, pool_at, all_lists}
use Rattle.volume_meaning.proofs.Extending.{written_on}
use Rattle.volume_meaning.specs.Blocks.{Leads}
use Rattle.volume_meaning.specs.HashPaths.{nibble}
use Rattle.volume_meaning.specs.Nodes.{AreApart, IsNode}
use Rattle.ingest_laws.proofs.ListShapes.{adds_extends}
use Rattle.worm_device.proofs.Images.{extends_then}
use Rattle.volume_meaning.specs.Postings.{ListedPosting}
use Rattle.hash_tree.specs.Levels.{node_of}
use Rattle.hash_tree.specs.Steps.{IsOpenAt}
use Rattle.hash_tree.specs.declared.level.Level.{Level}
use Rattle.hash_tree.specs.declared.path.Open.{Open}
use Rattle.jump_insertion.proofs.KeptTrails.{leads_below}
use Rattle.hash_tree.proofs.InsertionPaths.{nibble_low}
use Rattle.hash_tree.specs.Readiness.{blank_in, blank_of, cost_of}
use Rattle.hash_tree.specs.Rooting.{IsRooted, IsRootedBefore, TreeGrows, in_bucket, in_new_node}
use Rattle.ingest_plan.specs.Standing.{IndexStands}
use Rattle.plan_laws.specs.Standing.{EndsPath, IndexesStand, TreeStands}
use Rattle.plan_laws.proofs.BehindRow.{node_on, node_same, tree_behind}
use Rattle.plan_laws.proofs.ListsAside.{lists_aside, was_block}

-- a place's blank cell is one of its level's node
blank_within : (g : Layout) (level : Level) (bucket : ℕ) (child : Option ℕ) → nibble level.digest level.number < 16
    → IsOpenAt g level bucket child → (i : ℕ) × (i < 32) × (blank_in bucket child ≡ node_of g level + i)
blank_within g level bucket None half at = (nibble level.digest level.number, omega (arith, half), at)
blank_within g level bucket (Some child) half at =
    (16 + nibble level.digest level.number, omega (arith, half), omega (arith, at.1))

-- a cell apart from a node is none of the node's
far : {node cell i : ℕ} → AreApart node 32 cell 1 → i < 32 → cell ≡ node + i → ⊥
far apart less here = ⊎_elim (λ low. omega (arith, low, less, here)) (λ high. omega (arith, high, here)) apart

module _ {g : Layout} {n : ℕ} {bound behind : ℕ → ℕ} {rows : List ListedPosting} {level : Level} {place : Open}
    {from to : ℕ} {old new : Image} (pool : pool_at g ≤ from) (inside : to ≤ g.cells)
    (stand : IndexesStand g old from bound) (path : EndsPath g old level place)
    (index : IndexStands g n behind rows level place from to old new) where
  pub half : nibble level.digest level.number < 16
  half = nibble_low level.digest path.digest level.number

  pub tree : TreeStands g index.between index.next
  tree = tree_behind pool stand.tree index.lists (omega (arith, index.more, inside))

  pub node : IsNode g index.between level.number (node_of g level)
  node = node_on index.lists.extends path.node

  blank : index.between (blank_of place) ≡ None
  blank =
      let within = blank_within g level place.bucket place.child half path.open_at in
      subst (λ (c : ℕ). index.between c ≡ old c) (sym within.2)
      (node_same pool stand.tree index.lists path.node within.1)
      ∙ path.blank

  before : IsRootedBefore g level place index.next index.between
  before = record {
    rooted = tree.rooted;
    node = node;
    blank = blank;
    bucket = λ child is. written_on index.lists.extends (path.bucket child is);
    room = λ child is. omega (arith, index.node child is, inside);
  }

  pub rooted : IsRooted g level place n index.next to index.between new
  rooted = index.tree before

  pub extends : TreeGrows g level n index.next to index.between new (cost_of place) → Extends index.between new
  extends (in_bucket adds holds same cost) = adds_extends adds
  extends (in_new_node mid less adds leads adds_bucket holds same cost) =
      extends_then (adds_extends adds) (adds_extends adds_bucket)

  -- what lies outside the level's node, and before the new one, is as it was
  outside : TreeGrows g level n index.next to index.between new (cost_of place) → (cell : ℕ) → cell < index.next
      → AreApart (node_of g level) 32 cell 1 → new cell ≡ index.between cell
  outside (in_bucket adds holds same cost) cell less apart =
      adds.others cell (λ here. far apart (omega (arith, half)) here)
  outside (in_new_node mid levels adds leads adds_bucket holds same cost) cell less apart =
      adds_bucket.others cell (λ here. omega (arith, here, less))
      ∙ adds.others cell (λ here.
      far {i = 16 + nibble level.digest level.number} apart (omega (arith, half)) (omega (arith, here)))

  pub block_same : (l block i : ℕ) → l < all_lists g → Leads index.between (pool_at g) index.next block (list_at g l)
      → i < 256
      → new (block + i) ≡ index.between (block + i)
  block_same l block i list leads less =
      let below = leads_below leads (omega (arith, list, pool, index.lists.more)) in
      outside rooted.grows (block + i) (omega (arith, below, less))
      (⊎_elim (λ low. inl (omega (arith, low))) (λ high. inr (omega (arith, high, less)))
      (tree.apart level.number (node_of g level) l block node list leads))

  pub stands_behind : IndexesStand g new to behind
  stands_behind = record {
    lists = lists_aside index.lists.lists (extends rooted.grows) index.more block_same;
    tree = record {
      rooted = rooted.rooted;
      apart = λ v other l block is list leads.
          let there = was_block index.lists.lists (extends rooted.grows) index.more block_same l block list leads in
          ⊎_elim
          (λ was. tree.apart v other l block was list there)
          (λ new_node.
          let below = leads_below there (omega (arith, list, pool, index.lists.more)) in
          inr (omega (arith, new_node, below)))
          (rooted.nodes v other is);
    };
  }
