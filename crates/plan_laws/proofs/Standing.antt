-- The lists and the tree stand in the new image as they do behind the index.
use Rattle.std.proofs.Common.{◌≡◌, ◌<◌, ◌≤◌, ◌+◌, ◌⊎◌, ⊎_elim, inl, inr, ℕ, List, sym, subst, arith}
use Rattle.cell_types.specs.Image.{Image}
use Rattle.cell_types.specs.Layout.{Layout, list_at, pool_at, root_at, all_lists, lists_at}
use Rattle.volume_meaning.specs.Blocks.{Leads}
use Rattle.volume_meaning.specs.Nodes.{AreApart, IsBlockOf, IsNode, root, under}
use Rattle.volume_meaning.specs.Postings.{ListedPosting}
use Rattle.tamper_rules.proofs.Writing.{same_or_not}
use Rattle.ingest_laws.specs.Filling.{blocks_end}
use Rattle.ingest_laws.specs.Ingesting.{Plan}
use Rattle.ingest_laws.specs.ListShapes.{IsWellListed}
use Rattle.ingest_laws.specs.TreeShapes.{IsWellRooted}
use Rattle.ingest_laws.proofs.ListShapes.{back, holds_back}
use Rattle.ingest_laws.proofs.SettledShapes.{leads_wider}
use Rattle.ingest_laws.proofs.TreeShapes.{node_place, rooted_apart}
use Rattle.hash_tree.specs.declared.level.Level.{Level}
use Rattle.hash_tree.specs.declared.path.Open.{Open}
use Rattle.jump_insertion.proofs.KeptTrails.{leads_below}
use Rattle.ingest_plan.specs.Standing.{ListsStand}
use Rattle.plan_laws.specs.Standing.{below_slot, seconds_of}
use Rattle.plan_laws.proofs.ListsAside.{lists_aside, was_block}
use Rattle.plan_laws.proofs.SettledTrees.{block_place}
use Rattle.plan_laws.specs.Laws.{IsPlannedIndex}
use Rattle.plan_laws.proofs.Behind.{block_was, more, node_was, pool_before, stand_behind, to_inside}
use Rattle.plan_laws.proofs.NewImage.{ends_there, new_image}
use Rattle.plan_laws.proofs.Rows.{extends_new, same_new}

module _ {g : Layout} {old laid : Image} {p : Plan} {rows : List ListedPosting} {level : Level} {place : Open} {to : ℕ}
    {planned : Image} (h : IsPlannedIndex g old laid p rows level place to planned) where
  -- a block lies behind the slots, and before the document
  pub block_lies : (l block : ℕ) → l < all_lists g → Leads laid (pool_at g) to block (list_at g l)
      → (lists_at g ≤ block) × (block + 256 ≤ to)
  block_lies l block list leads = (
    ⊎_elim (λ first. omega (arith, first)) (λ pool. omega (arith, pool)) (block_place leads),
    leads_below leads (omega (arith, list, pool_before h, more h)),
  )

  pub block_same : (l block i : ℕ) → l < all_lists g → Leads laid (pool_at g) to block (list_at g l) → i < 256
      → new_image h (block + i) ≡ laid (block + i)
  block_same l block i list leads less =
      let lies = block_lies l block list leads in
      same_new h (block + i) (omega (arith, lies.0)) (omega (arith, lies.1, less))

  pub new_lists : ListsStand g (new_image h) to (below_slot g (p.slot + 1) (seconds_of p.stamp + 1))
  new_lists = lists_aside (stand_behind h).lists (extends_new h) (omega arith) block_same

  pub block_laid : (l block : ℕ) → l < all_lists g → Leads (new_image h) (pool_at g) to block (list_at g l)
      → Leads laid (pool_at g) to block (list_at g l)
  block_laid l block list leads =
      was_block (stand_behind h).lists (extends_new h) (omega arith) block_same l block list leads

  -- a block of the new image is one that is laid
  pub block_back : {l block : ℕ} → IsBlockOf g (new_image h) l block → Leads laid (pool_at g) to block (list_at g l)
  block_back {l} {block} b = block_laid l block b.list (back (to_inside h) (new_lists.well l b.list) b.leads)

  -- a node lies behind the slots, and before the document
  pub node_lies : {v node : ℕ} → IsNode g laid v node → (lists_at g ≤ node) × (node + 32 ≤ to)
  node_lies {v} {node} is = ⊎_elim
      (λ (at : node ≡ root_at g). (omega (arith, at), omega (arith, at, pool_before h, more h)))
      (λ (there : (pool_at g ≤ node) × (node + 32 ≤ to)). (omega (arith, there.0), there.1))
      (node_place (stand_behind h).tree.rooted is)

  pub node_same : {v node : ℕ} (i : ℕ) → IsNode g laid v node → i < 32 → new_image h (node + i) ≡ laid (node + i)
  node_same {v} {node} i is less =
      let lies = node_lies is in
      same_new h (node + i) (omega (arith, lies.0)) (omega (arith, lies.1, less))

  pub child_same : {v node : ℕ} (x : ℕ) → IsNode g laid v node → x < 16
      → new_image h (node + 16 + x) ≡ laid (node + 16 + x)
  child_same {v} {node} x is less =
      let lies = node_lies is in
      same_new h (node + 16 + x) (omega (arith, lies.0)) (omega (arith, lies.1, less))

  -- a node of the new image is one that is laid
  pub node_back : {v node : ℕ} → IsNode g (new_image h) v node → IsNode g laid v node
  node_back (root v node is at) = root v node is at
  node_back (under v node u above x is rest less levels child from inside) =
      let there = node_back rest in
      under v node u above x is there less levels (holds_back (child_same x there less) child) from inside

  pub new_rooted : IsWellRooted g (new_image h) to
  new_rooted =
      rooted_apart (stand_behind h).tree.rooted (extends_new h) (λ v node x is less. child_same x is less)

  -- what a well made plan says of lists and tree
  pub lists : (l : ℕ) → l < all_lists g → IsWellListed (new_image h) (pool_at g) (blocks_end p) (list_at g l)
  lists l list =
      subst (λ (end : ℕ). IsWellListed (new_image h) (pool_at g) end (list_at g l)) (sym (ends_there h))
      (new_lists.well l list)

  pub tree : IsWellRooted g (new_image h) (blocks_end p)
  tree = subst (λ (end : ℕ). IsWellRooted g (new_image h) end) (sym (ends_there h)) new_rooted

  pub apart : (l k a b : ℕ) → IsBlockOf g (new_image h) l a → IsBlockOf g (new_image h) k b
      → ((b ≡ a) × (k ≡ l)) ⊎ AreApart a 256 b 256
  apart l k a b x y = ⊎_elim
      (λ (same : k ≡ l).
      let other : Leads laid (pool_at g) to b (list_at g l) =
      subst (λ (m : ℕ). Leads laid (pool_at g) to b (list_at g m)) same (block_back y) in
      ⊎_elim
      (λ one. inl (sym one, same))
      inr
      (((stand_behind h).lists.well l x.list).apart a b (block_back x) other))
      (λ differ. inr
      ((stand_behind h).lists.apart l k x.list y.list (λ same. differ (sym same)) a b (block_back x) (block_back y)))
      (same_or_not k l)

  pub apart_nodes : (l a v node : ℕ) → IsBlockOf g (new_image h) l a → IsNode g (new_image h) v node
      → AreApart a 256 node 32
  apart_nodes l a v node b is =
      ⊎_elim inr inl ((stand_behind h).tree.apart v node l a (node_back is) b.list (block_back b))

  pub blocks : (l block : ℕ) → IsBlockOf g (new_image h) l block → IsBlockOf g old l block ⊎ (p.start ≤ block)
  blocks l block b = ⊎_elim
      (λ was. inl (record { list = b.list; leads = leads_wider (omega (arith, more h, to_inside h)) was }))
      inr
      (block_was h l block b.list (block_back b))

  pub nodes : (v node : ℕ) → IsNode g (new_image h) v node → IsNode g old v node ⊎ (p.start ≤ node)
  nodes v node is = ⊎_elim
      inl
      (λ next. inr (omega (arith, next, h.stands.lists.more)))
      (node_was h (node_back is))
