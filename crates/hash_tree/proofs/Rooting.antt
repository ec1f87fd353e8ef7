-- The tree keeps its shape with an entry, and what is new in it.
use Rattle.std.proofs.Common.{◌≡◌, ◌≢◌, ◌<◌, ◌≤◌, ◌+◌, ◌⊎◌, ⊎_elim, inl, inr, ◌∙◌, ℕ, List, Option, Some, None, refl, ap, sym, subst, arith}
use Rattle.std.proofs.lemmas.Option.{none-some}
use Rattle.cell_types.specs.Image.{Image, Extends}
use Rattle.cell_types.specs.Layout.{Layout, pool_at}
use Rattle.cell_types.specs.declared.record_cell.RecordCell.TheVariants.{Child}
use Rattle.volume_meaning.specs.Volumes.{Holds, IsWritten}
use Rattle.volume_meaning.proofs.Extending.{holds_on}
use Rattle.volume_meaning.proofs.Holding.{one_record_holds}
use Rattle.volume_meaning.specs.HashPaths.{nibble}
use Rattle.volume_meaning.specs.Nodes.{IsNode, IsOnPath}
use Rattle.volume_meaning.specs.Nodes as nodes
use Rattle.tamper_rules.proofs.GivenUp.{children}
use Rattle.tamper_rules.proofs.Writing.{same_or_not}
use Rattle.ingest_laws.specs.ListShapes.{AddsOneCell}
use Rattle.ingest_laws.specs.TreeShapes.{IsWellRooted}
use Rattle.ingest_laws.proofs.ListShapes.{adds_extends, holds_back}
use Rattle.ingest_laws.proofs.TreeShapes.{one_level, rooted_apart, rooted_with_child}
use Rattle.hash_tree.specs.Levels.{bucket_at, child_at, node_of}
use Rattle.hash_tree.specs.declared.level.Level.{Level}
use Rattle.hash_tree.specs.declared.path.Open.{Open}
use Rattle.hash_tree.specs.Inserting.{entry_of}
use Rattle.hash_tree.specs.Readiness.{blank_in, cost_in}
use Rattle.hash_tree.specs.Rooting.{IsNewBucket, IsRooted, IsRootedBefore, in_bucket, in_new_node}

-- a node stays one
pub node_on : {g : Layout} {old new : Image} {v node : ℕ} → Extends old new → IsNode g old v node → IsNode g new v node
node_on e (nodes.IsNode.root v node is at) = nodes.IsNode.root v node is at
node_on e (nodes.IsNode.under v node u above x is rest xs less child from inside) =
    nodes.IsNode.under v node u above x is (node_on e rest) xs less (holds_on e child) from inside

-- and stays on the path
path_on : {g : Layout} {old new : Image} {digest : List ℕ} {v node : ℕ} → Extends old new
    → IsOnPath g old digest v node → IsOnPath g new digest v node
path_on e (nodes.IsOnPath.root v node is at) = nodes.IsOnPath.root v node is at
path_on e (nodes.IsOnPath.under v node u above is rest less child from inside) =
    nodes.IsOnPath.under v node u above is (path_on e rest) less (holds_on e child) from inside

-- where the child cells of nodes say the same, the nodes are the same
node_back : {g : Layout} {old new : Image}
    → ((v node x : ℕ) → IsNode g old v node → x < 16 → new (node + 16 + x) ≡ old (node + 16 + x))
    → {v node : ℕ} → IsNode g new v node → IsNode g old v node
node_back same (nodes.IsNode.root v node is at) = nodes.IsNode.root v node is at
node_back same (nodes.IsNode.under v node u above x is rest xs less child from inside) =
    let there = node_back same rest in
    nodes.IsNode.under v node u above x is there xs less (holds_back (same u above x there xs) child) from inside

-- a cell lies in one node, in one place
same_place : {g : Layout} {image : Image} {to v node u other a b : ℕ} → IsWellRooted g image to → IsNode g image v node
    → IsNode g image u other → a < 32 → b < 32 → node + a ≡ other + b → (node ≡ other) × (a ≡ b)
same_place {g} {image} {to} {v} {node} {u} {other} w n m in_one in_other same =
    ⊎_elim
    (λ is. (is, omega (arith, is, same)))
    (λ far. absurd (⊎_elim
    (λ low. omega (arith, low, in_one, in_other, same))
    (λ high. omega (arith, high, in_one, in_other, same))
    far))
    (w.apart v node u other n m)

-- one bucket more
module _ {g : Layout} {old new : Image} {to v node x : ℕ} (w : IsWellRooted g old to) (n : IsNode g old v node)
    (xs : x < 16) (a : AddsOneCell (node + x) old new) where
  pub child_same : (u other y : ℕ) → IsNode g old u other → y < 16 → new (other + 16 + y) ≡ old (other + 16 + y)
  child_same u other y m ys =
      a.others (other + 16 + y)
      (λ same. let is = same_place w m n (let h : 16 + y < 32 = omega (arith, ys) in h)
      (let h : x < 32 = omega (arith, xs) in h) (let h : other + (16 + y) ≡ node + x = omega (arith, same) in h) in
      omega (arith, is.1, xs))

  pub with_bucket : IsWellRooted g new to
  with_bucket = rooted_apart w (adds_extends a) child_same

  pub node_before : {u other : ℕ} → IsNode g new u other → IsNode g old u other
  node_before m = node_back child_same m

  pub the_new_bucket : (u other y : ℕ) → IsNode g new u other → y < 16 → old (other + y) ≡ None
      → IsWritten new (other + y) → (u ≡ v) × (other ≡ node) × (y ≡ x)
  the_new_bucket u other y m ys none is =
      let there = node_before m in
      ⊎_elim
      (λ same.
      let it = same_place w there n (let h : y < 32 = omega (arith, ys) in h) (let h : x < 32 = omega (arith, xs) in h)
      same in
      (one_level w there v (subst (λ (m : ℕ). IsNode g old v m) (sym it.0) n), it.0, it.1))
      (λ differ. absurd (none-some is.found (sym none ∙ sym (a.others (other + y) differ) ∙ is.stands)))
      (same_or_not (other + y) (node + x))

-- the new bucket, by its place
new_bucket : (g : Layout) (level : Level) (slot : ℕ) (old new : Image) (v node u other y : ℕ)
    → Holds new (node + nibble level.digest v) (entry_of level slot)
    → (IsOnPath g old level.digest level.number (node_of g level) → IsOnPath g new level.digest v node)
    → u ≡ v → other ≡ node → y ≡ nibble level.digest v → IsNewBucket g level slot old new u other y
new_bucket g level slot old new v node u other y held path is_level is_node is_half = record {
  holds = subst (λ (c : ℕ). Holds new c (entry_of level slot))
      (let h : node + nibble level.digest v ≡ other + y = omega (arith, is_node, is_half) in h) held;
  half_byte = is_half ∙ ap (λ (k : ℕ). nibble level.digest k) (sym is_level);
  on_path = λ before.
      subst (λ (k : ℕ). IsOnPath g new level.digest k other) (sym is_level)
      (subst (λ (m : ℕ). IsOnPath g new level.digest v m) (sym is_node) (path before));
}

-- in the level's node
pub rooted_alone : (g : Layout) (level : Level) (place : Open) (slot next : ℕ) (old new : Image)
    → nibble level.digest level.number < 16 → place.child ≡ None → place.bucket ≡ bucket_at g level
    → Holds new (bucket_at g level) (entry_of level slot)
    → ((cell : ℕ) → cell ≢ bucket_at g level → new cell ≡ old cell)
    → IsRootedBefore g level place next old → IsRooted g level place slot next next old new
rooted_alone g level place slot next old new half no_child is_bucket held others before =
    let blank : old (bucket_at g level) ≡ None =
    subst (λ (c : ℕ). old c ≡ None) is_bucket
    (subst (λ (c : Option ℕ). old (blank_in place.bucket c) ≡ None) no_child before.blank) in
    let a : AddsOneCell (bucket_at g level) old new = record { was = blank; others = others } in
    record {
      rooted = with_bucket before.rooted before.node half a;
      grows = in_bucket a held refl (ap (λ (c : Option ℕ). cost_in c) no_child);
      nodes = λ v node n. inl (node_before before.rooted before.node half a n);
      new_children = λ v node x target n xs none h. absurd (none-some h.cell
          (sym none ∙ sym (child_same before.rooted before.node half a v node x
          (node_before before.rooted before.node half a n) xs) ∙ h.stands));
      new_buckets = λ v node x n xs none is.
          let it = the_new_bucket before.rooted before.node half a v node x n xs none is in
          new_bucket g level slot old new level.number (node_of g level) v node x held
          (λ path. path_on (adds_extends a) path) it.0 it.1 it.2;
    }

-- in a new node under it
module _ (g : Layout) (level : Level) (place : Open) (slot next to : ℕ) (old mid new : Image)
    (half : nibble level.digest level.number < 16) (next_half : nibble level.digest (level.number + 1) < 16)
    (levels : level.number < 63) (low : node_of g level + 32 ≤ next) (pool : pool_at g ≤ next) (is_to : to ≡ next + 32)
    (beyond : (cell : ℕ) → next ≤ cell → old cell ≡ None)
    (child : Holds mid (child_at g level) (Child next))
    (others : (cell : ℕ) → cell ≢ child_at g level → mid cell ≡ old cell)
    (held : Holds new (next + nibble level.digest (level.number + 1)) (entry_of level slot))
    (others_of_node : (cell : ℕ) → cell ≢ next + nibble level.digest (level.number + 1) → new cell ≡ mid cell)
    (before : IsRootedBefore g level place next old) (at : ℕ) (has_child : place.child ≡ Some at)
    (is_bucket : place.bucket ≡ bucket_at g level) (is_child : at ≡ child_at g level) where
  blank : old (child_at g level) ≡ None
  blank =
      subst (λ (c : ℕ). old c ≡ None) is_child
      (subst (λ (c : Option ℕ). old (blank_in place.bucket c) ≡ None) has_child before.blank)

  above : IsWritten old (bucket_at g level)
  above = subst (λ (c : ℕ). IsWritten old c) is_bucket (before.bucket at has_child)

  a : AddsOneCell (child_at g level) old mid
  a = record { was = blank; others = others }

  -- what is free is blank with the child cell too
  still_blank : (cell : ℕ) → next ≤ cell → mid cell ≡ None
  still_blank cell past = others cell (λ same. omega (arith, same, half, low, past)) ∙ beyond cell past

  b : AddsOneCell (next + nibble level.digest (level.number + 1)) mid new
  b = record {
    was = still_blank (next + nibble level.digest (level.number + 1)) (omega arith);
    others = others_of_node;
  }

  mid_rooted : IsWellRooted g mid (next + 32)
  mid_rooted = rooted_with_child before.rooted before.node half levels a child above (omega arith) pool
      (before.room at has_child)
      (λ i less. beyond (next + 16 + i) (omega arith))

  new_node : IsNode g mid (level.number + 1) next
  new_node = nodes.IsNode.under (level.number + 1) next level.number (node_of g level)
      (nibble level.digest level.number) refl (node_on (adds_extends a) before.node) half levels child pool
      (before.room at has_child)

  -- a child cell that was blank leads to the new node
  leads_there : (cell target : ℕ) → old cell ≡ None → Holds mid cell (Child target) → target ≡ next
  leads_there cell target none h =
      ⊎_elim
      (λ same. children target next
      (one_record_holds mid (child_at g level) (Child target) (Child next)
      (subst (λ (c : ℕ). Holds mid c (Child target)) same h) child))
      (λ differ. absurd (none-some h.cell (sym none ∙ sym (others cell differ) ∙ h.stands)))
      (same_or_not cell (child_at g level))

  -- a node was one before, or is the new one
  node_of_mid : {u other : ℕ} → IsNode g mid u other → IsNode g old u other ⊎ (other ≡ next)
  node_of_mid (nodes.IsNode.root u other is at) = inl (nodes.IsNode.root u other is at)
  node_of_mid (nodes.IsNode.under u other k over y is rest ys less hop from inside) =
      ⊎_elim
      (λ there. ⊎_elim
      (λ same. inr (children other next (one_record_holds mid (child_at g level) (Child other) (Child next)
      (subst (λ (c : ℕ). Holds mid c (Child other)) same hop) child)))
      (λ differ. inl (nodes.IsNode.under u other k over y is there ys less
      (holds_back (others (over + 16 + y) differ) hop) from inside))
      (same_or_not (over + 16 + y) (child_at g level)))
      (λ same. absurd (none-some hop.cell (sym (still_blank (over + 16 + y) (omega (arith, same))) ∙ hop.stands)))
      (node_of_mid rest)

  on_new_path : IsOnPath g old level.digest level.number (node_of g level)
      → IsOnPath g new level.digest (level.number + 1) next
  on_new_path path =
      path_on (adds_extends b)
      (nodes.IsOnPath.under (level.number + 1) next level.number (node_of g level) refl
      (path_on (adds_extends a) path) levels child pool (before.room at has_child))

  -- a bucket that was blank is so with the child cell too
  bucket_blank : (u other y : ℕ) → IsNode g mid u other → y < 16 → old (other + y) ≡ None → mid (other + y) ≡ None
  bucket_blank u other y m ys none =
      others (other + y)
      (λ same.
      let is = same_place mid_rooted m (node_on (adds_extends a) before.node)
      (let h : y < 32 = omega (arith, ys) in h)
      (let h : 16 + nibble level.digest level.number < 32 = omega (arith, half) in h)
      (let h : other + y ≡ node_of g level + (16 + nibble level.digest level.number) = omega (arith, same) in h) in
      omega (arith, is.1, ys))
      ∙ none

  pub rooted_with_node : IsRooted g level place slot next to old new
  rooted_with_node = record {
    rooted = subst (λ (n : ℕ). IsWellRooted g new n) (sym is_to) (with_bucket mid_rooted new_node next_half b);
    grows = in_new_node mid levels a (holds_on (adds_extends b) child) b held is_to
        (ap (λ (c : Option ℕ). cost_in c) has_child);
    nodes = λ v node n. node_of_mid (node_before mid_rooted new_node next_half b n);
    new_children = λ v node x target n xs none h.
        leads_there (node + 16 + x) target none
        (holds_back (child_same mid_rooted new_node next_half b v node x
        (node_before mid_rooted new_node next_half b n) xs) h);
    new_buckets = λ v node x n xs none is.
        let it = the_new_bucket mid_rooted new_node next_half b v node x n xs
        (bucket_blank v node x (node_before mid_rooted new_node next_half b n) xs none) is in
        new_bucket g level slot old new (level.number + 1) next v node x held on_new_path it.0 it.1 it.2;
  }
