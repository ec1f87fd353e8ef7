-- The hash trail of an entry.
use Rattle.std.proofs.Common.{◌≡◌, ◌<◌, ◌≤◌, ◌+◌, ℕ, List, Option, Some, None, sym, subst, arith}
use Rattle.cell_types.specs.Image.{Image}
use Rattle.cell_types.specs.Layout.{Layout, root_at, pool_at}
use Rattle.cell_types.specs.declared.record_cell.RecordCell.TheVariants.{Bucket, Child}
use Rattle.volume_meaning.specs.Volumes.{Holds}
use Rattle.volume_meaning.proofs.Extending.{holds_on}
use Rattle.volume_meaning.specs.HashPaths.{Sought, IsPassed, LeadsDown, HashTrail, here, below, PassedTo, at_root, down, nibble, fingerprint_of}
use Rattle.hash_tree.specs.Levels.{bucket_at, child_at, node_of}
use Rattle.hash_tree.specs.declared.level.Level.{Level}
use Rattle.hash_tree.specs.declared.path.Open.{Open}
use Rattle.hash_tree.specs.Inserting.{HasTrailThere, entry_of}
use Rattle.hash_tree.specs.Readiness.{PassedDown}

-- a hash trail below a path that is passed is one from the root
pub trail_from_root : {image : Image} {s : Sought} {root node level n : ℕ} → PassedTo image s root node level
    → HashTrail image s n node level → HashTrail image s n root 0
trail_from_root {image} {s} {root} {node} {level} {n} (at_root _ _ is zero) trail =
    subst (λ (v : ℕ). HashTrail image s n root v) zero (subst (λ (m : ℕ). HashTrail image s n m level) is trail)
trail_from_root {image} {s} {root} {node} {level} {n} (down _ _ above before is rest passed leads) trail =
    trail_from_root rest
    (below above before node passed leads (subst (λ (v : ℕ). HashTrail image s n node v) is trail))

-- in the level's node
pub trail_alone : (g : Layout) (level : Level) (place : Open) (slot to : ℕ) (planned : Image) → place.child ≡ None
    → Holds planned (bucket_at g level) (entry_of level slot) → HasTrailThere g level place slot to planned
trail_alone g level place slot to planned no_child held = λ image s digest pool cells extends passed.
    let path : PassedTo image s (root_at g) (node_of g level) level.number =
    subst (λ (c : Option ℕ). PassedDown g image s level c) no_child passed in
    let there : Holds image (node_of g level + nibble s.digest level.number) (Bucket slot (fingerprint_of s.digest)) =
    subst (λ (d : List ℕ). Holds image (node_of g level + nibble d level.number) (Bucket slot (fingerprint_of d)))
    (sym digest) (holds_on extends held) in
    trail_from_root path (here (node_of g level) level.number there)

-- in a new node under it
pub trail_with_node : (g : Layout) (level : Level) (place : Open) (slot next to child : ℕ) (planned : Image)
    → place.child ≡ Some child → level.number < 63 → pool_at g ≤ next → to ≡ next + 32
    → Holds planned (child_at g level) (Child next)
    → Holds planned (next + nibble level.digest (level.number + 1)) (entry_of level slot)
    → HasTrailThere g level place slot to planned
trail_with_node g level place slot next to child planned has_child levels from is_to led held =
    λ image s digest pool cells extends passed.
    let path : PassedTo image s (root_at g) (node_of g level) level.number × IsPassed image s (bucket_at g level) =
    subst (λ (c : Option ℕ). PassedDown g image s level c) has_child passed in
    let leads : LeadsDown image s (node_of g level) level.number next = record {
      levels = levels;
      child = subst (λ (d : List ℕ). Holds image (node_of g level + 16 + nibble d level.number) (Child next))
          (sym digest) (holds_on extends led);
      inside_from = omega (arith, pool, from);
      inside_to = omega (arith, cells, is_to);
    } in
    let bucket : Holds image (next + nibble s.digest (level.number + 1)) (Bucket slot (fingerprint_of s.digest)) =
    subst (λ (d : List ℕ). Holds image (next + nibble d (level.number + 1)) (Bucket slot (fingerprint_of d)))
    (sym digest) (holds_on extends held) in
    let passed_above : IsPassed image s (node_of g level + nibble s.digest level.number) =
    subst (λ (d : List ℕ). IsPassed image s (node_of g level + nibble d level.number)) (sym digest) path.1 in
    trail_from_root path.0
    (below (node_of g level) level.number next passed_above leads (here next (level.number + 1) bucket))
