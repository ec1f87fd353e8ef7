-- An entry takes what its identifier's bucket needs.
use Rattle.std.proofs.Common.{◌≡◌, ◌<◌, ◌+◌, ℕ, List, Option, Some, None, ap, sym, subst}
use Rattle.cell_types.specs.Image.{Image}
use Rattle.cell_types.specs.Layout.{Layout}
use Rattle.volume_meaning.specs.HashPaths.{IsPassed, nibble}
use Rattle.volume_meaning.specs.Keeping.{sought_in}
use Rattle.ingest_laws.specs.Needs.{BucketCosts}
use Rattle.hash_tree.specs.Levels.{bucket_at, child_at, node_of}
use Rattle.hash_tree.specs.declared.level.Level.{Level}
use Rattle.hash_tree.specs.declared.path.Open.{Open}
use Rattle.hash_tree.specs.Inserting.{TakesItsNeed}
use Rattle.hash_tree.specs.Readiness.{PassedDown, blank_in, cost_in}

-- in the level's node
pub need_alone : (g : Layout) (level : Level) (place : Open) (image : Image) → place.child ≡ None
    → place.bucket ≡ bucket_at g level → TakesItsNeed g level place image
need_alone g level place image no_child is_bucket = λ id same blank passed.
    let here : image (bucket_at g level) ≡ None =
    subst (λ (c : ℕ). image c ≡ None) is_bucket
    (subst (λ (c : Option ℕ). image (blank_in place.bucket c) ≡ None) no_child blank) in
    BucketCosts.in_bucket level.number (node_of g level)
    (subst (λ (c : Option ℕ). PassedDown g image (sought_in g.cells g id) level c) no_child passed)
    (subst (λ (d : List ℕ). image (node_of g level + nibble d level.number) ≡ None) (sym same) here)
    (ap (λ (c : Option ℕ). cost_in c) no_child)

-- in a new node under it
pub need_with_node : (g : Layout) (level : Level) (place : Open) (image : Image) (child : ℕ) → place.child ≡ Some child
    → child ≡ child_at g level → level.number < 63 → TakesItsNeed g level place image
need_with_node g level place image child has_child is_child levels = λ id same blank passed.
    let here : image (child_at g level) ≡ None =
    subst (λ (c : ℕ). image c ≡ None) is_child
    (subst (λ (c : Option ℕ). image (blank_in place.bucket c) ≡ None) has_child blank) in
    let path : PassedDown g image (sought_in g.cells g id) level (Some child) =
    subst (λ (c : Option ℕ). PassedDown g image (sought_in g.cells g id) level c) has_child passed in
    BucketCosts.in_new_node level.number (node_of g level) levels path.0
    (subst (λ (d : List ℕ). IsPassed image (sought_in g.cells g id) (node_of g level + nibble d level.number))
    (sym same) path.1)
    (subst (λ (d : List ℕ). image (node_of g level + 16 + nibble d level.number) ≡ None) (sym same) here)
    (ap (λ (c : Option ℕ). cost_in c) has_child)
