-- A slot whose bucket stands where a path is passed up to has a hash trail.
use Rattle.std.proofs.Common.{ℕ, List, subst}
use Rattle.cell_types.specs.Image.{Image}
use Rattle.cell_types.specs.Layout.{Layout, root_at}
use Rattle.volume_meaning.specs.HashPaths.{HashTrail, PassedTo, Sought, at_root, below, down, here}
use Rattle.volume_meaning.specs.Keeping.{sought_in}
use Rattle.identifier_lookup.specs.Walks.{IsFirstOnPath}

-- a hash trail goes on upwards along a path that is passed
leads_up : {image : Image} {s : Sought} {root n node level : ℕ} → PassedTo image s root node level
    → HashTrail image s n node level → HashTrail image s n root 0
leads_up {image} {s} {root} {n} (at_root node level is first) trail =
    subst (λ (m : ℕ). HashTrail image s n m 0) is (subst (λ (v : ℕ). HashTrail image s n node v) first trail)
leads_up {image} {s} {root} {n} (down node level above before next rest passed leads) trail =
    leads_up rest (below above before node passed leads (subst (λ (v : ℕ). HashTrail image s n node v) next trail))

-- what is first on a path has a hash trail from the root
pub first_trail : {g : Layout} {cells : ℕ} {image : Image} {id : List ℕ} {n : ℕ} → IsFirstOnPath g cells image id n
    → HashTrail image (sought_in cells g id) n (root_at g) 0
first_trail f = leads_up f.passed (here f.node f.level f.bucket)
