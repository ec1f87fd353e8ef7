-- The path of a digest, node after node.
use Rattle.std.proofs.Common.{◌≡◌, ◌<◌, ◌≤◌, ◌+◌, ◌⊎◌, ⊎_elim, ℕ, List, refl, sym, ◌∙◌, subst, ap, arith}
use Rattle.cell_types.specs.Image.{Image}
use Rattle.cell_types.specs.Layout.{Layout, root_at}
use Rattle.cell_types.specs.declared.record_cell.RecordCell.TheVariants.{Child}
use Rattle.volume_meaning.specs.HashPaths.{nibble}
use Rattle.volume_meaning.specs.Nodes.{IsOnPath, root, under}
use Rattle.volume_meaning.specs.Volumes.{Holds}
use Rattle.log_audit.proofs.Orders.{below_or_at}
use Rattle.tree_audit.specs.ChildCells.{HasChildInPool}
use Rattle.tree_audit.specs.Paths.{GoesBy}
use Rattle.tree_audit.proofs.Closing.{one_target}

-- a path has one node at a level
pub one_on_level : {g : Layout} {image : Image} {digest : List ℕ} {v a b : ℕ} → IsOnPath g image digest v a → IsOnPath g image digest v b → a ≡ b
one_on_level (root v a first is) (root _ b first' is') = is ∙ sym is'
one_on_level (root v a first is) (under _ b w above next rest low child from to) = absurd (omega (arith, first, next))
one_on_level (under v a w above next rest low child from to) (root _ b first is) = absurd (omega (arith, first, next))
one_on_level {g} {image} {digest} {v} {a} {b} (under _ _ w above next rest low child from to) (under _ _ w' above' next' rest' low' child' from' to') =
    let level : w' ≡ w = omega (arith, next, next') in
    let same : above' ≡ above = sym (one_on_level rest (subst (λ (u : ℕ). IsOnPath g image digest u above') level rest')) in
    let cell : above' + 16 + nibble digest w' ≡ above + 16 + nibble digest w =
    ap (λ (u : ℕ). above' + 16 + nibble digest u) level ∙ ap (λ (m : ℕ). m + 16 + nibble digest w) same in
    let one : HasChildInPool g image (above + 16 + nibble digest w) a = record { held = child; from = from; to = to } in
    let other : HasChildInPool g image (above + 16 + nibble digest w) b =
    record { held = subst (λ (c : ℕ). Holds image c (Child b)) cell child'; from = from'; to = to' } in
    one_target one other

-- and goes on from a node of it where it has one further down
pub goes_on : {g : Layout} {image : Image} {digest : List ℕ} {v at w node : ℕ} → IsOnPath g image digest v at → IsOnPath g image digest w node → v < w
    → (target : ℕ) × HasChildInPool g image (at + 16 + nibble digest v) target
goes_on here (root w node first is) less = absurd (omega (arith, first, less))
goes_on {g} {image} {digest} {v} {at} here (under w node u above next rest low child from to) less = ⊎_elim
    (λ (further : v < u). goes_on here rest further)
    (λ (same : v ≡ u).
    let one : above ≡ at = one_on_level (subst (λ (k : ℕ). IsOnPath g image digest k above) (sym same) rest) here in
    let cell : above + 16 + nibble digest u ≡ at + 16 + nibble digest v =
    ap (λ (m : ℕ). m + 16 + nibble digest u) one ∙ ap (λ (k : ℕ). at + 16 + nibble digest k) (sym same) in
    (node, record { held = subst (λ (c : ℕ). Holds image c (Child node)) cell child; from = from; to = to }))
    (below_or_at v u (omega (arith, less, next)))

-- a path has 64 levels at most
pub few_levels : {g : Layout} {image : Image} {digest : List ℕ} {v node : ℕ} → IsOnPath g image digest v node → v < 64
few_levels (root v node first is) = omega (arith, first)
few_levels (under v node u above next rest low child from to) = omega (arith, next, low)

-- The path was followed to the node of this level, and went by the bucket at no level above.
pub record IsFollowed (g : Layout) (image : Image) (digest : List ℕ) (node x level at : ℕ) : Type 0 where
  pub on_path : level < 64 → IsOnPath g image digest level at
  pub inside : at + 32 ≤ g.cells
  pub missed : (v : ℕ) → v < level → IsOnPath g image digest v node → x ≡ nibble digest v → ⊥

pub begins : {g : Layout} {image : Image} (digest : List ℕ) (node x at : ℕ) → at ≡ root_at g → at + 32 ≤ g.cells
    → IsFollowed g image digest node x 0 at
begins digest node x at is inside = record {
  on_path = λ less. root 0 at refl is;
  inside = inside;
  missed = λ v less. absurd (omega (arith, less));
}

-- it does not go by the bucket here
pub not_here : {g : Layout} {image : Image} {digest : List ℕ} {node x level at : ℕ} → IsFollowed g image digest node x level at → level < 64
    → (at ≡ node → x ≡ nibble digest level → ⊥) → (v : ℕ) → v < level + 1 → IsOnPath g image digest v node → x ≡ nibble digest v → ⊥
not_here {g} {image} {digest} {node} {x} {level} {at} f low differ v less on_path here = ⊎_elim
    (λ (above : v < level). f.missed v above on_path here)
    (λ (same : v ≡ level). differ
    (one_on_level (f.on_path low) (subst (λ (k : ℕ). IsOnPath g image digest k node) same on_path))
    (here ∙ ap (nibble digest) same))
    (below_or_at v level less)

-- one node further
pub one_step : {g : Layout} {image : Image} {digest : List ℕ} {node x level at target : ℕ} → IsFollowed g image digest node x level at → level < 64
    → (at ≡ node → x ≡ nibble digest level → ⊥) → HasChildInPool g image (at + 16 + nibble digest level) target
    → IsFollowed g image digest node x (level + 1) target
one_step {g} {image} {digest} {node} {x} {level} {at} {target} f low differ leads = record {
  on_path = λ less. under (level + 1) target level at refl (f.on_path low) (omega (arith, less)) leads.held leads.from leads.to;
  inside = leads.to;
  missed = not_here f low differ;
}

-- the path ends here
pub ends_here : {g : Layout} {image : Image} {digest : List ℕ} {node x level at : ℕ} → IsFollowed g image digest node x level at → level < 64
    → (at ≡ node → x ≡ nibble digest level → ⊥) → ((target : ℕ) → HasChildInPool g image (at + 16 + nibble digest level) target → ⊥)
    → GoesBy g image digest node x → ⊥
ends_here {g} {image} {digest} {node} {x} {level} {at} f low differ none by = ⊎_elim
    (λ (above : by.level < level + 1). not_here f low differ by.level above by.on_path by.here)
    (λ (past : level + 1 ≤ by.level). let on = goes_on (f.on_path low) by.on_path (omega (arith, past)) in none on.0 on.1)
    (split by.level (level + 1))
  where
    split : (a b : ℕ) → (a < b) ⊎ (b ≤ a)
    split a b = grind arith

-- all levels were passed
pub all_missed : {g : Layout} {image : Image} {digest : List ℕ} {node x level at : ℕ} → IsFollowed g image digest node x level at → 64 ≤ level
    → GoesBy g image digest node x → ⊥
all_missed f past by = f.missed by.level (omega (arith, past, few_levels by.on_path)) by.on_path by.here
