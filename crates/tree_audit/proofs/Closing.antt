-- The tree's nodes, level after level.
use Rattle.std.proofs.Common.{◌≡◌, ◌<◌, ◌≤◌, ◌+◌, ◌↔◌, ◌++◌, ⊎_elim, inl, inr, ℕ, zero, suc, List, [], ◌∷◌, length, Option, Some, refl, sym, ◌∙◌, subst, ap, arith}
use Rattle.std.specs.Prelude.{slice_index, slice_index_or, Contains}
use Rattle.std.specs.List.Sorted.{IsStrictlyIncreasing}
use Rattle.std.proofs.lemmas.List.Elements.{Contains-append_left, Contains-push, Contains-push_cases}
use Rattle.cell_types.specs.Image.{Image}
use Rattle.cell_types.specs.Layout.{Layout, IsLayout, root_at}
use Rattle.cell_types.specs.declared.record_cell.RecordCell.TheVariants.{Child}
use Rattle.volume_meaning.specs.Nodes.{IsNode, root, under}
use Rattle.volume_meaning.proofs.Holding.{one_record_holds}
use Rattle.log_audit.proofs.Orders.{below_or_at}
use Rattle.tree_audit.specs.ChildCells.{HasChildInPool, IsLastPlace}
use Rattle.tree_audit.specs.Nodes.{IsTarget, AddsChildTargets, IsUnder, AreUnder, AreOnLevel}

-- an element is one whatever the default
pub same_default : (xs : List ℕ) (k a b : ℕ) → k < length xs → slice_index_or xs k a ≡ slice_index_or xs k b
same_default [] k a b less = absurd (omega (arith, less))
same_default (x ∷ xs) zero a b less = refl
same_default (x ∷ xs) (suc k) a b less = same_default xs k a b (omega (arith, less))

-- a child cell leads to one node
pub one_target : {g : Layout} {image : Image} {at a b : ℕ} → HasChildInPool g image at a → HasChildInPool g image at b → a ≡ b
one_target {g} {image} {at} {a} {b} h k = let e = one_record_holds image at (Child a) (Child b) h.held k.held in cc

-- no child cell was looked at yet
pub no_targets : (g : Layout) (image : Image) (node first : ℕ) (old : List ℕ)
    → ((target : ℕ) → IsTarget g image node first target → Contains old target) → AddsChildTargets g image node first old old
no_targets g image node first old added = record {
  each = λ target. (
    λ h. inl h,
    λ h. ⊎_elim (λ before. before) (λ (t : IsTarget g image node first target). added target t) h,
  );
}

-- the targets of the node before were added, if there is one
abbrev pub AreLastAdded : Layout → Image → Option ℕ → List ℕ → Type 0
AreLastAdded g image last found =
    (before target : ℕ) → last ≡ Some before → IsTarget g image before 32 target → Contains found target

-- of a node whose first places are all the last one's
pub last_added : {g : Layout} {image : Image} {last : Option ℕ} (found : List ℕ) {node first : ℕ} → AreLastAdded g image last found
    → ((place : ℕ) → 16 ≤ place → place < first → IsLastPlace last (node + place))
    → (target : ℕ) → IsTarget g image node first target → Contains found target
last_added {g} {image} found are passed target t =
    let p = passed t.place t.from t.to in
    are p.node target p.is_last (record {
      place = p.here.place;
      from = p.here.from;
      to = p.here.to;
      leads = subst (λ (k : ℕ). HasChildInPool g image k target) p.here.is t.leads;
    })

-- the node whose targets were added is the last one
pub now_last : {g : Layout} {image : Image} {node : ℕ} {old new : List ℕ} → AddsChildTargets g image node 32 old new
    → AreLastAdded g image (Some node) new
now_last {g} {image} {node} {old} {new} adds before target is t =
    let same : node ≡ before = cc in
    (adds.each target).1 (inr (subst (λ (k : ℕ). IsTarget g image k 32 target) (sym same) t))

-- one place more, at which no child cell leads on
pub no_child : {g : Layout} {image : Image} {node place : ℕ} {old new : List ℕ} → AddsChildTargets g image node place old new
    → ((target : ℕ) → HasChildInPool g image (node + place) target → ⊥) → AddsChildTargets g image node (place + 1) old new
no_child {g} {image} {node} {place} {old} {new} adds none = record {
  each = λ target. (
    λ h. ⊎_elim
        inl
        (λ (t : IsTarget g image node place target). inr (record { place = t.place; from = t.from; to = omega (arith, t.to); leads = t.leads }))
        ((adds.each target).0 h),
    λ h. (adds.each target).1 (⊎_elim
        inl
        (λ (t : IsTarget g image node (place + 1) target). ⊎_elim
        (λ (less : t.place < place). inr (record { place = t.place; from = t.from; to = less; leads = t.leads }))
        (λ (same : t.place ≡ place). absurd (none target (subst (λ (q : ℕ). HasChildInPool g image (node + q) target) same t.leads)))
        (below_or_at t.place place t.to))
        h),
  );
}

-- and one at which a child cell does
pub one_child : {g : Layout} {image : Image} {node place to : ℕ} {old new after : List ℕ} → AddsChildTargets g image node place old new
    → 16 ≤ place → HasChildInPool g image (node + place) to → after ≡ new ++ to ∷ [] → AddsChildTargets g image node (place + 1) old after
one_child {g} {image} {node} {place} {to} {old} {new} {after} adds low leads is = record {
  each = λ target. (
    λ h. ⊎_elim
        (λ (before : Contains new target). ⊎_elim
        inl
        (λ (t : IsTarget g image node place target). inr (record { place = t.place; from = t.from; to = omega (arith, t.to); leads = t.leads }))
        ((adds.each target).0 before))
        (λ (same : to ≡ target). inr (record { place = place; from = low; to = omega arith; leads = subst (HasChildInPool g image (node + place)) same leads }))
        (Contains-push_cases new to target (subst (λ (xs : List ℕ). Contains xs target) is h)),
    λ h. subst (λ (xs : List ℕ). Contains xs target) (sym is) (⊎_elim
        (λ (before : Contains old target). Contains-append_left new (to ∷ []) target ((adds.each target).1 (inl before)))
        (λ (t : IsTarget g image node (place + 1) target). ⊎_elim
        (λ (less : t.place < place). Contains-append_left new (to ∷ []) target
        ((adds.each target).1 (inr (record { place = t.place; from = t.from; to = less; leads = t.leads }))))
        (λ (same : t.place ≡ place).
        let here : HasChildInPool g image (node + place) target = subst (λ (q : ℕ). HasChildInPool g image (node + q) target) same t.leads in
        subst (Contains (new ++ to ∷ [])) (one_target leads here) (Contains-push new to))
        (below_or_at t.place place t.to))
        h),
  );
}

-- what stands in a row are the targets of the first n nodes
pub record AreTargets (g : Layout) (image : Image) (row : List ℕ) (n : ℕ) (found : List ℕ) : Type 0 where
  pub each : (target : ℕ) → Contains found target ↔ IsUnder g image row n target

pub none_under : (g : Layout) (image : Image) (row found : List ℕ) → found ≡ [] → AreTargets g image row 0 found
none_under g image row found empty = record {
  each = λ target. (
    λ h. absurd (omega (arith, h.1, ap length empty)),
    λ u. absurd (omega (arith, u.first)),
  );
}

-- one node more
pub one_node : {g : Layout} {image : Image} {row : List ℕ} {n node : ℕ} {found after : List ℕ} → AreTargets g image row n found
    → n < length row → node ≡ slice_index row n → AddsChildTargets g image node 32 found after → AreTargets g image row (n + 1) after
one_node {g} {image} {row} {n} {node} {found} {after} so_far inside is adds = record {
  each = λ target. (
    λ h. ⊎_elim
        (λ (before : Contains found target). let u = (so_far.each target).0 before in
        record { index = u.index; first = omega (arith, u.first); inside = u.inside; target_of = u.target_of })
        (λ (t : IsTarget g image node 32 target). record {
          index = n;
          first = omega arith;
          inside = inside;
          target_of = subst (λ (k : ℕ). IsTarget g image k 32 target) is t;
        })
        ((adds.each target).0 h),
    λ u. (adds.each target).1 (⊎_elim
        (λ (less : u.index < n). inl ((so_far.each target).1 (record { index = u.index; first = less; inside = u.inside; target_of = u.target_of })))
        (λ (same : u.index ≡ n). inr (subst (λ (k : ℕ). IsTarget g image k 32 target) (ap (slice_index row) same ∙ sym is) u.target_of))
        (below_or_at u.index n u.first)),
  );
}

-- a node lies on the device
pub node_inside : {g : Layout} {image : Image} {level node : ℕ} → IsLayout g → IsNode g image level node → node + 32 ≤ g.cells
node_inside {g} layout (root level node first is) = omega (arith, is, layout.pool)
node_inside {g} layout (under level node v above x next rest low levels child from to) = to

-- the root alone is the first level
pub root_level : {g : Layout} {image : Image} (at : ℕ) (row : List ℕ) → at ≡ root_at g → row ≡ [] ++ at ∷ [] → AreOnLevel g image 0 row
root_level {g} {image} at row is one = subst (AreOnLevel g image 0) (sym one) (record {
  rising = λ k less. absurd (omega (arith, less));
  each = λ index less. root 0 _ refl (first index less ∙ is);
  all = λ node here. let same : at ≡ node = is ∙ sym (only node here) in (0, omega arith, same);
})
  where
    first : (index : ℕ) → index < length ([] ++ at ∷ []) → slice_index ([] ++ at ∷ []) index ≡ at
    first zero less = refl
    first (suc k) less = absurd (omega (arith, less))

    only : (node : ℕ) → IsNode g image 0 node → node ≡ root_at g
    only node (root _ _ zero_level here) = here
    only node (under _ _ v above x next rest low levels child from to) = absurd (omega (arith, next))

-- there is no level below the last
pub deepest : {g : Layout} {image : Image} {level node : ℕ} → IsNode g image level node → level < 64
deepest (root level node first is) = omega (arith, first)
deepest (under level node v above x next rest low levels child from to) = omega (arith, next, levels)

-- all targets, each once
pub all_under : {g : Layout} {image : Image} {row : List ℕ} {n : ℕ} {found once : List ℕ} → AreTargets g image row n found → n ≡ length row
    → IsStrictlyIncreasing once → ((x : ℕ) → Contains found x → Contains once x) → ((x : ℕ) → Contains once x → Contains found x)
    → AreUnder g image row once
all_under {g} {image} {row} {n} {found} {once} are all rising keeps adds_none = record {
  rising = rising;
  each = λ target. (
    λ h. subst (λ (k : ℕ). IsUnder g image row k target) all ((are.each target).0 (adds_none target h)),
    λ u. keeps target ((are.each target).1 (subst (λ (k : ℕ). IsUnder g image row k target) (sym all) u)),
  );
}
