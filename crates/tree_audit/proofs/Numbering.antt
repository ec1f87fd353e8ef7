-- Numbers that are gathered one after another, and found by bisection.
use Rattle.std.proofs.Common.{◌≡◌, ◌<◌, ◌≤◌, ◌+◌, ◌⊎◌, ◌++◌, ⊎_elim, inl, inr, ℕ, List, [], ◌∷◌, length, Option, Some, sym, ◌∙◌, subst, ap, arith}
use Rattle.std.specs.Prelude.{slice_get, Contains}
use Rattle.std.specs.List.Sorted.{IsStrictlyIncreasing}
use Rattle.std.proofs.lemmas.List.Elements.{Contains-append_left, Contains-push, Contains-push_cases}
use Rattle.std.proofs.lemmas.Option.{get_or_from_slice_get, same_Some, slice_get_within, slice_get-get_or}
use Rattle.cell_types.specs.Image.{Image}
use Rattle.cell_types.specs.Layout.{Layout}
use Rattle.log_audit.proofs.Orders.{below_or_at}
use Rattle.tree_audit.specs.ChildCells.{HasChildInPool, IsLastPlace, IsLeadAmong, IsLeadOf, lead_number}
use Rattle.tree_audit.specs.Marks.{AreMarked}
use Rattle.tree_audit.specs.Nodes.{AreNodes, IsSomeNode}
use Rattle.tree_audit.specs.Numbers.{AddsNumbers, AreAll}
use Rattle.tree_audit.specs.declared.nodes.TreeNodes.{TreeNodes}
use Rattle.tree_audit.proofs.Closing.{one_target}

-- nothing was added yet
pub adds_none : (P : ℕ → Type 0) (old : List ℕ) → ((x : ℕ) → P x → ⊥) → AddsNumbers P old old
adds_none P old none = record {
  each = λ x. (
    λ h. inl h,
    λ h. ⊎_elim (λ (before : Contains old x). before) (λ (p : P x). absurd (none x p)) h,
  );
}

-- the same was, by another word
pub adds_same : (P Q : ℕ → Type 0) {old new : List ℕ} → AddsNumbers P old new → ((x : ℕ) → P x → Q x) → ((x : ℕ) → Q x → P x) → AddsNumbers Q old new
adds_same P Q {old} {new} adds to from = record {
  each = λ x. (
    λ h. ⊎_elim (λ (before : Contains old x). inl before) (λ (p : P x). inr (to x p)) ((adds.each x).0 h),
    λ h. (adds.each x).1 (⊎_elim (λ (before : Contains old x). inl before) (λ (q : Q x). inr (from x q)) h),
  );
}

-- one number more was
pub adds_one : (P Q : ℕ → Type 0) {old new after : List ℕ} (n : ℕ) → AddsNumbers P old new → after ≡ new ++ n ∷ [] → ((x : ℕ) → P x → Q x) → Q n
    → ((x : ℕ) → Q x → P x ⊎ (n ≡ x)) → AddsNumbers Q old after
adds_one P Q {old} {new} {after} n adds is to here from = record {
  each = λ x. (
    λ h. ⊎_elim
        (λ (before : Contains new x). ⊎_elim (λ (a : Contains old x). inl a) (λ (p : P x). inr (to x p)) ((adds.each x).0 before))
        (λ (same : n ≡ x). inr (subst Q same here))
        (Contains-push_cases new n x (subst (λ (xs : List ℕ). Contains xs x) is h)),
    λ h. subst (λ (xs : List ℕ). Contains xs x) (sym is) (⊎_elim
        (λ (a : Contains old x). Contains-append_left new (n ∷ []) x ((adds.each x).1 (inl a)))
        (λ (q : Q x). ⊎_elim
        (λ (p : P x). Contains-append_left new (n ∷ []) x ((adds.each x).1 (inr p)))
        (λ (same : n ≡ x). subst (Contains (new ++ n ∷ [])) same (Contains-push new n))
        (from x q))
        h),
  );
}

-- what several more are
pub adds_more : (P Q R : ℕ → Type 0) {old new after : List ℕ} → AddsNumbers P old new → AddsNumbers R new after → ((x : ℕ) → P x → Q x) → ((x : ℕ) → R x → Q x)
    → ((x : ℕ) → Q x → P x ⊎ R x) → AddsNumbers Q old after
adds_more P Q R {old} {new} {after} adds more p_to r_to from = record {
  each = λ x. (
    λ h. ⊎_elim
        (λ (before : Contains new x). ⊎_elim (λ (a : Contains old x). inl a) (λ (p : P x). inr (p_to x p)) ((adds.each x).0 before))
        (λ (r : R x). inr (r_to x r))
        ((more.each x).0 h),
    λ h. (more.each x).1 (⊎_elim
        (λ (a : Contains old x). inl ((adds.each x).1 (inl a)))
        (λ (q : Q x). ⊎_elim (λ (p : P x). inl ((adds.each x).1 (inr p))) (λ (r : R x). inr r) (from x q))
        h),
  );
}

-- all of them, sorted
pub are_all : (P : ℕ → Type 0) {old found once : List ℕ} → old ≡ [] → AddsNumbers P old found → IsStrictlyIncreasing once
    → ((x : ℕ) → Contains found x → Contains once x) → ((x : ℕ) → Contains once x → Contains found x) → AreAll P once
are_all P {old} {found} {once} empty adds rising keeps gives = record {
  rising = rising;
  each = λ x. (
    λ h. ⊎_elim
        (λ (a : Contains old x). absurd (omega (arith, a.1, ap length empty)))
        (λ (p : P x). p)
        ((adds.each x).0 (gives x h)),
    λ p. keeps x ((adds.each x).1 (inr p)),
  );
}

-- the same, by another word
pub all_same : (P Q : ℕ → Type 0) {numbers : List ℕ} → AreAll P numbers → ((x : ℕ) → P x → Q x) → ((x : ℕ) → Q x → P x) → AreAll Q numbers
all_same P Q all to from = record {
  rising = all.rising;
  each = λ x. (λ h. to x ((all.each x).0 h), λ q. (all.each x).1 (from x q));
}

-- the child cells of a node before some place were added before
pub leads_before : (g : Layout) (image : Image) (node first : ℕ) (old : List ℕ) → ((x : ℕ) → IsLeadOf g image node first x → Contains old x)
    → AddsNumbers (IsLeadOf g image node first) old old
leads_before g image node first old added = record {
  each = λ x. (
    λ h. inl h,
    λ h. ⊎_elim (λ (before : Contains old x). before) (λ (l : IsLeadOf g image node first x). added x l) h,
  );
}

-- those of the last node were, if there is one
abbrev pub AreLastLeads : Layout → Image → Option ℕ → List ℕ → Type 0
AreLastLeads g image last found = (before x : ℕ) → last ≡ Some before → IsLeadOf g image before 32 x → Contains found x

-- of a node whose first places are all the last one's
pub last_leads : {g : Layout} {image : Image} {last : Option ℕ} (found : List ℕ) {node first : ℕ} → AreLastLeads g image last found
    → ((place : ℕ) → 16 ≤ place → place < first → IsLastPlace last (node + place))
    → (x : ℕ) → IsLeadOf g image node first x → Contains found x
last_leads {g} {image} found are passed x l =
    let p = passed l.place l.from l.to in
    are p.node x p.is_last (record {
      place = p.here.place;
      from = p.here.from;
      to = p.here.to;
      target = l.target;
      leads = subst (λ (k : ℕ). HasChildInPool g image k l.target) p.here.is l.leads;
      is = subst (λ (k : ℕ). x ≡ lead_number l.target k) p.here.is l.is;
    })

-- the node whose child cells were added is the last one
pub now_leads : {g : Layout} {image : Image} {node : ℕ} {old new : List ℕ} → AddsNumbers (IsLeadOf g image node 32) old new
    → AreLastLeads g image (Some node) new
now_leads {g} {image} {node} {old} {new} adds before x is l =
    (adds.each x).1 (inr (subst (λ (k : ℕ). IsLeadOf g image k 32 x) (sym (same_Some node before is)) l))

-- one that leads nowhere; and one that leads on

module _ {g : Layout} {image : Image} {node place : ℕ} {old new : List ℕ} (adds : AddsNumbers (IsLeadOf g image node place) old new) where
  later : (x : ℕ) → IsLeadOf g image node place x → IsLeadOf g image node (place + 1) x
  later x l = record { place = l.place; from = l.from; to = omega (arith, l.to); target = l.target; leads = l.leads; is = l.is }

  pub leads_nowhere : ((target : ℕ) → HasChildInPool g image (node + place) target → ⊥) → AddsNumbers (IsLeadOf g image node (place + 1)) old new
  leads_nowhere none = adds_same (IsLeadOf g image node place) (IsLeadOf g image node (place + 1)) adds later (λ x l. ⊎_elim
      (λ (less : l.place < place). record { place = l.place; from = l.from; to = less; target = l.target; leads = l.leads; is = l.is })
      (λ (same : l.place ≡ place). absurd (none l.target (subst (λ (p : ℕ). HasChildInPool g image (node + p) l.target) same l.leads)))
      (below_or_at l.place place l.to))

  pub leads_on : {after : List ℕ} {target number : ℕ} → 16 ≤ place → HasChildInPool g image (node + place) target
      → number ≡ lead_number target (node + place) → after ≡ new ++ number ∷ [] → AddsNumbers (IsLeadOf g image node (place + 1)) old after
  leads_on {after} {target} {number} low leads same is = adds_one (IsLeadOf g image node place) (IsLeadOf g image node (place + 1)) number adds is later
      (record { place = place; from = low; to = omega arith; target = target; leads = leads; is = same })
      (λ x l. ⊎_elim
      (λ (less : l.place < place). inl (record { place = l.place; from = l.from; to = less; target = l.target; leads = l.leads; is = l.is }))
      (λ (last : l.place ≡ place).
      let there = subst (λ (p : ℕ). HasChildInPool g image (node + p) l.target) last l.leads in
      let one : target ≡ l.target = one_target leads there in
      inr (same ∙ ap (λ (t : ℕ). lead_number t (node + place)) one ∙ ap (λ (p : ℕ). lead_number l.target (node + p)) (sym last) ∙ sym l.is))
      (below_or_at l.place place l.to))

-- no node's child cells, and those of one more
pub no_leads : (g : Layout) (image : Image) (nodes : List ℕ) (x : ℕ) → IsLeadAmong g image nodes 0 x → ⊥
no_leads g image nodes x l = omega (arith, l.first)

pub more_leads : {g : Layout} {image : Image} {nodes : List ℕ} {n : ℕ} {old new after : List ℕ} (node : ℕ)
    → AddsNumbers (IsLeadAmong g image nodes n) old new → slice_get nodes n ≡ Some node → AddsNumbers (IsLeadOf g image node 32) new after
    → AddsNumbers (IsLeadAmong g image nodes (n + 1)) old after
more_leads {g} {image} {nodes} {n} {old} {new} {after} node adds there more =
    adds_more (IsLeadAmong g image nodes n) (IsLeadAmong g image nodes (n + 1)) (IsLeadOf g image node 32) adds more
    (λ x l. record { index = l.index; first = omega (arith, l.first); node = l.node; there = l.there; lead = l.lead })
    (λ x l. record { index = n; first = omega arith; node = node; there = there; lead = l })
    (λ x l. ⊎_elim
    (λ (less : l.index < n). inl (record { index = l.index; first = less; node = l.node; there = l.there; lead = l.lead }))
    (λ (last : l.index ≡ n). let both : Some node ≡ Some l.node = sym there ∙ subst (λ (k : ℕ). slice_get nodes k ≡ Some l.node) last l.there in
    let e : node ≡ l.node = cc in inr (subst (λ (m : ℕ). IsLeadOf g image m 32 x) (sym e) l.lead))
    (below_or_at l.index n l.first))

-- the nodes of a tree, those of its last level, and its child cells
pub are_nodes : {g : Layout} {image : Image} (tree : TreeNodes) → AreAll (IsSomeNode g image) tree.nodes.items
    → AreMarked g image 63 tree.nodes.items tree.on_last.items → AreAll (IsLeadAmong g image tree.nodes.items (length tree.nodes.items)) tree.leads.items
    → AreNodes g image tree
are_nodes {g} {image} tree nodes last leads = record {
  nodes = nodes;
  last = last;
  leads = all_same (IsLeadAmong g image tree.nodes.items (length tree.nodes.items)) (λ x. (node : ℕ) × IsSomeNode g image node × IsLeadOf g image node 32 x) leads
      (λ x l. let within = slice_get_within tree.nodes.items l.index l.node l.there in
      (l.node, (nodes.each l.node).0 (l.index, within, get_or_from_slice_get tree.nodes.items l.index l.node l.node l.there), l.lead))
      (λ x h. let c = (nodes.each h.0).1 h.1 in
      record { index = c.0; first = c.1; node = h.0; there = slice_get-get_or tree.nodes.items c.0 h.0 c.1 ∙ ap (λ (m : ℕ). Some m) c.2; lead = h.2 });
}
