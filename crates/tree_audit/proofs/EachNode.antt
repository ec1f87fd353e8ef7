-- A rule that asks something of the cells of each node: found by going through the nodes in any order.
use Rattle.std.proofs.Common.{◌≡◌, ◌<◌, ◌≤◌, ◌+◌, ℕ, List, length, Option, Some, sym, ◌∙◌, subst, ap, arith}
use Rattle.std.specs.Prelude.{slice_get, slice_index}
use Rattle.std.proofs.lemmas.Option.{get_or_from_slice_get, slice_get-get_or, slice_get_within}
use Rattle.cell_types.specs.Image.{Image}
use Rattle.cell_types.specs.Layout.{Layout, IsLayout}
use Rattle.cell_types.specs.declared.refusal.Evidence.{Evidence}
use Rattle.tamper_rules.specs.Rules.{Rule, IsMet}
use Rattle.log_audit.specs.Findings.{FindsBroken}
use Rattle.log_audit.specs.Least.{FindsPart, LiesBehind, lower_finding}
use Rattle.log_audit.proofs.Parts.{AskedBelow, as_asked, one_part, part_behind, finds_all}
use Rattle.tree_audit.specs.Nodes.{IsSomeNode}
use Rattle.tree_audit.specs.Numbers.{AreAll}
use Rattle.tree_audit.proofs.Closing.{node_inside}

-- what is asked of a cell on account of the node at this place
abbrev pub NodeAt : List ℕ → (ℕ → ℕ → Type 0) → ℕ → ℕ → Type 0
NodeAt nodes Asks i cell = (node : ℕ) → slice_get nodes i ≡ Some node → Asks node cell

-- the node of a turn
pub node_here : (items nodes : List ℕ) (i : ℕ) → items ≡ nodes → i < length items → slice_get nodes i ≡ Some (slice_index items i)
node_here items nodes i same inside = subst (λ (row : List ℕ). slice_get row i ≡ Some (slice_index items i)) same (slice_get-get_or items i 0 inside)

-- is one of the tree
pub is_node : {g : Layout} {image : Image} {nodes : List ℕ} (i : ℕ) {node : ℕ} → AreAll (IsSomeNode g image) nodes → slice_get nodes i ≡ Some node
    → IsSomeNode g image node
is_node {g} {image} {nodes} i {node} are there =
    (are.each node).0 (i, slice_get_within nodes i node there, get_or_from_slice_get nodes i node node there)

-- and lies on the device
pub some_inside : {g : Layout} {image : Image} {node : ℕ} → IsLayout g → IsSomeNode g image node → node + 32 ≤ g.cells
some_inside layout node = node_inside layout node.1

module _ (g : Layout) (image : Image) (rule : Rule) (nodes : List ℕ) (Asks : ℕ → ℕ → Type 0) (i : ℕ) where
  module _ (node : ℕ) (here : slice_get nodes i ≡ Some node) where
    -- it asks what it asks
    same_node : (cell : ℕ) → Asks node cell → NodeAt nodes Asks i cell
    same_node cell asks other there =
        let both : Some node ≡ Some other = sym here ∙ there in
        let same : node ≡ other = cc in
        subst (λ (k : ℕ). Asks k cell) same asks

    -- one node more
    pub one_node : (least found result : Option Evidence) → FindsPart g image rule (AskedBelow (NodeAt nodes Asks) i) least
        → FindsPart g image rule (Asks node) found → result ≡ lower_finding least found
        → FindsPart g image rule (AskedBelow (NodeAt nodes Asks) (i + 1)) result
    one_node least found result before part is = subst (FindsPart g image rule (AskedBelow (NodeAt nodes Asks) (i + 1))) (sym is)
        (one_part g image rule (NodeAt nodes Asks) i least found before
        (as_asked g image rule (Asks node) (NodeAt nodes Asks i) found part same_node (λ cell each. each node here)))

    -- one behind what was found, which asks nothing of the cells before that
    pub node_behind : ((cell : ℕ) → cell < node → Asks node cell) → (least : Option Evidence)
        → FindsPart g image rule (AskedBelow (NodeAt nodes Asks) i) least → LiesBehind least node
        → FindsPart g image rule (AskedBelow (NodeAt nodes Asks) (i + 1)) least
    node_behind nothing least finds behind = part_behind g image rule (NodeAt nodes Asks) i node least finds behind
        (λ cell before. same_node cell (nothing cell before))

  -- all nodes
  pub every_node : (least : Option Evidence) → AreAll (IsSomeNode g image) nodes → FindsPart g image rule (AskedBelow (NodeAt nodes Asks) i) least
      → length nodes ≤ i → ((cell : ℕ) → ((node : ℕ) → IsSomeNode g image node → Asks node cell) → IsMet g image rule cell)
      → ((cell : ℕ) → IsMet g image rule cell → (node : ℕ) → IsSomeNode g image node → Asks node cell)
      → FindsBroken g image rule least
  every_node least are finds past met unmet = finds_all g image rule (AskedBelow (NodeAt nodes Asks) i) least finds
      (λ cell each. met cell (λ node is.
      let a = (are.each node).1 is in
      each a.0 (omega (arith, a.1, past)) node (slice_get-get_or nodes a.0 node a.1 ∙ ap (λ (n : ℕ). Some n) a.2)))
      (λ cell rule_met part before node there. unmet cell rule_met node (is_node part are there))
