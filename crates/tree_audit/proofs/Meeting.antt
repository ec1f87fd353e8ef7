-- Which blocks and nodes meet the cells of a block.
use Rattle.std.proofs.Common.{rules, ◌≡◌, ◌<◌, ◌≤◌, ◌+◌, ◌-◌, ◌*◌, ◌⊎◌, ⊎_elim, inl, inr, ℕ, List, Bool, true, false, sym, ◌∙◌, subst, arith}
use Rattle.std.specs.Prelude.{◌↔◌, Contains, IsTrue, not}
use Rattle.cell_types.specs.Image.{Image}
use Rattle.cell_types.specs.Layout.{Layout}
use Rattle.volume_meaning.specs.Nodes.{AreApart}
use Rattle.log_audit.specs.Between.{HasBetween}
use Rattle.log_audit.proofs.Deciding.{no, yes}
use Rattle.list_audit.specs.Numbers.{neighbour_number}
use Rattle.log_audit.proofs.Orders.{below_or_not}
use Rattle.tree_audit.specs.Nodes.{IsSomeNode}
use Rattle.tree_audit.specs.Numbers.{AreAll}
use Rattle.tree_audit.specs.Occupied.{IsAlone, IsOffNodes}
use Rattle.tree_audit.proofs.Occupying.{AreTold}

-- one of the same numbers
pub between_same : {xs ys : List ℕ} {low high : ℕ} → xs ≡ ys → HasBetween xs low high → HasBetween ys low high
between_same {xs} {ys} {low} {high} same h = subst (λ (zs : List ℕ). HasBetween zs low high) same h

pub tells_same : {xs ys : List ℕ} {low high : ℕ} {b : Bool} → xs ≡ ys → (IsTrue b ↔ HasBetween xs low high) → (IsTrue b ↔ HasBetween ys low high)
tells_same {xs} {ys} {low} {high} {b} same h = subst (λ (zs : List ℕ). IsTrue b ↔ HasBetween zs low high) same h

-- a flag turned round
pub turned : {P Q : Type 0} (b : Bool) → (IsTrue b ↔ P) → (Q → P → ⊥) → ((P → ⊥) → Q) → (IsTrue (not b) ↔ Q)
turned true is one other = no (λ q. one q (is.0 (yes_is)))
  where
    yes_is : IsTrue true
    yes_is = search rules
turned false is one other = yes (other (λ p. no_is (is.1 p)))
  where
    no_is : IsTrue false → ⊥
    no_is h = search rules

module _ (g : Layout) (image : Image) {numbers : List ℕ} (are : AreTold g image numbers) (target : ℕ) (room : 256 ≤ target) where
  module _ (l : ℕ) (small : l < 65536) where
    -- a block that begins before, or a lower list's
    pub not_alone_before : {from to : ℕ} → from ≡ (target - 255) * 65536 → to ≡ target * 65536 + l
        → HasBetween numbers from to → IsAlone g image l target → ⊥
    not_alone_before first own has alone =
        let b = are.block_is has.number has.there in
        ⊎_elim
        (λ same. omega (arith, same.0, same.1, b.number_is, has.below, own))
        (λ apart. ⊎_elim
        (λ (behind : target + 256 ≤ b.block). omega (arith, behind, b.number_is, has.below, own, small))
        (λ (before : b.block + 256 ≤ target). omega (arith, before, b.number_is, b.small, has.from, first, room))
        apart)
        (alone b.list b.block b.is)

    -- one that begins behind, or a higher list's
    pub not_alone_behind : {from to : ℕ} → from ≡ target * 65536 + l + 1 → to ≡ (target + 256) * 65536
        → HasBetween numbers from to → IsAlone g image l target → ⊥
    not_alone_behind own behind has alone =
        let b = are.block_is has.number has.there in
        ⊎_elim
        (λ same. omega (arith, same.0, same.1, b.number_is, has.from, own))
        (λ apart. ⊎_elim
        (λ (after : target + 256 ≤ b.block). omega (arith, after, b.number_is, has.below, behind))
        (λ (before : b.block + 256 ≤ target). omega (arith, before, b.number_is, b.small, has.from, own))
        apart)
        (alone b.list b.block b.is)

    -- and where there is neither
    pub alone : {first own next behind : ℕ} → first ≡ (target - 255) * 65536 → own ≡ target * 65536 + l → next ≡ own + 1
        → behind ≡ (target + 256) * 65536
        → (HasBetween numbers first own → ⊥) → (HasBetween numbers next behind → ⊥)
        → IsAlone g image l target
    alone {first} {own} {next} {behind} f o n e lower upper k other is = ⊎_elim
        (λ (told : (k < 65536) × Contains numbers (neighbour_number k other)). by_number k told.0 told.1)
        (λ twice. ⊎_elim
        (λ one. ⊎_elim
        (λ second. absurd (twice.two (one.1 ∙ sym second.1)))
        (λ (apart : AreApart target 256 other 256). inr apart)
        (by_number twice.other twice.few twice.second))
        (λ (apart : AreApart target 256 other 256). inr apart)
        (by_number twice.one twice.small twice.first))
        (are.all_blocks k other is)
      where
        by_number : (m : ℕ) → m < 65536 → Contains numbers (neighbour_number m other)
            → ((other ≡ target) × (m ≡ l)) ⊎ AreApart target 256 other 256
        by_number m under there = ⊎_elim
            (λ (low : neighbour_number m other < first). inr (inr (omega (arith, low, f, under, room))))
            (λ (from : first ≤ neighbour_number m other). ⊎_elim
            (λ (below : neighbour_number m other < own). absurd (lower (record { number = neighbour_number m other; there = there; from = from; below = below })))
            (λ (at : own ≤ neighbour_number m other). ⊎_elim
            (λ (same : neighbour_number m other < next). inl (omega (arith, same, at, n, o, under, small), omega (arith, same, at, n, o, under, small)))
            (λ (after : next ≤ neighbour_number m other). ⊎_elim
            (λ (within : neighbour_number m other < behind). absurd (upper (record { number = neighbour_number m other; there = there; from = after; below = within })))
            (λ (far : behind ≤ neighbour_number m other). inr (inl (omega (arith, far, e, under))))
            (below_or_not (neighbour_number m other) behind))
            (below_or_not (neighbour_number m other) next))
            (below_or_not (neighbour_number m other) own))
            (below_or_not (neighbour_number m other) first)

module _ (g : Layout) (image : Image) {nodes : List ℕ} (are : AreAll (IsSomeNode g image) nodes) (target : ℕ) (room : 256 ≤ target) where
  -- a node in reach
  pub nodes_tell : {from to : ℕ} → from ≡ target - 31 → to ≡ target + 256 → (b : Bool)
      → (IsTrue b ↔ HasBetween nodes from to) → (IsTrue (not b) ↔ IsOffNodes g image target)
  nodes_tell {from} {to} first behind b is = turned b is
      (λ off has. let n = (are.each has.number).0 has.there in
      ⊎_elim
      (λ (after : target + 256 ≤ has.number). omega (arith, after, has.below, behind))
      (λ (before : has.number + 32 ≤ target). omega (arith, before, has.from, first, room))
      (off n.0 has.number n.1))
      (λ none level node is_node. ⊎_elim
      (λ (low : node < from). inr (omega (arith, low, first, room)))
      (λ (above : from ≤ node). ⊎_elim
      (λ (within : node < to). absurd (none (record { number = node; there = (are.each node).1 (level, is_node); from = above; below = within })))
      (λ (far : to ≤ node). inl (omega (arith, far, behind)))
      (below_or_not node to))
      (below_or_not node from))
