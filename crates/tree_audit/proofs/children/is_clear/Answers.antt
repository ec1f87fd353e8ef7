-- A block that begins near; a node before the target; one behind its first cell; and none.
use Rattle.std.proofs.Common.{◌≤◌, ◌+◌, ◌-◌, inl, inr, refl, sym, arith}
use Rattle.log_audit.specs.Kept.{image_of_kept}
use Rattle.log_audit.proofs.Deciding.{no, yes, decided_no, decided_yes}
use Rattle.tree_audit.proofs.Leading.{moved, block_near, no_block_near, node_near, no_node_near}
use Rattle.tree_audit.proofs.Occupying.{are_told}
use Rattle.tree_audit.proofs.children.is_clear.Goals as goal

pub returns-then-has_between : goal.returns-then-has_between
returns-then-has_between c =
    let t = c.args.target in
    let far : 296 ≤ t = omega (arith, c.requires.from, c.cells-cells.ensures.exists.some_slots, c.cells-cells.ensures.exists.some_lists) in
    let told = are_told c.args.geometry.now (image_of_kept c.args.kept.now) c.requires.blocks in
    let h = decided_yes _ c.has_between.ensures c.if-has_between.true in
    no (block_near told {t = t} (t - 255) (t + 32) (omega (arith, far)) refl refl refl
    (moved c.deref.ensures.value (omega (arith, far, c.from-at.ensures, c.from-2.ensures)) (omega (arith, c.from-at.ensures, c.from.ensures)) h))

pub returns-then-has_between-2 : goal.returns-then-has_between-2
returns-then-has_between-2 c =
    let t = c.args.target in
    let far : 296 ≤ t = omega (arith, c.requires.from, c.cells-cells.ensures.exists.some_slots, c.cells-cells.ensures.exists.some_lists) in
    let h = decided_yes _ c.has_between-2.ensures c.if-has_between-2.true in
    no (node_near c.requires.nodes.nodes {t = t} {low = t - 31} {high = t + 32} {from = t - 31} {to = t} (omega (arith, far)) refl
    (moved c.deref-2.ensures.value (omega (arith, far, c.from-at.ensures, c.from-3.ensures)) c.from-at.ensures h)
    (omega arith) (omega arith) (inl (omega arith)))

pub returns-then-has_between-3 : goal.returns-then-has_between-3
returns-then-has_between-3 c =
    let t = c.args.target in
    let far : 296 ≤ t = omega (arith, c.requires.from, c.cells-cells.ensures.exists.some_slots, c.cells-cells.ensures.exists.some_lists) in
    let h = decided_yes _ c.has_between-3.ensures c.if-has_between-3.true in
    no (node_near c.requires.nodes.nodes {t = t} {low = t - 31} {high = t + 32} {from = t + 1} {to = t + 32} (omega (arith, far)) refl
    (moved c.deref-3.ensures.value (omega (arith, c.from-at.ensures)) (omega (arith, c.from-at.ensures, c.from.ensures)) h)
    (omega arith) (omega arith) (inr (omega arith)))

pub returns : goal.returns
returns c =
    let t = c.args.target in
    let far : 296 ≤ t = omega (arith, c.requires.from, c.cells-cells.ensures.exists.some_slots, c.cells-cells.ensures.exists.some_lists) in
    let told = are_told c.args.geometry.now (image_of_kept c.args.kept.now) c.requires.blocks in
    yes (record {
      blocks = no_block_near told {t = t} (t - 255) (t + 32) (omega (arith, far)) refl refl refl
          (λ h. decided_no _ c.has_between.ensures c.if-has_between.false
          (moved (sym c.deref.ensures.value) (omega (arith, far, c.from-at.ensures, c.from-2.ensures)) (omega (arith, c.from-at.ensures, c.from.ensures)) h));
      nodes = no_node_near c.requires.nodes.nodes {t = t} {low = t - 31} {high = t + 32} (omega (arith, far)) refl
          (λ h. decided_no _ c.has_between-2.ensures c.if-has_between-2.false
          (moved (sym c.deref-2.ensures.value) (omega (arith, far, c.from-at.ensures, c.from-3.ensures)) (sym c.from-at.ensures) h))
          (λ h. decided_no _ c.has_between-3.ensures c.if-has_between-3.false
          (moved (sym c.deref-3.ensures.value) (omega (arith, c.from-at.ensures)) (omega (arith, c.from-at.ensures, c.from.ensures)) h));
    })
