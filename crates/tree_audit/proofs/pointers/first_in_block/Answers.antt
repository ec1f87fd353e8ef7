-- The block lies on the device; a blank place, the first that is broken, one that is kept, and all of them.
use Rattle.std.proofs.Common.{◌≤◌, ◌<◌, ◌+◌, ℕ, refl, sym, ◌∙◌, arith}
use Rattle.log_audit.specs.KeptVolumes.{image_in}
use Rattle.tamper_rules.specs.Rules.{LeadsWell, Pointers}
use Rattle.log_audit.proofs.Deciding.{decided_no, decided_yes}
use Rattle.log_audit.proofs.Families.{fine_more, not_written}
use Rattle.log_audit.proofs.Parts.{first_of_part, part_met}
use Rattle.list_audit.proofs.Closing.{block_inside}
use Rattle.tree_audit.specs.Leading.{PointerAsks}
use Rattle.tree_audit.proofs.Going.{at_digits, by_digits, digit_of, level_of, pointer_place}
use Rattle.tree_audit.proofs.pointers.first_in_block.Goals as goal

pub overflow_add-cell-in-loop-pointer : goal.overflow_add-cell-in-loop-pointer
overflow_add-cell-in-loop-pointer c =
    let inside : c.args.listed.now.block + 256 ≤ c.args.volume.now.geometry.cells = block_inside
    c.cells-cells.ensures.exists c.requires.block in
    omega (arith, inside, c.cells-cells.ensures.exists.cells, c.loop-pointer-test.true)

pub loop-pointer-preserved-in_default : goal.loop-pointer-preserved-in_default
loop-pointer-preserved-in_default c = fine_more c.loop-pointer.invariant
    (λ written. absurd (not_written (sym c.at.ensures ∙ c.in_default.is) refl written))

pub leads_well-requires-clause-room : goal.leads_well-requires-clause-room
leads_well-requires-clause-room c =
    let inside : c.args.listed.now.block + 256 ≤ c.args.volume.now.geometry.cells = block_inside
    c.cells-cells.ensures.exists c.requires.block in
    omega (arith, inside, c.cells-cells.ensures.exists.cells)

pub returns-then-not-leads_well : goal.returns-then-not-leads_well
returns-then-not-leads_well c =
    let g = c.args.volume.now.geometry in let image = image_in c.args.volume.now in
    let l = c.args.listed.now.list in let block = c.args.listed.now.block in
    let few : c.loop-pointer.pointer < 120 = omega (arith, c.loop-pointer-test.true) in
    first_of_part g image Pointers (PointerAsks g image l block) (λ (k : ℕ). block + (128 + k))
    (λ (k : ℕ). LeadsWell g image l block (level_of k) (digit_of k)) c.loop-pointer.pointer 120 _
    (λ cell each. by_digits g image l block cell each) (λ asked. at_digits g image l block c.loop-pointer.pointer few asked)
    (λ a b less. omega (arith, less)) c.loop-pointer.invariant
    (decided_no _ c.leads_well.ensures c.if-not-leads_well.true) refl
    (pointer_place g image l block c.loop-pointer.pointer c.requires.block few) (sym c.at.ensures ∙ c.in-Some.is) refl

pub loop-pointer-preserved : goal.loop-pointer-preserved
loop-pointer-preserved c = fine_more c.loop-pointer.invariant (λ _. decided_yes _ c.leads_well.ensures c.if-not-leads_well.false)

pub returns : goal.returns
returns c =
    let g = c.args.volume.now.geometry in let image = image_in c.args.volume.now in
    let l = c.args.listed.now.list in let block = c.args.listed.now.block in
    part_met g image Pointers (PointerAsks g image l block) (λ (k : ℕ). block + (128 + k))
    (λ (k : ℕ). LeadsWell g image l block (level_of k) (digit_of k)) c.loop-pointer.pointer
    (λ cell each. by_digits g image l block cell (λ k less same. each k (omega (arith, less, c.loop-pointer-test.false)) same))
    c.loop-pointer.invariant
