-- Blank cells, child cells that lead down well, one that does not, and all of them.
use Rattle.std.proofs.Common.{◌+◌, ℕ, refl, sym, ◌∙◌, arith}
use Rattle.log_audit.specs.KeptVolumes.{image_in}
use Rattle.tamper_rules.specs.Rules.{Children}
use Rattle.log_audit.proofs.Deciding.{decided_no, decided_yes}
use Rattle.log_audit.proofs.Families.{fine_more, not_written}
use Rattle.log_audit.proofs.Parts.{first_of_part, part_met}
use Rattle.tree_audit.specs.Children.{AsksChildren, LeadsDownEach}
use Rattle.tree_audit.proofs.EachNode.{some_inside}
use Rattle.tree_audit.proofs.Leading.{child_place}
use Rattle.tree_audit.proofs.children.broken_under.Goals as goal

pub overflow_add-cell : goal.overflow_add-cell
overflow_add-cell c =
    let inside = some_inside c.cells-cells.ensures.exists c.requires.node in
    omega (arith, inside, c.cells-cells.ensures.exists.cells, c.loop-x-test.true)

pub overflow_add-cell-in-loop-x : goal.overflow_add-cell-in-loop-x
overflow_add-cell-in-loop-x c =
    let inside = some_inside c.cells-cells.ensures.exists c.requires.node in
    omega (arith, inside, c.cells-cells.ensures.exists.cells, c.loop-x-test.true)

pub leads_down_well-requires-clause-inside : goal.leads_down_well-requires-clause-inside
leads_down_well-requires-clause-inside c =
    let inside = some_inside c.cells-cells.ensures.exists c.requires.node in
    omega (arith, inside, c.cells-cells.ensures.exists.cells, c.loop-x-test.true)

pub loop-x-preserved-in_default : goal.loop-x-preserved-in_default
loop-x-preserved-in_default c = let volume = c.args.volume.now in
    let g = volume.geometry in let image = image_in volume in let node = c.args.node in
    fine_more {image = image} {at = λ (x : ℕ). node + 16 + x} {Fine = LeadsDownEach g image node}
    {n = c.loop-x.x} c.loop-x.invariant
    (λ written. absurd (not_written (sym c.at.ensures ∙ c.in_default.is) refl written))

pub loop-x-preserved : goal.loop-x-preserved
loop-x-preserved c = let volume = c.args.volume.now in
    let g = volume.geometry in let image = image_in volume in let node = c.args.node in
    fine_more {image = image} {at = λ (x : ℕ). node + 16 + x} {Fine = LeadsDownEach g image node}
    {n = c.loop-x.x} c.loop-x.invariant
    (λ _. decided_yes _ c.leads_down_well.ensures c.if-leads_down_well.true)

pub returns-in-loop-x : goal.returns-in-loop-x
returns-in-loop-x c = let volume = c.args.volume.now in
    let g = volume.geometry in let image = image_in volume in let node = c.args.node in
    let x = c.loop-x.x in
    first_of_part g image Children (AsksChildren g image node) (λ (k : ℕ). node + 16 + k)
    (LeadsDownEach g image node) x 16 _
    (λ cell h. h) (λ asks. asks x c.loop-x-test.true refl) (λ a b h. omega (arith, h)) c.loop-x.invariant
    (decided_no _ c.leads_down_well.ensures c.if-leads_down_well.false) (omega arith)
    (child_place x (node + 16 + x) c.cells-cells.ensures.exists c.requires.node.1 c.loop-x-test.true refl)
    (sym c.at.ensures ∙ c.in-Some.is) refl

pub returns : goal.returns
returns c = let volume = c.args.volume.now in
    let g = volume.geometry in let image = image_in volume in let node = c.args.node in
    part_met g image Children (AsksChildren g image node) (λ (k : ℕ). node + 16 + k)
    (LeadsDownEach g image node) 16 (λ cell h. h)
    (λ k less. c.loop-x.invariant k (omega (arith, less, c.loop-x-test.false)))
