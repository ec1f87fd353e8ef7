-- The block lies on the device; all places behind one are blank; the first that breaks the rule; and none does.
use Rattle.std.proofs.Common.{◌≤◌, ◌<◌, ◌+◌, ℕ, refl, sym, ◌∙◌, arith}
use Rattle.log_audit.specs.Kept.{image_of_kept}
use Rattle.tamper_rules.specs.Rules.{Entries}
use Rattle.log_audit.proofs.Deciding.{decided_no, decided_yes}
use Rattle.log_audit.proofs.Families.{fine_more, not_written}
use Rattle.log_audit.proofs.Parts.{first_of_part, part_met}
use Rattle.list_audit.specs.Entries.{KeepsEntryRule, PlacesAsk}
use Rattle.list_audit.proofs.Blank.{fine_to}
use Rattle.list_audit.proofs.Closing.{block_inside}
use Rattle.list_audit.proofs.Ordered.{is_place}
use Rattle.list_audit.proofs.entries.first_in_places.Goals as goal

pub overflow_add-cell : goal.overflow_add-cell
overflow_add-cell c =
    let inside : c.args.listed.now.block + 256 ≤ c.args.geometry.now.cells = block_inside c.cells-cells.ensures.exists c.requires.block in
    omega (arith, inside, c.cells-cells.ensures.exists.cells, c.loop-place-test.true, c.requires.most)

pub overflow_add-block : goal.overflow_add-block
overflow_add-block c =
    let inside : c.args.listed.now.block + 256 ≤ c.args.geometry.now.cells = block_inside c.cells-cells.ensures.exists c.requires.block in
    omega (arith, inside, c.cells-cells.ensures.exists.cells, c.requires.most)

pub keeps_entry_rule-requires-clause-room : goal.keeps_entry_rule-requires-clause-room
keeps_entry_rule-requires-clause-room c =
    let inside : c.args.listed.now.block + 256 ≤ c.args.geometry.now.cells = block_inside c.cells-cells.ensures.exists c.requires.block in
    omega (arith, inside, c.cells-cells.ensures.exists.cells)

pub loop-place-init : goal.loop-place-init
loop-place-init c = λ k less written low. absurd (omega (arith, less, low))

pub loop-place-preserved-in_default : goal.loop-place-preserved-in_default
loop-place-preserved-in_default c = fine_more c.loop-place.invariant
    (λ written. absurd (not_written (sym c.at.ensures ∙ c.in_default.is) refl written))

pub loop-place-preserved : goal.loop-place-preserved
loop-place-preserved c = fine_more c.loop-place.invariant
    (λ _ _. decided_yes _ c.keeps_entry_rule.ensures c.if-not-keeps_entry_rule.false)

pub returns-then-are_blank : goal.returns-then-are_blank
returns-then-are_blank c =
    let image = image_of_kept c.args.kept.now in let block = c.args.listed.now.block in let from = c.args.from in
    part_met c.args.geometry.now image Entries (PlacesAsk image block from c.args.to) (λ (place : ℕ). block + place)
    (λ (place : ℕ). from ≤ place → KeepsEntryRule image block place) c.args.to
    (λ cell asked place low less at. asked place less at low)
    (fine_to block c.loop-place.invariant (c.are_blank.ensures.0 c.if-are_blank.true) refl refl)

pub returns-then-not-keeps_entry_rule : goal.returns-then-not-keeps_entry_rule
returns-then-not-keeps_entry_rule c =
    let g = c.args.geometry.now in let image = image_of_kept c.args.kept.now in let block = c.args.listed.now.block in
    let from = c.args.from in let place = c.loop-place.place in
    let few : place < 256 = omega (arith, c.loop-place-test.true, c.requires.most) in
    first_of_part g image Entries (PlacesAsk image block from c.args.to) (λ (k : ℕ). block + k)
    (λ (k : ℕ). from ≤ k → KeepsEntryRule image block k) place c.args.to _
    (λ cell asked k low less at. asked k less at low)
    (λ asked low. asked place low (omega (arith, c.loop-place-test.true)) refl) (λ a b less. omega (arith, less)) c.loop-place.invariant
    (λ keeps. decided_no _ c.keeps_entry_rule.ensures c.if-not-keeps_entry_rule.true (keeps c.loop-place.auto.place)) refl
    (is_place g image c.args.listed.now.list block place c.requires.block few) (sym c.at.ensures ∙ c.in-Some.is) refl

pub returns : goal.returns
returns c =
    let image = image_of_kept c.args.kept.now in let block = c.args.listed.now.block in let from = c.args.from in
    part_met c.args.geometry.now image Entries (PlacesAsk image block from c.args.to) (λ (place : ℕ). block + place)
    (λ (place : ℕ). from ≤ place → KeepsEntryRule image block place) c.loop-place.place
    (λ cell asked place low less at. asked place (omega (arith, less, c.loop-place-test.false)) at low) c.loop-place.invariant
