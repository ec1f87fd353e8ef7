-- The block lies on the device; no posting, one of a document's, the first that is none's; and each is one's.
use Rattle.std.proofs.Common.{◌≤◌, ◌<◌, ◌+◌, ℕ, refl, sym, ◌∙◌, arith}
use Rattle.std.proofs.lemmas.Option.{none-some}
use Rattle.log_audit.specs.Kept.{image_of_kept}
use Rattle.tamper_rules.specs.Rules.{Postings}
use Rattle.log_audit.proofs.Families.{fine_more}
use Rattle.log_audit.proofs.Parts.{first_of_part, part_met}
use Rattle.list_audit.proofs.Blank.{fine_to}
use Rattle.list_audit.proofs.Closing.{block_inside}
use Rattle.list_audit.proofs.Ordered.{is_place}
use Rattle.list_audit.specs.Owing.{KeepsPostingRule, BlockOwes}
use Rattle.list_audit.specs.Tables.{FitsRow}
use Rattle.list_audit.proofs.Owing.{of_table, found_owed}
use Rattle.list_audit.proofs.postings.first_fake_in.Goals as goal

pub overflow_add-cell : goal.overflow_add-cell
overflow_add-cell c =
    let inside : c.args.listed.now.block + 256 ≤ c.args.geometry.now.cells = block_inside c.cells-cells.ensures.exists c.requires.block in
    omega (arith, inside, c.cells-cells.ensures.exists.cells, c.loop-place-test.true, c.from-place-end.ensures)

pub overflow_add-block : goal.overflow_add-block
overflow_add-block c =
    let inside : c.args.listed.now.block + 256 ≤ c.args.geometry.now.cells = block_inside c.cells-cells.ensures.exists c.requires.block in
    omega (arith, inside, c.cells-cells.ensures.exists.cells, c.from.ensures)

pub loop-place-preserved-in_default : goal.loop-place-preserved-in_default
loop-place-preserved-in_default c = fine_more c.loop-place.invariant (λ _ p holds. absurd (c.in_default.ensures.none p holds))

pub returns-then-are_blank : goal.returns-then-are_blank
returns-then-are_blank c =
    let g = c.args.geometry.now in let image = image_of_kept c.args.kept.now in
    let l = c.args.listed.now.list in let block = c.args.listed.now.block in
    part_met g image Postings (BlockOwes g image l block) (λ (place : ℕ). block + place) (KeepsPostingRule g image l block) 128
    (λ cell asked. asked)
    (fine_to block c.loop-place.invariant (c.are_blank.ensures.0 c.if-are_blank.true) refl (omega (arith, c.from.ensures)))

pub loop-place-preserved : goal.loop-place-preserved
loop-place-preserved c =
    let g = c.args.geometry.now in let image = image_of_kept c.args.kept.now in let l = c.args.listed.now.list in
    let fits : FitsRow l c.in-Some.posting = record { list = omega arith; key = omega arith; last = omega arith } in
    fine_more c.loop-place.invariant (λ _. found_owed g image l c.args.listed.now.block c.loop-place.place c.posting_at.ensures.one c.in-Some.is
    ((of_table g image c.args.table.now.rows.items l c.in-Some.posting c.requires.owed fits).0 c.in-Some-place_of.ensures.some))

pub unreachable-requires : goal.unreachable-requires
unreachable-requires c = none-some _ (sym c.in_default-at.is ∙ c.at.ensures ∙ c.in-Some.ensures.some.stands)

pub returns-in-loop-place : goal.returns-in-loop-place
returns-in-loop-place c =
    let g = c.args.geometry.now in let image = image_of_kept c.args.kept.now in
    let l = c.args.listed.now.list in let block = c.args.listed.now.block in
    let fits : FitsRow l c.in-Some.posting = record { list = omega arith; key = omega arith; last = omega arith } in
    let few : c.loop-place.place < 128 = omega (arith, c.loop-place-test.true, c.from-place-end.ensures) in
    first_of_part g image Postings (BlockOwes g image l block) (λ (place : ℕ). block + place) (KeepsPostingRule g image l block)
    c.loop-place.place 128 _ (λ cell asked. asked) (λ asked. asked c.loop-place.place few refl) (λ a b less. omega (arith, less))
    c.loop-place.invariant
    (λ keeps. c.in_default-place_of.ensures.none ((of_table g image c.args.table.now.rows.items l c.in-Some.posting c.requires.owed fits).1 (keeps c.in-Some.posting c.in-Some.ensures.some)))
    refl (is_place g image l block c.loop-place.place c.requires.block (omega (arith, few))) (sym c.at.ensures ∙ c.in-Some-at.is) refl

pub returns : goal.returns
returns c =
    let g = c.args.geometry.now in let image = image_of_kept c.args.kept.now in
    let l = c.args.listed.now.list in let block = c.args.listed.now.block in
    part_met g image Postings (BlockOwes g image l block) (λ (place : ℕ). block + place) (KeepsPostingRule g image l block)
    c.loop-place.place (λ cell asked k less at. asked k (omega (arith, less, c.loop-place-test.false, c.from-place-end.ensures)) at)
    c.loop-place.invariant
