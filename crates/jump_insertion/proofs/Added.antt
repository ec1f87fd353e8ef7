-- Which cells an insertion adds: its posting, in a block of the list, and a pointer of one that leads to another.
use Rattle.std.proofs.Common.{◌≡◌, ◌≢◌, ◌<◌, ◌≤◌, ◌+◌, ⊎_elim, ℕ, List, Some, None, refl, sym, subst, arith, ◌∙◌}
use Rattle.std.proofs.lemmas.Bool.{cases_eq}
use Rattle.std.proofs.lemmas.Option.{none-some}
use Rattle.cell_types.specs.Image.{Image, Extends}
use Rattle.cell_types.specs.declared.record_cell.RecordCell.{RecordCell}
use Rattle.cell_types.specs.declared.record_cell.RecordCell.TheVariants.{Jump}
use Rattle.volume_meaning.specs.Volumes.{Holds}
use Rattle.volume_meaning.proofs.Extending.{holds_on}
use Rattle.volume_meaning.specs.Blocks.{PostingFields, posting_record, Leads, arrived, pointer_at}
use Rattle.tamper_rules.proofs.GivenUp.{leads_further}
use Rattle.ingest_laws.proofs.ListShapes.{adds_extends}
use Rattle.ingest_laws.proofs.SettledShapes.{leads_wider}
use Rattle.worm_device.proofs.Images.{extends_then}
use Rattle.jump_insertion.specs.Growing.{PutsTwo, Grows, in_block, in_tail, in_new_block}
use Rattle.jump_insertion.proofs.Costs.{walk_leads}
use Rattle.jump_insertion.proofs.Showing.{leads_on}

-- the cell holds the posting in a block of the list, or is a pointer of one that leads to another
pub data IsAddedBy (image : Image) (floor to head : ℕ) (p : PostingFields) (cell : ℕ) : Type 0 where
  the_posting : (block place : ℕ) → Leads image floor to block head → place < 128 → cell ≡ block + place
      → Holds image cell (posting_record p) → IsAddedBy image floor to head p cell
  the_pointer : (block level digit target : ℕ) → Leads image floor to block head → level < 8 → 1 ≤ digit → digit ≤ 15
      → cell ≡ pointer_at block level digit → Leads image floor to target head → Holds image cell (Jump target)
      → IsAddedBy image floor to head p cell

-- the same cell by another sum
held_there : {image : Image} {at cell : ℕ} {r : RecordCell} → cell ≡ at → Holds image at r → Holds image cell r
held_there {image} {r = r} same h = subst (λ (c : ℕ). Holds image c r) (sym same) h

-- a block of a list is one still where cells are added, and more room is
pub leads_go_on : {old new : Image} {floor next to last block : ℕ} → Extends old new → next ≤ to
    → Leads old floor next last block → Leads new floor to last block
leads_go_on e more leads = leads_wider more (leads_on e leads)

-- two cells are added, of which one leads from a block of the list to the other's
added_two : {old new : Image} {floor next to head home target place : ℕ} {p : PostingFields}
    → (puts : PutsTwo old new home target place p) → Leads old floor next home head → next ≤ to → floor ≤ target
    → target + 256 ≤ to → (cell : ℕ) (value : List ℕ) → new cell ≡ Some value → old cell ≡ None
    → IsAddedBy new floor to head p cell
added_two {old} {new} {floor} {next} {to} {head} {home} {target} {place} {p} puts led more from inside cell value is
    blank =
    let e = extends_then (adds_extends puts.adds) (adds_extends puts.adds_jump) in
    let at_home : Leads new floor to home head = leads_go_on e more led in
    let there : Leads new floor to target head =
    leads_further at_home puts.level puts.digit target puts.span.levels puts.span.some puts.span.digits puts.jump from
    inside in
    ⊎_elim
    (λ (same : cell ≡ target + place).
    the_posting target place there puts.in_places same
    (held_there same (holds_on (adds_extends puts.adds_jump) puts.posting)))
    (λ (differs : cell ≢ target + place). ⊎_elim
    (λ (same : cell ≡ pointer_at home puts.level puts.digit).
    the_pointer home puts.level puts.digit target at_home puts.span.levels puts.span.some puts.span.digits same there
    (held_there same puts.jump))
    (λ (also : cell ≢ pointer_at home puts.level puts.digit).
    absurd (none-some value (sym (puts.adds_jump.others cell also ∙ puts.adds.others cell differs ∙ blank) ∙ is)))
    (cases_eq cell (pointer_at home puts.level puts.digit)))
    (cases_eq cell (target + place))

-- whichever way the list grew
pub grows_add : {old new : Image} {floor next to head cost : ℕ} {p : PostingFields} → floor ≤ next
    → Grows old new floor next to head p cost → (cell : ℕ) (value : List ℕ) → new cell ≡ Some value → old cell ≡ None
    → IsAddedBy new floor to head p cell
grows_add {old} {new} {floor} {next} {to} {head} {p = p} roomy
    (in_block last place walk below adds holds rises same cost_is) cell value is blank =
    let led : Leads new floor to last head =
    leads_go_on (adds_extends adds) (omega (arith, same)) (walk_leads walk (arrived head refl)) in
    ⊎_elim
    (λ (here : cell ≡ last + place). the_posting last place led below here (held_there here holds))
    (λ (differs : cell ≢ last + place).
    absurd (none-some value (sym (adds.others cell differs ∙ blank) ∙ is)))
    (cases_eq cell (last + place))
grows_add {old} {new} {floor} {next} {to} {head} {p = p} roomy
    (in_tail home target place walk puts led from inside last same cost_is) cell value is blank =
    added_two puts (walk_leads walk (arrived head refl)) (omega (arith, same)) from (omega (arith, same, inside)) cell
    value is blank
grows_add {old} {new} {floor} {next} {to} {head} {p = p} roomy
    (in_new_block home walk puts none last same cost_is) cell value is blank =
    added_two puts (walk_leads walk (arrived head refl)) (omega (arith, same)) roomy (omega (arith, same)) cell
    value is blank
