-- A slot that is not done, one with a document, one without, and all of them.
use Rattle.std.proofs.Common.{◌<◌, sym, ◌∙◌, arith}
use Rattle.tamper_rules.specs.Rules.{Documents}
use Rattle.log_audit.proofs.Deciding.{decided_no, decided_yes}
use Rattle.log_audit.proofs.Families.{fine_more, met_all, first_rising}
use Rattle.slot_audit.proofs.Stating.{document_rule, no_document_rule}
use Rattle.slot_audit.proofs.documents.first_broken_document.Goals as goal

pub loop-slot-preserved-in_default : goal.loop-slot-preserved-in_default
loop-slot-preserved-in_default c = fine_more c.loop-slot.invariant
    (λ _. λ a b d e stores. absurd (c.in_default.ensures.none a b d e stores))

pub loop-slot-preserved : goal.loop-slot-preserved
loop-slot-preserved c = fine_more c.loop-slot.invariant (λ _.
    document_rule c.in-Some.ensures.some c.in-Some.ensures.same c.document_at.ensures.at
    (decided_yes _ c.spells_document.ensures c.if-spells_document.true))

pub returns-in-loop-slot : goal.returns-in-loop-slot
returns-in-loop-slot c =
    let g = c.args.volume.now.geometry in
    let inside : c.loop-slot.slot < g.slots = omega (arith, c.loop-slot-test.true, c.slots-slot-end.ensures.slots) in
    first_rising g Documents _ (λ cell h. h) (λ h. h c.loop-slot.slot inside c.outcome_at-cell.ensures.at)
    (λ a b h. omega (arith, h)) c.loop-slot.invariant
    (no_document_rule c.in-Some.ensures.some c.in-Some.ensures.same c.document_at.ensures.at
    (decided_no _ c.spells_document.ensures c.if-spells_document.false))
    (omega arith) (c.loop-slot.slot, inside, c.outcome_at-cell.ensures.at)
    (sym c.at.ensures ∙ (c.in-Some-at).is) c.outcome_at-cell.ensures.at

pub returns : goal.returns
returns c = met_all c.args.volume.now.geometry Documents
    (λ cell h. λ k less. h k (omega (arith, less, c.loop-slot-test.false, c.slots-slot-end.ensures.slots)))
    c.loop-slot.invariant
