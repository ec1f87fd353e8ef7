-- Lower rules are kept; a slot that is not stored, one that keeps the rule, one that breaks it, and all of them.
use Rattle.std.proofs.Common.{◌<◌, refl, sym, ◌∙◌, subst, arith}
use Rattle.log_audit.specs.KeptVolumes.{image_in}
use Rattle.tamper_rules.specs.Rules.{Documents, Entries, Pointers, Trails}
use Rattle.log_audit.proofs.Deciding.{decided_no, decided_yes}
use Rattle.log_audit.proofs.Families.{fine_more, met_all, first_rising}
use Rattle.list_audit.specs.Keeping.{KeepsTrailRule}
use Rattle.list_audit.proofs.Trailing.{not_stored, rule_at, rule_of}
use Rattle.list_audit.proofs.rules.first_broken_trail.Goals as goal

pub loop-slot-preserved-in_default : goal.loop-slot-preserved-in_default
loop-slot-preserved-in_default _ c = fine_more c.loop-slot.invariant
    (λ _. not_stored c.args.volume.now.geometry (image_in c.args.volume.now) c.loop-slot.slot c.in_default.ensures.none)

pub keeps_trail_rule-requires-clause-documents : goal.keeps_trail_rule-requires-clause-documents
keeps_trail_rule-requires-clause-documents _ c = c.requires.met Documents (omega arith)

pub keeps_trail_rule-requires-clause-entries : goal.keeps_trail_rule-requires-clause-entries
keeps_trail_rule-requires-clause-entries _ c = c.requires.met Entries (omega arith)

pub keeps_trail_rule-requires-clause-pointers : goal.keeps_trail_rule-requires-clause-pointers
keeps_trail_rule-requires-clause-pointers _ c = c.requires.met Pointers (omega arith)

pub is_kept_by_all-is_kept-requires-clause-entries : goal.is_kept_by_all-is_kept-requires-clause-entries
is_kept_by_all-is_kept-requires-clause-entries _ c = c.requires.met Entries (omega arith)

pub is_kept_by_all-is_kept-requires-clause-pointers : goal.is_kept_by_all-is_kept-requires-clause-pointers
is_kept_by_all-is_kept-requires-clause-pointers _ c = c.requires.met Pointers (omega arith)

pub loop-slot-preserved-then-is_kept : goal.loop-slot-preserved-then-is_kept
loop-slot-preserved-then-is_kept _ c = fine_more c.loop-slot.invariant (λ _. c.is_kept_by_all-is_kept.ensures c.if-is_kept.true c.loop-slot.slot)

pub loop-slot-preserved : goal.loop-slot-preserved
loop-slot-preserved _ c = fine_more c.loop-slot.invariant
    (λ _. subst (KeepsTrailRule c.args.volume.now.geometry (image_in c.args.volume.now)) c.in-Some.ensures.same
    (decided_yes _ c.in_ok-keeps_trail_rule.ensures c.if-branch.true))

pub returns-in-loop-slot : goal.returns-in-loop-slot
returns-in-loop-slot _ c = let volume = c.args.volume.now in
    let g = volume.geometry in let image = image_in volume in
    let inside : c.loop-slot.slot < g.slots = omega (arith, c.loop-slot-test.true, c.slots-slot-end.ensures.slots) in
    first_rising g Trails _ (rule_at g image c.requires.stated)
    (rule_of g image c.requires.stated _ c.loop-slot.slot c.done_at-cell.ensures.at)
    (λ a b h. omega (arith, h)) c.loop-slot.invariant
    (λ keeps. decided_no _ c.in_ok-keeps_trail_rule.ensures c.if-branch.false
    (subst (KeepsTrailRule g image) (sym c.in-Some.ensures.same) keeps))
    refl (c.loop-slot.slot, inside, c.done_at-cell.ensures.at) (sym c.at.ensures ∙ c.in-Some-at.is)
    c.done_at-cell.ensures.at

pub returns : goal.returns
returns _ c =
    let g = c.args.volume.now.geometry in let image = image_in c.args.volume.now in
    met_all g Trails (λ cell each. rule_at g image c.requires.stated cell
    (λ k less. each k (omega (arith, less, c.loop-slot-test.false, c.slots-slot-end.ensures.slots)))) c.loop-slot.invariant
