-- A blank cell, the first that is broken, one that is kept, and all of them.
use Rattle.std.proofs.Common.{◌<◌, sym, ◌∙◌, arith}
use Rattle.tamper_rules.specs.Rules.{DoneCells}
use Rattle.log_audit.proofs.Deciding.{decided_no, decided_yes}
use Rattle.log_audit.proofs.Families.{fine_more, not_written, met_all, first_rising}
use Rattle.log_audit.proofs.broken.first_broken_done.Goals as goal

pub loop-slot-preserved-in_default : goal.loop-slot-preserved-in_default
loop-slot-preserved-in_default c = fine_more c.loop-slot.invariant
    (λ written. absurd (not_written (sym c.at.ensures ∙ c.in_default.is) c.done_at-cell.ensures.at written))

pub returns-then-not-keeps_done_rule : goal.returns-then-not-keeps_done_rule
returns-then-not-keeps_done_rule c =
    let inside : c.loop-slot.slot < c.args.geometry.now.slots = omega (arith, c.loop-slot-test.true, c.slots-slot-end.ensures.slots) in
    first_rising c.args.geometry.now DoneCells _ (λ cell h. h) (λ h. h c.loop-slot.slot inside c.done_at-cell.ensures.at)
    (λ a b h. omega (arith, h)) c.loop-slot.invariant
    (decided_no _ c.keeps_done_rule.ensures c.if-not-keeps_done_rule.true) (omega arith) (c.loop-slot.slot, inside, c.done_at-cell.ensures.at)
    (sym c.at.ensures ∙ c.in-Some.is) c.done_at-cell.ensures.at

pub loop-slot-preserved : goal.loop-slot-preserved
loop-slot-preserved c = fine_more c.loop-slot.invariant (λ _. decided_yes _ c.keeps_done_rule.ensures c.if-not-keeps_done_rule.false)

pub returns : goal.returns
returns c = met_all c.args.geometry.now DoneCells (λ cell h. λ k less. h k (omega (arith, less, c.loop-slot-test.false, c.slots-slot-end.ensures.slots))) c.loop-slot.invariant
