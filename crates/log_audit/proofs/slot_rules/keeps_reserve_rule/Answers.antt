-- The slot before has not ended; or it has, and ends where this one begins or elsewhere.
use Rattle.std.proofs.Common.{arith}
use Rattle.log_audit.proofs.Deciding.{no}
use Rattle.log_audit.proofs.Beginning.{begins_there}
use Rattle.log_audit.proofs.slot_rules.keeps_reserve_rule.Goals as goal

pub returns-in_default-ended_slot : goal.returns-in_default-ended_slot
returns-in_default-ended_slot c = no (λ rule. c.in_default-ended_slot.ensures.none (rule.before _ (omega (arith, c.if-slot-eq0.false))))

pub returns : goal.returns
returns c = begins_there c.args.geometry.now _ c.args.slot _ c.in-Some.reserved.start c.in-Some.reserved.length c.in-Some-ended_slot.before c.end.result
    (omega (arith, c.if-slot-eq0.false)) c.in-Some.ensures.some c.in-Some-ended_slot.ensures.some c.end.ensures
