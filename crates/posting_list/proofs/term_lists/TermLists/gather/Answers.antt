-- Turn after turn of the join.
use Rattle.std.proofs.Common.{ℕ, Option, Ok, subst}
use Rattle.zigzag_join.specs.Counts.{JoinCosts}
use Rattle.zigzag_join.specs.Joins.{JoinEnds}
use Rattle.zigzag_join.proofs.Joining.{keeps_then}
use Rattle.posting_list.specs.Over.{lists_of}
use Rattle.posting_list.specs.States.{KnowsPart}
use Rattle.posting_list.proofs.Gathered.{known_part, more_costs, parts_all, parts_cost, parts_costs, parts_ended, parts_more, parts_none}
use Rattle.posting_list.proofs.Joining.{knows_of}
use Rattle.posting_list.proofs.Rows.{same_reach}
use Rattle.posting_list.proofs.term_lists.TermLists.gather.Goals as goal

pub loop-from-init : goal.loop-from-init
loop-from-init g c =
    let old = lists_of c.args.self.now in
    parts_none c.args.self.now.reach old c.new-parts.result.items c.new-parts.ensures.items

-- there are no more
pub returns-in_default-clause-ends : goal.returns-in_default-clause-ends
returns-in_default-clause-ends g c =
    let old = lists_of c.args.self.now in
    let now = lists_of c.loop-from.self in
    let new = lists_of c.next_common.new.lists in
    parts_ended c.args.self.now.reach old now c.loop-from.from c.loop-from.parts.items c.loop-from.invariant new
    c.in_ok-slot.ensures.kept
    (subst (λ (o : Option ℕ). JoinEnds c.loop-from.from now new (Ok o))
    c.in_default.is c.in_ok-slot.ensures.ends)

pub returns-in_default-clause-costs : goal.returns-in_default-clause-costs
returns-in_default-clause-costs g c =
    let old = lists_of c.args.self.now in
    let now = lists_of c.loop-from.self in
    let new = lists_of c.next_common.new.lists in
    parts_costs c.args.self.now.reach old now c.loop-from.from c.loop-from.parts.items c.loop-from.invariant new
    c.in_ok-slot.ensures.kept
    (subst (λ (o : Option ℕ). JoinCosts c.loop-from.from now new (Ok o))
    c.in_default.is c.in_ok-slot.ensures.costs)

-- the join gives no answer
pub returns-in_err-slot-clause-costs : goal.returns-in_err-slot-clause-costs
returns-in_err-slot-clause-costs g c =
    let old = lists_of c.args.self.now in
    let now = lists_of c.loop-from.self in
    let new = lists_of c.next_common.new.lists in
    parts_costs c.args.self.now.reach old now c.loop-from.from c.loop-from.parts.items c.loop-from.invariant new
    c.in_err-slot.ensures.kept
    c.in_err-slot.ensures.costs

-- there is no memory for one more
pub returns-in_err-keep-clause-costs : goal.returns-in_err-keep-clause-costs
returns-in_err-keep-clause-costs g c =
    let old = lists_of c.args.self.now in
    let now = lists_of c.loop-from.self in
    let new = lists_of c.next_common.new.lists in
    more_costs c.args.self.now.reach old now c.loop-from.from c.loop-from.parts.items c.loop-from.invariant new
    c.in_ok-slot.ensures.kept c.in-Some.slot
    (subst (λ (o : Option ℕ). JoinEnds c.loop-from.from now new (Ok o))
    c.in-Some.is c.in_ok-slot.ensures.ends)
    (subst (λ (o : Option ℕ). JoinCosts c.loop-from.from now new (Ok o))
    c.in-Some.is c.in_ok-slot.ensures.costs)

-- one more
pub loop-from-preserved : goal.loop-from-preserved
loop-from-preserved g c =
    let old = lists_of c.args.self.now in
    let now = lists_of c.loop-from.self in
    let new = lists_of c.next_common.new.lists in
    let known = knows_of (KnowsPart c.next_common.new.lists.reach (g.V.View.seen c.next_common.new.lists.view.now)
    c.next_common.new.lists.last) c.in_ok-slot.field-0 c.in-Some.slot c.in-Some.is c.in_ok-slot.ensures.knows in
    let same = same_reach c.args.self.now.reach c.next_common.new.lists.reach c.args.self.now.sought.now.terms.items
    c.next_common.new.lists.sought.now.terms.items c.args.self.now.view.ghost_name c.next_common.new.lists.view.ghost_name
    (g.V.View.seen c.args.self.now.view.now) (g.V.View.seen c.next_common.new.lists.view.now)
    (keeps_then {a = old} {b = now} {c = new} c.loop-from.invariant.slots.kept c.in_ok-slot.ensures.kept).made_of in
    let part = known_part c.args.self.now.reach c.next_common.new.lists.reach same new c.next_common.new.lists.last c.in-Some.slot known c.in-Some-last.part
    c.in-Some-last.is in
    parts_more c.args.self.now.reach old now c.loop-from.from c.loop-from.parts.items c.loop-from.invariant new
    c.in_ok-slot.ensures.kept c.in-Some.slot
    (subst (λ (o : Option ℕ). JoinEnds c.loop-from.from now new (Ok o))
    c.in-Some.is c.in_ok-slot.ensures.ends)
    (subst (λ (o : Option ℕ). JoinCosts c.loop-from.from now new (Ok o))
    c.in-Some.is c.in_ok-slot.ensures.costs)
    c.in-Some-last.part part.0 part.1 c.keep.new.parts.items c.in_ok-keep.ensures

-- no slot is left
pub returns-clause-ends : goal.returns-clause-ends
returns-clause-ends g c =
    let old = lists_of c.args.self.now in
    let now = lists_of c.loop-from.self in
    parts_all c.args.self.now.reach old now c.loop-from.from c.loop-from.parts.items c.loop-from.invariant c.loop-from-test.false

pub returns-clause-costs : goal.returns-clause-costs
returns-clause-costs g c =
    let old = lists_of c.args.self.now in
    let now = lists_of c.loop-from.self in
    parts_cost c.args.self.now.reach old now c.loop-from.from c.loop-from.parts.items c.loop-from.invariant

-- what every call keeps, over the calls before and the last one
pub returns-in_default-clause-kept : goal.returns-in_default-clause-kept
returns-in_default-clause-kept g c = keeps_then c.loop-from.invariant.slots.kept c.in_ok-slot.ensures.kept

pub returns-in_err-slot-clause-kept : goal.returns-in_err-slot-clause-kept
returns-in_err-slot-clause-kept g c = keeps_then c.loop-from.invariant.slots.kept c.in_err-slot.ensures.kept

pub returns-in_err-keep-clause-kept : goal.returns-in_err-keep-clause-kept
returns-in_err-keep-clause-kept g c = keeps_then c.loop-from.invariant.slots.kept c.in_ok-slot.ensures.kept

pub returns-clause-kept : goal.returns-clause-kept
returns-clause-kept g c = c.loop-from.invariant.slots.kept
