-- Each turn, and each exit.
use Rattle.std.proofs.Common.{◌+◌, ◌<◌, IsTrue, inl, inr, ⊎_elim, arith, sym, ◌∙◌}
use Rattle.cell_types.proofs.Passed.{handed}
use Rattle.zigzag_join.proofs.Joining.{CommonSoFar, LastVouch, all_vouch, asked_costs, end_costs, found_costs, keeps_then, none_left, none_vouch, not_all_yet, skip_more, smaller, so_far_none, turn_more, vouch_more}
use Rattle.zigzag_join.proofs.join.next_common.Goals as goal
use Rattle.zigzag_join.proofs.join.next_common.Goals.{After-turn_after-which}

pub loop-slot-init : goal.loop-slot-init
loop-slot-init g c = record {
  count = c.count-count.ensures.count;
  so_far = so_far_none (g.Q.Lists.state c.args.lists.now) c.args.from c.requires.some c.requires.from;
  vouched = λ yes. none_vouch (g.Q.Lists.state c.args.lists.now).lists (g.Q.Lists.state c.args.lists.now) 0 c.args.from;
}

-- a turn more
turn : (g : _) (c : After-turn_after-which g) → CommonSoFar (g.Q.Lists.state c.args.lists.now)
    (g.Q.Lists.state c.land.new.self) c.args.from c.turn_after-which.result c.agreed_at-agreed.result c.in-Some.next.slot
turn g c =
    turn_more c.loop-slot.invariant.so_far.so_far c.in_ok-next.ensures.kept _ _ _ c.loop-slot.invariant.so_far.not_all
    c.in_ok-next.ensures.asks (rw c.in-Some.is at c.in_ok-next.ensures.ends).0
    (rw c.loop-slot.invariant.count at c.turn_after-which.ensures) c.agreed_at-agreed.ensures

-- where `vouched` says so, each list that has come to the slot vouches for it
vouches : (g : _) (c : After-turn_after-which g) → IsTrue c.vouched_at-vouched.result
    → LastVouch (g.Q.Lists.state c.args.lists.now).lists (g.Q.Lists.state c.land.new.self) c.turn_after-which.result
    c.agreed_at-agreed.result c.in-Some.next.slot
vouches g c all =
    vouch_more (g.Q.Lists.state c.args.lists.now).lists (g.Q.Lists.state c.loop-slot.lists)
    (g.Q.Lists.state c.land.new.self) c.loop-slot.which c.turn_after-which.result c.loop-slot.agreed
    c.agreed_at-agreed.result c.loop-slot.slot c.in-Some.next.slot
    (rw c.loop-slot.invariant.count at c.turn_after-which.ensures) c.agreed_at-agreed.ensures
    c.in_ok-next.ensures.kept ((rw c.in-Some.is at c.in_ok-next.ensures.ends).1 (c.vouched_at-vouched.ensures.own all)).0
    (⊎_elim (λ (up : c.loop-slot.slot < c.in-Some.next.slot). inl up)
    (λ (before : IsTrue c.loop-slot.vouched). inr (c.loop-slot.invariant.vouched before))
    (c.vouched_at-vouched.ensures.others all))

-- a list has no more
pub returns-in_default-clause-costs : goal.returns-in_default-clause-costs
returns-in_default-clause-costs g c =
    none_left c.loop-slot.invariant.so_far.so_far c.in_ok-next.ensures.kept c.in_ok-next.ensures.asks.0
    (omega (arith, c.in_ok-next.ensures.asks.1))

-- it gives no answer
pub returns-in_err-next-clause-costs : goal.returns-in_err-next-clause-costs
returns-in_err-next-clause-costs g c =
    rw (handed c.from_residual.result c.in_err-next.field-0.0 c.from_residual.ensures.1)
    (none_left c.loop-slot.invariant.so_far.so_far c.in_err-next.ensures.kept c.in_err-next.ensures.asks.0
    (omega (arith, c.in_err-next.ensures.asks.1)))

-- those that have come to the slot, which are all, are not asked where each vouches for it
pub all_have-requires-clause-vouched : goal.all_have-requires-clause-vouched
all_have-requires-clause-vouched g c = λ yes.
    let at = (goal.at.all_have-requires-clause-vouched g c).After-turn_after-which in
    let so_far = turn g at in
    all_vouch (g.Q.Lists.state c.args.lists.now).lists (g.Q.Lists.state c.land.new.self) c.turn_after-which.result
    c.agreed_at-agreed.result c.in-Some.next.slot so_far.kept.lists so_far.one_of_them
    (c.if-agreed-count.true ∙ c.loop-slot.invariant.count) (vouches g at yes)

-- all have come to the slot
pub returns-then-branch-clause-costs : goal.returns-then-branch-clause-costs
returns-then-branch-clause-costs g c =
    found_costs (turn g (goal.at.returns-then-branch-clause-costs g c).After-turn_after-which)
    c.in_ok-all_have.ensures.kept (c.if-agreed-count.true ∙ c.loop-slot.invariant.count)
    c.in_ok-all_have.ensures.next_asks
    (omega (arith, c.in_ok-all_have.ensures.has_asks, c.loop-slot.invariant.count))

-- one of them gives no answer
pub returns-in_err-all_have-clause-costs : goal.returns-in_err-all_have-clause-costs
returns-in_err-all_have-clause-costs g c =
    rw (handed c.from_residual-in_err-all_have.result c.in_err-all_have.field-0.0
    c.from_residual-in_err-all_have.ensures.1)
    (asked_costs (turn g (goal.at.returns-in_err-all_have-clause-costs g c).After-turn_after-which)
    c.in_err-all_have.ensures.kept (c.if-agreed-count.true ∙ c.loop-slot.invariant.count)
    c.in_err-all_have.ensures.next_asks
    (omega (arith, c.in_err-all_have.ensures.has_asks, c.loop-slot.invariant.count)))

-- not all of them have it
pub loop-slot-preserved-then-agreed-count : goal.loop-slot-preserved-then-agreed-count
loop-slot-preserved-then-agreed-count g c =
    let at = (goal.at.loop-slot-preserved-then-agreed-count g c).After-turn_after-which in
    let now = g.Q.Lists.state c.all_have.new.lists in
    record {
      count = c.loop-slot.invariant.count;
      so_far = skip_more (turn g at) c.in_ok-all_have.ensures.kept
          (c.if-agreed-count.true ∙ c.loop-slot.invariant.count) c.in_ok-all_have.ensures.next_asks
          (omega (arith, c.in_ok-all_have.ensures.has_asks, c.loop-slot.invariant.count))
          (rw c.in-Some.is at c.in_ok-next.ensures.ends).0.1
          (rw c.if-branch.false at c.in_ok-all_have.ensures.ends);
      vouched = λ yes. none_vouch (g.Q.Lists.state c.args.lists.now).lists now c.turn_after-which.result
          (c.in-Some.next.slot + 1);
    }

pub loop-slot-smaller : goal.loop-slot-smaller
loop-slot-smaller g c =
    smaller c.loop-slot.slot c.in-Some.next.slot c.loop-slot.agreed c.agreed_at-agreed.result c.count-count.result
    c.agreed_at-agreed.ensures c.loop-slot-test.true
    (omega (arith, c.loop-slot.invariant.so_far.not_all, c.loop-slot.invariant.count))
    (omega (arith, (rw c.in-Some.is at c.in_ok-next.ensures.ends).0.1))

pub loop-slot-preserved : goal.loop-slot-preserved
loop-slot-preserved g c =
    let at = (goal.at.loop-slot-preserved g c).After-turn_after-which in
    record {
      count = c.loop-slot.invariant.count;
      so_far = record {
        so_far = turn g at;
        not_all = not_all_yet (g.Q.Lists.state c.args.lists.now).lists c.loop-slot.slot c.in-Some.next.slot
            c.loop-slot.agreed c.agreed_at-agreed.result c.agreed_at-agreed.ensures
            c.loop-slot.invariant.so_far.not_all
            (λ same. c.if-agreed-count.false (same ∙ sym c.loop-slot.invariant.count));
      };
      vouched = vouches g at;
    }

-- past the last slot
pub returns-clause-costs : goal.returns-clause-costs
returns-clause-costs g c = end_costs c.loop-slot.invariant.so_far.so_far

-- what every call keeps, over the calls before and the last ones
pub returns-in_err-next-clause-kept : goal.returns-in_err-next-clause-kept
returns-in_err-next-clause-kept g c = keeps_then c.loop-slot.invariant.so_far.so_far.kept c.in_err-next.ensures.kept

pub returns-in_default-clause-kept : goal.returns-in_default-clause-kept
returns-in_default-clause-kept g c = keeps_then c.loop-slot.invariant.so_far.so_far.kept c.in_ok-next.ensures.kept

pub returns-in_err-all_have-clause-kept : goal.returns-in_err-all_have-clause-kept
returns-in_err-all_have-clause-kept g c =
    keeps_then (keeps_then c.loop-slot.invariant.so_far.so_far.kept c.in_ok-next.ensures.kept) c.in_err-all_have.ensures.kept

pub returns-then-branch-clause-kept : goal.returns-then-branch-clause-kept
returns-then-branch-clause-kept g c =
    keeps_then (keeps_then c.loop-slot.invariant.so_far.so_far.kept c.in_ok-next.ensures.kept) c.in_ok-all_have.ensures.kept

pub returns-clause-kept : goal.returns-clause-kept
returns-clause-kept g c = c.loop-slot.invariant.so_far.so_far.kept
