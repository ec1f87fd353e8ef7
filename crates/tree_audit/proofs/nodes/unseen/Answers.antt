-- No number yet; one that was seen; one that was not; and all of them.
use Rattle.std.proofs.Common.{sym, ◌∙◌, refl, arith}
use Rattle.list_audit.proofs.Taking.{was_there}
use Rattle.tree_audit.proofs.Gathering.{all_first, none_first, one_fresh, one_seen}
use Rattle.tree_audit.proofs.nodes.unseen.Goals as goal

pub loop-number-init : goal.loop-number-init
loop-number-init c = none_first c.args.row.now c.args.seen.now c.new-fresh.ensures.items

pub loop-number-preserved-then-not-is_new : goal.loop-number-preserved-then-not-is_new
loop-number-preserved-then-not-is_new c = one_seen _ _ c.loop-number.invariant (omega (arith, c.loop-number-test.true)) refl c.in_ok-is_new.ensures.updates
    (was_there _ (sym c.if-not-is_new.true ∙ c.in_ok-is_new.ensures.added))

pub loop-number-preserved : goal.loop-number-preserved
loop-number-preserved c = one_fresh _ _ c.loop-number.invariant (omega (arith, c.loop-number-test.true)) refl c.in_ok-is_new.ensures.updates
    c.in_ok-push.ensures.items

pub returns : goal.returns
returns c = all_first c.loop-number.invariant (omega (arith, c.loop-number-test.false))
