-- No posting, one with a lower key, one with a higher key, and none at all.
use Rattle.std.proofs.Common.{ap, arith}
use Rattle.volume_meaning.specs.Blocks.{PostingFields}
use Rattle.volume_meaning.proofs.Fronts.{one_posting}
use Rattle.log_audit.specs.Kept.{image_of_kept}
use Rattle.log_audit.proofs.Deciding.{no}
use Rattle.tree_audit.proofs.Spanning.{none_more, none_there}
use Rattle.tree_audit.proofs.spans.has_key_between.Goals as goal

pub loop-place-preserved-in_default : goal.loop-place-preserved-in_default
loop-place-preserved-in_default c = none_more (image_of_kept c.args.kept.now) c.args.block c.loop-place.invariant
    (λ p holds above below. c.in_default.ensures.none p holds)

pub loop-place-preserved-then-key-low : goal.loop-place-preserved-then-key-low
loop-place-preserved-then-key-low c = none_more (image_of_kept c.args.kept.now) c.args.block c.loop-place.invariant
    (λ p holds above below.
    let same = one_posting (image_of_kept c.args.kept.now) _ p c.in-Some.posting holds c.in-Some.ensures.some in
    omega (arith, ap (λ (q : PostingFields). q.key) same, above, c.if-key-low.true, c.from-key.ensures))

pub loop-place-preserved : goal.loop-place-preserved
loop-place-preserved c = none_more (image_of_kept c.args.kept.now) c.args.block c.loop-place.invariant
    (λ p holds above below.
    let same = one_posting (image_of_kept c.args.kept.now) _ p c.in-Some.posting holds c.in-Some.ensures.some in
    omega (arith, ap (λ (q : PostingFields). q.key) same, below, c.if-key-high.false, c.from-key.ensures))

pub returns : goal.returns
returns c = no (none_there (image_of_kept c.args.kept.now) c.args.block c.loop-place.invariant (omega (arith, c.loop-place-test.false)))
