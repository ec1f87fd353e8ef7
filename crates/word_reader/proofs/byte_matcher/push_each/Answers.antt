-- One term more has the byte.
use Rattle.std.proofs.Common.{◌∙◌, ap, sym}
use Rattle.std.proofs.Math.ListN.{set}
use Rattle.std.proofs.lemmas.List.Edits.{map_over_more}
use Rattle.word_reader.specs.Matching.{pushed}
use Rattle.word_reader.proofs.byte_matcher.push_each.Goals as goal

pub loop-one-preserved : goal.loop-one-preserved
loop-one-preserved c =
    ap (set c.loop-one.sought c.loop-one.one-index) (c.push.ensures ∙ sym (ap (pushed c.args.byte) c.one-item.is))
    ∙ map_over_more (pushed c.args.byte) c.args.sought.now c.loop-one.sought c.loop-one.one-index c.one-item.result
    c.loop-one-test.true c.loop-one.invariant c.one-item.is
