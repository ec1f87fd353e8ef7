-- One term more has the row.
use Rattle.std.proofs.Common.{◌∙◌, ap, sym}
use Rattle.std.proofs.Math.ListN.{set}
use Rattle.std.proofs.lemmas.List.Edits.{map_over_more}
use Rattle.word_reader.specs.Matching.{taken}
use Rattle.word_reader.proofs.byte_matcher.take_each.Goals as goal

pub loop-one-preserved : goal.loop-one-preserved
loop-one-preserved c =
    ap (set c.loop-one.sought c.loop-one.one-index) (c.take_row.ensures ∙ sym (ap (taken c.args.row.now) c.one-item.is))
    ∙ map_over_more (taken c.args.row.now) c.args.sought.now c.loop-one.sought c.loop-one.one-index c.one-item.result
    c.loop-one-test.true c.loop-one.invariant c.one-item.is
