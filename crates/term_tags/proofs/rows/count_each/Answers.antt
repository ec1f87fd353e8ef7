-- One key more is counted, and there are fewer keys than a count holds.
use Rattle.std.proofs.Common.{◌∙◌, arith}
use Rattle.term_tags.proofs.Counting.{fewer, step}
use Rattle.term_tags.proofs.rows.count_each.Goals as goal

pub overflow_add-index_mut : goal.overflow_add-index_mut
overflow_add-index_mut c =
    let less = fewer c.loop-key.key-index c.loop-key.invariant c.requires.below c.loop-key-test.true
    (c.from-in-loop-key.ensures ∙ c.list_in.ensures) c.index_mut.ensures.value in
    omega (arith, less, c.requires.few)

pub loop-key-preserved : goal.loop-key-preserved
loop-key-preserved c =
    step c.loop-key.key-index c.loop-key.invariant c.requires.below c.loop-key-test.true
    (c.from-in-loop-key.ensures ∙ c.list_in.ensures) c.index_mut.ensures.value
