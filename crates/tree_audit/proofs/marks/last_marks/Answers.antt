-- The ways lie among the nodes; one level more.
use Rattle.std.proofs.Common.{Bool, List, length, sym, subst, ap, ◌∙◌}
use Rattle.tree_audit.specs.Marks.{AreAmong, AreMarkedUnder}
use Rattle.tree_audit.specs.declared.ways.Way.{Way}
use Rattle.tree_audit.proofs.Marking.{next_marks, ways_among}
use Rattle.tree_audit.proofs.marks.last_marks.Goals as goal

pub marks_under-requires : goal.marks_under-requires
marks_under-requires c = subst (λ (ways : List Way). AreAmong ways (length c.deref-in-loop-level.result.now)) (sym c.deref.ensures.value)
    (ways_among (length c.deref-in-loop-level.result.now) c.in_ok-ways.ensures (ap length c.deref-in-loop-level.ensures.value ∙ c.loop-level.invariant.count))

pub loop-level-preserved : goal.loop-level-preserved
loop-level-preserved c =
    let ways : List Way = c.in_ok-ways.ways.items in let marks : List Bool = c.in_ok-marks-2.marks.items in
    let below : AreMarkedUnder ways c.loop-level.marks.items marks =
    subst (λ (all : List Way). AreMarkedUnder all c.loop-level.marks.items marks) c.deref.ensures.value
    (subst (λ (row : List Bool). AreMarkedUnder c.deref.result.now row marks) c.deref-in-loop-level.ensures.value
    c.in_ok-marks-2.ensures) in
    next_marks c.cells-cells.ensures.exists c.requires.nodes c.requires.leads c.in_ok-ways.ensures c.loop-level.invariant below c.loop-level-test.true
