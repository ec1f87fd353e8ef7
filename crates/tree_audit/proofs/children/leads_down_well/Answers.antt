-- No child cell leads to a node; the node is one of the last level; the bucket is blank; and the target decides.
use Rattle.std.proofs.Common.{refl, arith}
use Rattle.log_audit.proofs.Deciding.{decided_no, decided_yes, no, written_by}
use Rattle.tree_audit.proofs.Leading.{above_last, leads_well, well_led}
use Rattle.tree_audit.proofs.children.leads_down_well.Goals as goal

pub returns-in_default : goal.returns-in_default
returns-in_default c = no (λ each. let w = each c.requires.node.0 c.requires.node.1 in
    c.in_default.ensures w.target (record { held = w.child; from = w.from; to = w.to }))

pub returns-then-is_last : goal.returns-then-is_last
returns-then-is_last c = no (λ each. let w = each 63 (decided_yes _ c.is_last.ensures c.if-is_last.true) in omega (arith, w.level))

pub returns : goal.returns
returns c = (
  λ yes v node. leads_well c.in-Some.ensures (above_last c.requires.nodes (decided_no _ c.is_last.ensures c.if-is_last.false) node)
      (written_by c.at.ensures c.if-is_none.ensures refl) (c.is_well_led.ensures.0 yes),
  λ each. c.is_well_led.ensures.1 (well_led c.in-Some.ensures (each c.requires.node.0 c.requires.node.1)),
)
