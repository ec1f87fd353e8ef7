-- No place, one more, and all of them.
use Rattle.std.proofs.Common.{◌≡◌, ◌+◌, ◌∙◌, true, false, sym, subst}
use Rattle.tree_audit.specs.Marks.{IsBehindLast, IsMarked}
use Rattle.tree_audit.proofs.Marking.{now_marked, not_marked, one_behind}
use Rattle.tree_audit.proofs.marks.behind_marked.Goals as goal
use Rattle.tree_audit.proofs.marks.behind_marked.Goals.{then-is_marked, else-is_marked}

pub loop-place-preserved : goal.loop-place-preserved
loop-place-preserved c =
    let marks = c.args.marks.now in let place = c.loop-place.place in
    let now : IsBehindLast marks (place + 1) c.if-is_marked.last = elim c.if-is_marked.branch [
      | then-is_marked w ↦ subst (IsBehindLast marks (place + 1)) (sym w.last-is) (now_marked c.loop-place.invariant.now w.if-is_marked.true)
      | else-is_marked w ↦ subst (IsBehindLast marks (place + 1)) (sym w.last-is) (not_marked c.loop-place.invariant.now
          (λ (h : IsMarked marks place). let both : true ≡ false = sym h ∙ w.if-is_marked.false in cc))
    ] in
    one_behind c.loop-place.invariant now c.in_ok-push-2.ensures.items
