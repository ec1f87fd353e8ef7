-- The lines of the cells, in their order.
use Rattle.std.proofs.Common.{◌++◌, ◌∙◌, ℕ, List, ap, map}
use Rattle.std.proofs.lemmas.Map.Iter.{rest_all, rest_more}
use Rattle.std.specs.Map.Iter.{deref_pair}
use Rattle.receipt_text.specs.Form.{cell_line, text_of_lines}
use Rattle.receipt_text.proofs.PrintingOn.{print_all, print_more}
use Rattle.receipt_text.proofs.listed.ListedCells.print.Goals as goal

pub loop-at-init : goal.loop-at-init
loop-at-init c =
    ap (λ (l : List (ℕ × List ℕ)). c.args.text.now.items ++ text_of_lines (map cell_line l))
    (c.into_iter-at-iterator.ensures.into_iter_gives ∙ c.iter-at-items.ensures.rest ∙ c.self.view_is)

pub loop-at-preserved : goal.loop-at-preserved
loop-at-preserved c =
    print_more c.loop-at.text.items c.print_line.new.text.items c.deref.result.now c.loop-at.at-iterator
    c.next.new.self
    (c.in-Some.at.now, c.in-Some.value.now) c.in_ok-print_line.ensures (c.deref.ensures.value ∙ c.in_ok-line.ensures)
    (rest_more deref_pair _ _ _ (c.in-Some.at, c.in-Some.value) c.in-Some.is c.next.ensures.steps)
    ∙ c.loop-at.invariant

pub returns : goal.returns
returns c =
    print_all c.args.text.now.items c.loop-at.text.items c.loop-at.at-iterator c.args.self.now
    (rest_all deref_pair _ _ _ c.in-None.is c.next.ensures.steps) c.loop-at.invariant
