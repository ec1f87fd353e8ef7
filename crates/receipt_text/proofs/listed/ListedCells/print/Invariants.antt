-- With the lines of the cells that are left, the text is whole.
use Rattle.std.proofs.Common.{◌≡◌, ◌++◌, map}
use Rattle.receipt_text.specs.Form.{cell_line, text_of_lines}
use Rattle.receipt_text.proofs.listed.ListedCells.print.Given as goal

abbrev pub invariant-loop-at : goal.invariant-loop-at
invariant-loop-at l =
    l.text.items ++ text_of_lines (map cell_line l.at-iterator)
    ≡ l.fn.text.items ++ text_of_lines (map cell_line l.self)
