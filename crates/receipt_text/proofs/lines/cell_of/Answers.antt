-- The line of a cell is cut behind its address.
use Rattle.receipt_text.proofs.Spelling.{cell_cut}
use Rattle.receipt_text.proofs.lines.cell_of.Goals as goal

pub returns-in_default-number_of-clause-none : goal.returns-in_default-number_of-clause-none
returns-in_default-number_of-clause-none c = λ at value below is same.
    c.in_default-number_of.ensures.none at below
    (cell_cut c.args.line.now c.in-Some.cut.front.now c.in-Some.cut.rest.now at value c.in-Some.ensures.some
    c.in-Some.ensures.first below same).0

pub returns-in_default-value_of-clause-none : goal.returns-in_default-value_of-clause-none
returns-in_default-value_of-clause-none c = λ at value below is same.
    c.in_default-value_of.ensures.none value is
    (cell_cut c.args.line.now c.in-Some.cut.front.now c.in-Some.cut.rest.now at value c.in-Some.ensures.some
    c.in-Some.ensures.first below same).1
