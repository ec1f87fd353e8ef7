-- The byte is nowhere.
use Rattle.receipt_text.proofs.Cutting.{never_cut}
use Rattle.receipt_text.proofs.lines.cut_at.Goals as goal

pub returns-in_default-clause-none : goal.returns-in_default-clause-none
returns-in_default-clause-none c = λ front rest same.
    never_cut c.args.byte c.args.text.now front rest c.in_default.ensures.none same
