-- Neither form was asked for.
use Rattle.std.proofs.Common.{⊎_elim}
use Rattle.command_line.proofs.Listed.{if_none_then}
use Rattle.command_line.proofs.words.format_of.Goals as goal

pub returns-clause-none : goal.returns-clause-none
returns-clause-none c =
    if_none_then c.versioned_format_of.result
    (λ none slots lists version asks.
    ⊎_elim (λ plain. c.in_default.ensures.none slots lists plain.0) (λ stated. none slots lists version stated) asks)
    c.versioned_format_of.ensures.none
