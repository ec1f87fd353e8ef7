-- The text of the matches so far has got the line of one match more.
use Rattle.std.proofs.Common.{◌++◌, List, ℕ, sym, ap, ◌∙◌, arith}
use Rattle.command_line.specs.Lines.{document_line}
use Rattle.volume_commands.specs.Finding.{match_line}
use Rattle.command_line.proofs.Lines.{lines_more}
use Rattle.volume_commands.proofs.find.text_of.Goals as goal

pub loop-found-preserved : goal.loop-found-preserved
loop-found-preserved c =
    let found = c.found-item.result in
    c.in_ok-push_document_line.ensures
    ∙ ap (λ (id : List ℕ). c.loop-found.text.items ++ document_line found.slot id found.bytes) c.bytes.ensures
    ∙ ap (λ (lines : List ℕ). lines ++ match_line found) c.loop-found.invariant
    ∙ sym (lines_more match_line c.args.matches.now c.loop-found.found-index c.found-item.result
    (omega arith) c.found-item.is)
