-- The text of the matches so far has got the line of one match more.
use Rattle.std.proofs.Common.{◌++◌, List, ℕ, sym, ap, ◌∙◌, arith}
use Rattle.volume_commands.specs.Spanning.{stamped_line, time_line}
use Rattle.command_line.proofs.Lines.{lines_more}
use Rattle.volume_commands.proofs.between.text_of.Goals as goal

pub loop-found-preserved : goal.loop-found-preserved
loop-found-preserved c =
    let found = c.found-item.result in
    c.in_ok-push_stamped_line.ensures
    ∙ ap (λ (id : List ℕ). c.loop-found.text.items ++ stamped_line found.slot id found.seconds found.bytes)
    c.bytes.ensures
    ∙ ap (λ (lines : List ℕ). lines ++ time_line found) c.loop-found.invariant
    ∙ sym (lines_more time_line c.args.matches.now c.loop-found.found-index c.found-item.result (omega arith)
    c.found-item.is)
