-- The text of the documents so far has got the line of one document more.
use Rattle.std.proofs.Common.{◌<◌, ◌++◌, List, ℕ, length, get_or, sym, ap, ◌∙◌, arith}
use Rattle.std.proofs.lemmas.List.{get_or_default}
use Rattle.volume_copy.specs.declared.moved.Moved.{Moved}
use Rattle.command_line.proofs.Lines.{lines_more}
use Rattle.record_top.specs.Copying.{moved_line}
use Rattle.record_top.proofs.copy_text.text_of.Goals as goal

pub loop-moved-preserved : goal.loop-moved-preserved
loop-moved-preserved c =
    let moves = c.args.moves.now in
    let i = c.loop-moved.moved-index in
    let none : Moved = record { old = 0; new = 0 } in
    let moved = get_or moves i none in
    let less : i < length moves = omega (arith, c.loop-moved-test.true) in
    c.in_ok-push_slots_line.ensures ∙ ap (λ (lines : List ℕ). lines ++ moved_line moved) c.loop-moved.invariant
    ∙ sym (lines_more moved_line moves i moved less (get_or_default moves i none moved less))
