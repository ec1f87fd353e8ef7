-- The text so far tells of the documents so far.
use Rattle.std.proofs.Common.{◌≡◌, take}
use Rattle.command_line.specs.Lines.{lines_of}
use Rattle.record_top.specs.Copying.{moved_line}
use Rattle.record_top.proofs.copy_text.text_of.Given as goal

abbrev pub invariant-loop-moved : goal.invariant-loop-moved
invariant-loop-moved l = l.text.items ≡ lines_of moved_line (take l.moved-index l.moves)
