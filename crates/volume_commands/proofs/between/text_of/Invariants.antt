-- The text so far tells of the matches so far.
use Rattle.std.proofs.Common.{◌≡◌, take}
use Rattle.command_line.specs.Lines.{lines_of}
use Rattle.volume_commands.specs.Spanning.{time_line}
use Rattle.volume_commands.proofs.between.text_of.Given as goal

abbrev pub invariant-loop-found : goal.invariant-loop-found
invariant-loop-found l = l.text.items ≡ lines_of time_line (take l.found-index l.matches)
