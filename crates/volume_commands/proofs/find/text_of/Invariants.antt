-- The text so far tells of the matches so far.
use Rattle.std.proofs.Common.{◌≡◌, take}
use Rattle.volume_commands.specs.Finding.{match_line}
use Rattle.command_line.specs.Lines.{lines_of}
use Rattle.volume_commands.proofs.find.text_of.Given as goal

abbrev pub invariant-loop-found : goal.invariant-loop-found
invariant-loop-found l = l.text.items ≡ lines_of match_line (take l.found-index l.matches)
