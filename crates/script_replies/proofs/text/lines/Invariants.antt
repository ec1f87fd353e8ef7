use Rattle.std.proofs.Common.{◌≡◌, ◌++◌, ◌+◌, drop, string_bytes}
use Rattle.script_replies.specs.Lines.{lines_from}
use Rattle.script_replies.proofs.text.lines.Given as goal

-- the lines so far, and those of the replies that are left
abbrev pub invariant-loop-reply : goal.invariant-loop-reply
invariant-loop-reply l =
    record {
      lines : string_bytes l.text ++ lines_from (l.number + 1) (drop l.reply-index l.replies) ≡ lines_from 1 l.replies;
      counted : l.number ≡ l.reply-index;
    }
