-- The lines of replies, one by one.
use Rattle.std.proofs.Common.{◌≡◌, ◌+◌, ℕ, suc, List, [], ◌∷◌, ◌++◌, length, refl, ap, sym, ◌∙◌, arith}
use Rattle.std.proofs.Common.{append-nil, append_assoc}
use Rattle.script_replies.specs.Lines.{OneLineEach, lines_from, reply_line}
use Rattle.script_replies.specs.declared.reply.Reply.{Reply}

one_more : (number : ℕ) (replies : List Reply) (r : Reply)
    → lines_from number (replies ++ r ∷ []) ≡ lines_from number replies ++ reply_line (length replies + number) r
one_more number [] r =
    let first : 0 + number ≡ number = omega arith in
    append-nil (reply_line number r) ∙ ap (λ n. reply_line n r) (sym first)
one_more number (q ∷ replies) r =
    let next : length replies + (number + 1) ≡ suc (length replies) + number = omega arith in
    ap (λ text. reply_line number q ++ text) (one_more (number + 1) replies r)
    ∙ sym (append_assoc (reply_line number q) (lines_from (number + 1) replies) (reply_line (length replies + (number + 1)) r))
    ∙ ap (λ n. (reply_line number q ++ lines_from (number + 1) replies) ++ reply_line n r) next

pub one_line_each : OneLineEach
one_line_each = record { none = refl; more = one_more 1 }
