-- The lines are those of the parts of the replies.
use Rattle.std.proofs.Common.{◌≡◌, IfOk, List, subst, string_bytes, ℕ}
use Rattle.volume_exercise.proofs.Counted.{counted_lines}
use Rattle.volume_exercise.proofs.tallies.text_of.Goals as goal

pub returns : goal.returns
returns c =
    subst (λ (l : List ℕ). IfOk c.lines.result (λ text. string_bytes text ≡ l))
    (counted_lines c.args.documents c.args.replies.now _ _ _ _ _ c.acknowledged.ensures c.found.ensures c.found-2.ensures
    c.in_ok-returned_all.ensures c.sound_line.ensures) c.lines.ensures
