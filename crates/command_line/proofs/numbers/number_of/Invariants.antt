-- The digits so far are digits, and stand for the number so far, which has no more of them.
use Rattle.std.proofs.Common.{◌≡◌, ◌≤◌, ◌<◌, ◌^◌, ℕ, take, slice_index}
use Rattle.command_line.specs.Words.{digits_value}
use Rattle.command_line.proofs.numbers.number_of.Given as goal

abbrev pub invariant-loop-digit : goal.invariant-loop-digit
invariant-loop-digit l =
    (l.n ≡ digits_value (take l.digit-index l.word))
    × (l.n < 10 ^ l.digit-index)
    × ((i : ℕ) → i < l.digit-index → (48 ≤ slice_index l.word i) × (slice_index l.word i ≤ 57))
