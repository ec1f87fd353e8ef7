-- What holds of all words.
use Rattle.std.specs.Prelude.{◌≡◌, ◌<◌, ◌^◌, ℕ, List}
use Rattle.std.specs.Fmt.{decimal}
use Rattle.command_line.specs.Requests.{Asks, Request}
use Rattle.command_line.specs.Words.{IsNumber}

-- words ask for one thing at most
abbrev pub AskOnce : Type 0
AskOnce = (words : List (List ℕ)) (first second : Request) → Asks words first → Asks words second → first ≡ second

-- the digits that a number of 1 to 10 digits is written with stand for it
abbrev pub DecimalsAreNumbers : Type 0
DecimalsAreNumbers = (n : ℕ) → n < 10 ^ 10 → IsNumber (decimal n) n
