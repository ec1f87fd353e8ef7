-- Neither form was asked for.
use Rattle.std.proofs.Common.{ℕ, List, Option, Some, None}
use Rattle.command_line.specs.Asking.{AsksToIngest, AsksWithStamp, AsksWithoutStamp}
use Rattle.command_line.proofs.Listed.{if_none_then}
use Rattle.command_line.proofs.words.ingest_of.Goals as goal

-- words that ask for neither form ask for no ingest
neither : (words : List (List ℕ)) → ((id : List ℕ) → AsksWithoutStamp words id → ⊥)
    → ((id : List ℕ) (seconds : ℕ) → AsksWithStamp words id seconds → ⊥)
    → (id : List ℕ) (stamp : Option ℕ) → AsksToIngest words id stamp → ⊥
neither words without with id None asks = without id asks
neither words without with id (Some seconds) asks = with id seconds asks

pub returns-clause-none : goal.returns-clause-none
returns-clause-none c =
    if_none_then c.stamped_ingest_of.result (neither _ c.in_default.ensures.none) c.stamped_ingest_of.ensures.none
