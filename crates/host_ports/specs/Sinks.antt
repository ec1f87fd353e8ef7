-- What a sink is for contracts, and what putting into it does.
use Rattle.std.specs.Prelude.{◌≡◌, ◌<◌, ◌≤◌, ◌++◌, ℕ, List, length, take, Option, Some, None, Result, MatchResult, ⊤}
use Rattle.worm_device.specs.Counts.{Rose}
use Rattle.worm_device.specs.declared.device.Failed.{Failed}

pub record SinkState : Type 0 where
  -- the bytes that it holds, in order, where the sink tells them
  pub held : Option (List ℕ)
  -- how many of its calls have failed
  pub faults : ℕ

-- The sink holds these bytes behind what it held. One that tells goes on telling, and one that doesn't goes
-- on not telling.
abbrev pub Gets : Option (List ℕ) → Option (List ℕ) → List ℕ → Type 0
Gets None None bytes = ⊤
Gets None (Some new) bytes = ⊥
Gets (Some old) None bytes = ⊥
Gets (Some old) (Some new) bytes = new ≡ old ++ bytes

-- A call put the first n bytes of the piece: at most the piece, and at least one byte of a piece that has one.
pub record PutsSome (piece : List ℕ) (old new : SinkState) (n : ℕ) : Type 0 where
  pub most : n ≤ length piece
  pub some : 0 < length piece → 0 < n
  pub gets : Gets old.held new.held (take n piece)
  pub faults : new.faults ≡ old.faults

-- A call failed: it is counted as a fault, and the sink may have got some first bytes of the piece.
pub record PutsPart (piece : List ℕ) (old new : SinkState) : Type 0 where
  pub gets : (n : ℕ) × (n ≤ length piece) × Gets old.held new.held (take n piece)
  pub faults : Rose old.faults new.faults

-- what a call does
abbrev pub PutsIntoSink : List ℕ → SinkState → SinkState → Result ℕ Failed → Type 0
PutsIntoSink piece old new result = MatchResult result (PutsSome piece old new) (λ _. PutsPart piece old new)
