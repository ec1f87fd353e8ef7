-- What a source is for contracts, and what taking from it does.
use Rattle.std.specs.Prelude.{◌≡◌, ◌<◌, ◌≤◌, ◌++◌, ℕ, List, [], length, take, Option, Some, None, Result, MatchResult, ⊤}
use Rattle.worm_device.specs.Counts.{Rose}
use Rattle.worm_device.specs.declared.device.Failed.{Failed}

pub record SourceState : Type 0 where
  -- the bytes that are left, in order, where the source tells them
  pub left : Option (List ℕ)
  -- how many of its calls have failed
  pub faults : ℕ

-- These bytes were at the front of what was left, and are gone. A source that tells goes on telling, and one
-- that doesn't goes on not telling.
abbrev pub Gives : Option (List ℕ) → Option (List ℕ) → List ℕ → Type 0
Gives None None bytes = ⊤
Gives None (Some new) bytes = ⊥
Gives (Some old) None bytes = ⊥
Gives (Some old) (Some new) bytes = old ≡ bytes ++ new

-- nothing is left, where the source tells
abbrev pub IsAtEnd : Option (List ℕ) → Type 0
IsAtEnd None = ⊤
IsAtEnd (Some left) = left ≡ []

-- A call took n bytes into the slice, which holds them at its front now: at most as many as the slice has, and
-- none into a slice that has room only at the end of the input.
pub record TakesSome (into : List ℕ) (old new : SourceState) (n : ℕ) : Type 0 where
  pub room : n ≤ length into
  pub gives : Gives old.left new.left (take n into)
  pub end : n ≡ 0 → 0 < length into → IsAtEnd new.left
  pub faults : new.faults ≡ old.faults

-- A call failed: it is counted as a fault, and nothing is gone.
pub record TakesNothing (old new : SourceState) : Type 0 where
  pub left : new.left ≡ old.left
  pub faults : Rose old.faults new.faults

-- what a call does, with the slice as it holds at its exit
abbrev pub Takes : List ℕ → SourceState → SourceState → Result ℕ Failed → Type 0
Takes into old new result = MatchResult result (TakesSome into old new) (λ _. TakesNothing old new)
