-- Which cells a crash could take, read off the record.
use Rattle.std.specs.Prelude.{◌+◌, ◌==◌, ◌++◌, if◌then◌else◌, ℕ, Bool, true, false, List, [], ◌∷◌, Option, Some, None}
use Rattle.worm_memory.specs.declared.change.Change.{Change}
use Rattle.worm_memory.specs.declared.change.Change.TheVariants.{Wrote, Foreign, Synced, Lost, Crashed}

-- the number is among these
abbrev pub is_among : ℕ → List ℕ → Bool
is_among n [] = false
is_among n (m ∷ ms) = if n == m then true else is_among n ms

-- these numbers without this one
abbrev pub without : ℕ → List ℕ → List ℕ
without n [] = []
without n (m ∷ ms) = if n == m then without n ms else m ∷ without n ms

-- The cells that are not sure after one more change: a write adds its cell, whoever writes; a loss takes its cell away;
-- and after a sync or a crash there are none.
abbrev pub unsure_then : List ℕ → Change → List ℕ
unsure_then unsure (Wrote at value) = unsure ++ at ∷ []
unsure_then unsure (Foreign at value) = unsure ++ at ∷ []
unsure_then unsure Synced = []
unsure_then unsure (Lost at) = without at unsure
unsure_then unsure Crashed = []

abbrev pub unsure_after : List ℕ → List Change → List ℕ
unsure_after unsure [] = unsure
unsure_after unsure (change ∷ changes) = unsure_after (unsure_then unsure change) changes

-- The cells that are written and not sure after these changes of blank cells, in the order in which they were
-- written. That they are just these, each once, the law `unsure_cells` says.
abbrev pub unsure_of : List Change → List ℕ
unsure_of changes = unsure_after [] changes

-- how many of a device's cells are blank
abbrev pub blanks : List (Option (List ℕ)) → ℕ
blanks [] = 0
blanks (None ∷ cells) = blanks cells + 1
blanks (Some value ∷ cells) = blanks cells
