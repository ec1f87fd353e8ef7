-- How often a join asks its lists.
use Rattle.std.specs.Prelude.{◌≤◌, ◌+◌, ◌*◌, ℕ, List, length, Contains, Option, Some, Result, Ok}
use Rattle.cell_types.specs.declared.refusal.Fault.{Fault}
use Rattle.worm_device.specs.Counts.{IsStill}
use Rattle.zigzag_join.specs.Lists.{ListsState}

-- these have each slot of the list from one up to another
abbrev pub HaveSlots : ListsState → ℕ → ℕ → ℕ → List ℕ → Type 0
HaveSlots s which from to slots = (slot : ℕ) → s.lands which slot → from ≤ slot → slot ≤ to → Contains slots slot

-- these have each slot of the list from one on
abbrev pub HaveAllSlots : ListsState → ℕ → ℕ → List ℕ → Type 0
HaveAllSlots s which from slots = (slot : ℕ) → s.lands which slot → from ≤ slot → Contains slots slot

-- so many slots of one list cost at most so many asks of all of them
abbrev pub CostsAtMost : ListsState → ListsState → ℕ → Type 0
CostsAtMost old new count =
    (new.next_asks ≤ old.next_asks + old.lists * (count + 1)) × (new.has_asks ≤ old.has_asks + old.lists * count)

-- Where nobody else wrote, a join asks no oftener than any one list has slots: from the first up to the answer, which
-- is one of them, or all from the first on where there is no slot to answer.
abbrev pub JoinCosts : ℕ → ListsState → ListsState → Result (Option ℕ) Fault → Type 0
JoinCosts from old new (Ok (Some n)) =
    IsStill old.view.base.foreign_writes new.view.base.foreign_writes → (which : ℕ) → which + 1 ≤ old.lists
    → (slots : List ℕ) → HaveSlots old which from n slots → Contains slots n × CostsAtMost old new (length slots)
JoinCosts from old new other =
    IsStill old.view.base.foreign_writes new.view.base.foreign_writes → (which : ℕ) → which + 1 ≤ old.lists
    → (slots : List ℕ) → HaveAllSlots old which from slots → CostsAtMost old new (length slots)

-- And gathering all that they have in common asks at most twice for each slot of any one list, and once besides.
abbrev pub GatherCosts : ListsState → ListsState → Type 0
GatherCosts old new =
    IsStill old.view.base.foreign_writes new.view.base.foreign_writes → (which : ℕ) → which + 1 ≤ old.lists
    → (slots : List ℕ) → HaveAllSlots old which 0 slots
    → (new.next_asks ≤ old.next_asks + old.lists * (2 * length slots + 1))
    × (new.has_asks ≤ old.has_asks + old.lists * length slots)
