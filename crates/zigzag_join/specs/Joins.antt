-- What a join of lists answers.
use Rattle.std.specs.Prelude.{◌≡◌, ◌<◌, ◌≤◌, ◌+◌, ◌⊎◌, ℕ, Bool, true, false, Option, Some, None, Result, Ok, Err}
use Rattle.cell_types.specs.declared.geometry.TheConstants.{MAX_SLOTS}
use Rattle.cell_types.specs.declared.refusal.Fault.{Fault}
use Rattle.zigzag_join.specs.Lists.{ListsState, ListsFaultEnds}

-- no list may pass the slot
abbrev pub AllOwe : ListsState → ℕ → Type 0
AllOwe s slot = (which : ℕ) → which < s.lists → s.owes which slot

-- every list vouches for the slot
abbrev pub AllVouch : ListsState → ℕ → Type 0
AllVouch s slot = (which : ℕ) → which < s.lists → s.vouches which slot

-- lists are asked in turn
abbrev pub IsTurnAfter : ℕ → ℕ → ℕ → Type 0
IsTurnAfter lists which next = ((which + 1 ≡ lists) × (next ≡ 0)) ⊎ ((which + 1 < lists) × (next ≡ which + 1))

-- so many lists, in turn, have come to the next slot
abbrev pub HasAgreed : ℕ → ℕ → ℕ → ℕ → Type 0
HasAgreed next slot agreed now = ((slot < next) × (now ≡ 1)) ⊎ ((next ≡ slot) × (now ≡ agreed + 1))

-- whether all lists have the slot, which is live then
abbrev pub AllHaveEnds : ℕ → ListsState → ListsState → Result Bool Fault → Type 0
AllHaveEnds slot old new (Ok true) = AllVouch new slot × new.live slot
AllHaveEnds slot old new (Ok false) = AllOwe old slot → ⊥
AllHaveEnds slot old new (Err fault) = ListsFaultEnds old new fault

-- The next slot at or past one that all lists have: it is live, every list vouches for it at exit, and no slot before it
-- was one that at entry no list could pass. None comes only where there is no such slot at all.
abbrev pub JoinEnds : ℕ → ListsState → ListsState → Result (Option ℕ) Fault → Type 0
JoinEnds from old new (Ok (Some n)) =
    (from ≤ n) × (n < MAX_SLOTS) × AllVouch new n × ((slot : ℕ) → AllOwe old slot → from ≤ slot → n ≤ slot)
    × new.live n
JoinEnds from old new (Ok None) = (slot : ℕ) → AllOwe old slot → from ≤ slot → slot < MAX_SLOTS → ⊥
JoinEnds from old new (Err fault) = ListsFaultEnds old new fault
