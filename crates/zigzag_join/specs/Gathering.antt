-- All slots that lists have in common, as joins one after another gather them.
use Rattle.std.specs.Prelude.{◌≡◌, ◌<◌, ℕ, List, length, slice_index}
use Rattle.cell_types.specs.declared.geometry.TheConstants.{MAX_SLOTS}
use Rattle.zigzag_join.specs.Joins.{AllOwe, AllVouch}
use Rattle.zigzag_join.specs.Lists.{ListsState}

-- the slot is one of these
pub record IsAmongSlots (slots : List ℕ) (slot : ℕ) : Type 0 where
  pub place : ℕ
  pub inside : place < length slots
  pub is : slice_index slots place ≡ slot

-- these slots rise
abbrev pub GatheredRise : List ℕ → Type 0
GatheredRise slots = (i j : ℕ) → i < j → j < length slots → slice_index slots i < slice_index slots j

-- The slots that lists have in common: each that at entry no list could pass is one of them; every list vouches for
-- each of them at exit; each is live; and they rise.
pub record Gathers (old new : ListsState) (slots : List ℕ) : Type 0 where
  pub all : (slot : ℕ) → AllOwe old slot → slot < MAX_SLOTS → IsAmongSlots slots slot
  pub vouched : (i : ℕ) → i < length slots → AllVouch new (slice_index slots i)
  pub live : (i : ℕ) → i < length slots → new.live (slice_index slots i)
  pub rise : GatheredRise slots
