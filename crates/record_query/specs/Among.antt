-- What is found in the slots of a row, between two images of a settled volume.
use Rattle.std.specs.Prelude.{◌≡◌, ◌<◌, ◌≤◌, ◌+◌, ◌⊎◌, ℕ, zero, suc, List, [], ◌∷◌, ◌++◌, length, slice_index, Contains, Option, Some, None, Result, Ok, Err, IsTrue, ⊤}
use Rattle.std.specs.Global.{Vec}
use Rattle.cell_types.specs.Image.{Image}
use Rattle.cell_types.specs.Layout.{Layout}
use Rattle.cell_types.specs.declared.refusal.Refusal.{Refusal}
use Rattle.cell_types.specs.declared.refusal.Refusal.TheVariants.{NoMemory}
use Rattle.volume_meaning.specs.Words.{Matches, rule_of}
use Rattle.worm_device.specs.State.{DeviceState}
use Rattle.worm_device.specs.Views.{seen_directly}
use Rattle.volume_meaning.specs.Slots.{IsDone, cells_for}
use Rattle.document_store.specs.Looks.{LookRefuses}
use Rattle.document_store.specs.Standing.{HoldsDocument}
use Rattle.record_query.specs.Finding.{HasMatch, HasMatchAt, MatchesRise}
use Rattle.record_query.specs.Matching.{HoldsOther, IsMatchIn}
use Rattle.record_query.specs.declared.found.Match.{Match}

-- with what was found in one more slot
abbrev pub added : Option Match → List Match → List Match
added None matches = matches
added (Some found) matches = matches ++ found ∷ []

-- the match tells of the document that its slot holds, which is one of the first k of the row
pub record IsMatchAmong (g : Layout) (image : Image) (slots : List ℕ) (k : ℕ) (terms : List (List ℕ)) (found : Match)
    : Type 0 where
  pub place : ℕ
  pub before : place < k
  pub at : slice_index slots place ≡ found.slot
  pub is : IsMatchIn g image found.slot terms found

-- Each document that one of the first k slots of the row held, and that has the terms, has its match. Each of these
-- slots has its match, or holds a document that lacks one of the terms. Each match tells of one that is held; and slots
-- rise.
pub record FoundAmong (g : Layout) (slots : List ℕ) (k : ℕ) (terms : List (List ℕ)) (before after : Image)
    (matches : List Match) : Type 0 where
  pub all : (i : ℕ) (id body : List ℕ) → i < k → HoldsDocument g before (slice_index slots i) id body
      → Matches (rule_of g.version) body terms → HasMatch matches (slice_index slots i) id body
  pub judged : (i : ℕ) → i < k
      → HasMatchAt matches (slice_index slots i) ⊎ HoldsOther g after (slice_index slots i) terms
  pub only : (found : Match) → Contains matches found → IsMatchAmong g after slots k terms found
  pub rise : MatchesRise 0 matches

-- a look at some slot was refused
pub record RefusesSlot (g : Layout) (old new : DeviceState) (refusal : Refusal) : Type 0 where
  pub n : ℕ
  pub refuses : LookRefuses g n (seen_directly old 0) (seen_directly new 0) refusal

-- how going along the slots of a row may end, and why
abbrev pub AmongEnds
    : Layout → List ℕ → List (List ℕ) → DeviceState → DeviceState → Result (Vec Match) Refusal → Type 0
AmongEnds g slots terms old new (Ok matches) =
    IsTrue old.tells → FoundAmong g slots (length slots) terms old.image new.image matches.items
AmongEnds g slots terms old new (Err NoMemory) = ⊤
AmongEnds g slots terms old new (Err refusal) = RefusesSlot g old new refusal

-- what reading the documents of the first k slots of a row costs, each slot by its own cost
abbrev pub row_cost : (ℕ → ℕ) → List ℕ → ℕ → ℕ
row_cost cost [] k = 0
row_cost cost (slot ∷ slots) zero = 0
row_cost cost (slot ∷ slots) (suc k) = cost slot + row_cost cost slots k

-- so many reads are enough for the document of the slot, which is done: one for each of its cells
pub record IsSlotCost (g : Layout) (image : Image) (slot cost : ℕ) : Type 0 where
  pub start : ℕ
  pub reserved : ℕ
  pub bytes : ℕ
  pub journal : ℕ
  pub done : IsDone g image slot start reserved bytes journal
  pub most : cells_for bytes ≤ cost

-- Going along the slots of a row, which are done, costs what its slots do, whatever is answered.
abbrev pub ReadsEach : Layout → List ℕ → DeviceState → DeviceState → Type 0
ReadsEach g slots old new =
    IsTrue old.tells → (cost : ℕ → ℕ)
    → ((i : ℕ) → i < length slots → IsSlotCost g old.image (slice_index slots i) (cost (slice_index slots i)))
    → new.reads ≤ old.reads + row_cost cost slots (length slots)
