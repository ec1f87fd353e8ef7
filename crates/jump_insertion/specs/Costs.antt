-- What inserting a posting costs, and what the list keeps for the next one.
use Rattle.std.specs.Prelude.{◌<◌, ◌≤◌, ◌+◌, ℕ}
use Rattle.cell_types.specs.Image.{Image}
use Rattle.volume_meaning.specs.Volumes.{Holds}
use Rattle.volume_meaning.specs.Blocks.{PostingFields, posting_record, Leads, Trail}
use Rattle.ingest_laws.specs.ListShapes.{IsWellListed}
use Rattle.ingest_laws.specs.Needs.{PostingCosts}
use Rattle.jump_insertion.specs.Growing.{Grows}

-- each posting in an entry place of the list's blocks has a trail from the first block
abbrev pub ListHasTrails : Image → ℕ → ℕ → ℕ → Type 0
ListHasTrails image floor next head =
    (block place : ℕ) (q : PostingFields) → Leads image floor next block head → place < 128
    → Holds image (block + place) (posting_record q) → (at : ℕ) × Trail image floor next at q head

-- each of them has a key below this one
abbrev pub HaveKeysBelow : Image → ℕ → ℕ → ℕ → ℕ → Type 0
HaveKeysBelow image floor next head key =
    (block place : ℕ) (q : PostingFields) → Leads image floor next block head → place < 128
    → Holds image (block + place) (posting_record q) → q.key < key

-- what a posting with a greater key than the list's adds to it costs what it must
abbrev pub InsertionsCost : Type 0
InsertionsCost =
    (old new : Image) (floor next to head cost : ℕ) (p : PostingFields) → IsWellListed old floor next head
    → ListHasTrails old floor next head → HaveKeysBelow old floor next head p.key
    → Grows old new floor next to head p cost → PostingCosts floor head p old new next to cost

-- behind it each posting has a trail again, and none a greater key than the new one
abbrev pub InsertionsKeepTrails : Type 0
InsertionsKeepTrails =
    (old new : Image) (floor next to head cost : ℕ) (p : PostingFields) → IsWellListed old floor next head
    → floor ≤ next → ListHasTrails old floor next head → HaveKeysBelow old floor next head p.key
    → Grows old new floor next to head p cost
    → ListHasTrails new floor to head × ((key : ℕ) → p.key < key → HaveKeysBelow new floor to head key)
