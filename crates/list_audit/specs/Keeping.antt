-- When a slot's document keeps rule 13.
use Rattle.std.specs.Prelude.{◌≡◌, ℕ, List, Some, slice_get}
use Rattle.cell_types.specs.Image.{Image}
use Rattle.cell_types.specs.Layout.{Layout, list_at}
use Rattle.document_store.specs.Standing.{HoldsDocument}
use Rattle.volume_meaning.specs.Blocks.{PostingFields}
use Rattle.volume_meaning.specs.Postings.{ListedPosting}
use Rattle.tamper_rules.specs.Rules.{TrailRule}
use Rattle.list_audit.specs.Tables.{FitsRow, HasRow}
use Rattle.list_audit.specs.Trails.{HasTrail}

-- each of these postings has a trail from the first block of its list
abbrev pub HaveTrails : Layout → Image → List ListedPosting → Type 0
HaveTrails g image rows =
    (i : ℕ) (row : ListedPosting) → slice_get rows i ≡ Some row → HasTrail g image row.posting (list_at g row.list)

-- each posting of a table has one
abbrev pub AreLedTo : Layout → Image → List (ℕ × List ℕ) → Type 0
AreLedTo g image rows = (l : ℕ) (p : PostingFields) → FitsRow l p → HasRow rows l p → HasTrail g image p (list_at g l)

-- rule 13 at slot n
abbrev pub KeepsTrailRule : Layout → Image → ℕ → Type 0
KeepsTrailRule g image n = (id body : List ℕ) → HoldsDocument g image n id body → TrailRule g image n body
