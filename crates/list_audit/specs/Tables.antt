-- Postings that are looked up by all that they say.
use Rattle.std.specs.Prelude.{◌≡◌, ◌<◌, ◌+◌, ◌*◌, ◌^◌, ◌↔◌, ◌⊎◌, ℕ, List, Some, Contains, slice_get}
use Rattle.std.specs.declared.cmp.Ordering.{Ordering}
use Rattle.std.specs.Ordering.{nat_cmp, ordering_then}
use Rattle.std.specs.Cmp.Lexicographic.{slice_cmp}
use Rattle.std.specs.List.Sorted.{IsSorted}
use Rattle.volume_meaning.specs.Blocks.{PostingFields}
use Rattle.volume_meaning.specs.Postings.{ListedPosting}
use Rattle.list_audit.specs.declared.table.TheConstants.{LIST_STEP, KEY_STEP}

-- a list, a key and a greatest ordinal as one number
abbrev pub number_of : ℕ → ℕ → ℕ → ℕ
number_of l key last = l * LIST_STEP + key * KEY_STEP + last

-- numbers and tags in their order
abbrev pub row_cmp : ℕ × List ℕ → ℕ × List ℕ → Ordering
row_cmp x y = ordering_then (nat_cmp x.0 y.0) (slice_cmp nat_cmp x.1 y.1)

-- the posting of list l is there
abbrev pub HasRow : List (ℕ × List ℕ) → ℕ → PostingFields → Type 0
HasRow rows l p = Contains rows (number_of l p.key p.last, p.tag)

-- they are in order
abbrev pub AreOrderedRows : List (ℕ × List ℕ) → Type 0
AreOrderedRows rows = IsSorted row_cmp rows

-- the same ones are there
abbrev pub AreSameRows : List (ℕ × List ℕ) → List (ℕ × List ℕ) → Type 0
AreSameRows old new = (row : ℕ × List ℕ) → Contains new row ↔ Contains old row

-- its numbers are such as a cell can hold
pub record FitsRow (l : ℕ) (p : PostingFields) : Type 0 where
  pub list : l < 2 ^ 16
  pub key : p.key < 2 ^ 32
  pub last : p.last < 2 ^ 8

-- new has those of old and this one
abbrev pub AddsRow : ListedPosting → List (ℕ × List ℕ) → List (ℕ × List ℕ) → Type 0
AddsRow row old new =
    (l : ℕ) (p : PostingFields) → FitsRow l p
    → (HasRow new l p ↔ (HasRow old l p ⊎ ((row.list ≡ l) × (row.posting ≡ p))))

-- new has those of old and these
abbrev pub AddsRows : List ListedPosting → List (ℕ × List ℕ) → List (ℕ × List ℕ) → Type 0
AddsRows added old new =
    (l : ℕ) (p : PostingFields) → FitsRow l p
    → (HasRow new l p ↔ (HasRow old l p ⊎ ((i : ℕ) × (slice_get added i ≡ Some (record { list = l; posting = p })))))
