-- What the pages of a file hold.
use Rattle.std.specs.Prelude.{◌≡◌, ◌<◌, ◌≤◌, ◌+◌, ◌*◌, ◌/◌, ℕ, List, length, slice_get, Option, Some}
use Rattle.worm_device.specs.ReadBytes.{cell_bytes}
use Rattle.host_files.specs.Cells.{AreCellsIn, cell_in}
use Rattle.host_files.specs.File.{Told, patched}
use Rattle.host_files.specs.declared.pages.Page.{Page}

-- each cell of a page that is held has the bytes that it has in the file
abbrev pub PageHolds : ℕ → List ℕ → Page → Type 0
PageHolds cells bytes page =
    (number place : ℕ) → page.number ≡ Some number → place < 256 → 256 * number + place < cells
    → cell_bytes page.bytes place ≡ cell_bytes bytes (256 * number + place)

-- so does each of the pages
abbrev pub PagesHold : ℕ → List ℕ → List Page → Type 0
PagesHold cells bytes pages =
    (frame : ℕ) (page : Page) → slice_get pages frame ≡ Some page → PageHolds cells bytes page

-- the page of this number is held there
abbrev pub IsOn : List Page → ℕ → ℕ → Type 0
IsOn pages frame number = (page : Page) × (slice_get pages frame ≡ Some page) × (page.number ≡ Some number)

-- no two of them are the same page
abbrev pub ArePagesApart : List Page → Type 0
ArePagesApart pages = (number one two : ℕ) → IsOn pages one number → IsOn pages two number → one ≡ two

-- no page is held
abbrev pub HoldNothing : List Page → Type 0
HoldNothing pages = (frame number : ℕ) → IsOn pages frame number → ⊥

-- a page is held nowhere
abbrev pub IsNowhere : List Page → ℕ → Type 0
IsNowhere pages number = (frame : ℕ) → IsOn pages frame number → ⊥

-- the pages hold what is told
abbrev pub Mirror : ℕ → Option Told → List Page → Type 0
Mirror cells told pages = (t : Told) → told ≡ Some t → PagesHold cells t.now.bytes pages

-- where the old pages hold what is told, the new ones do
abbrev pub HoldOn : ℕ → Option Told → List Page → List Page → Type 0
HoldOn cells told old new =
    (t : Told) → told ≡ Some t → PagesHold cells t.now.bytes old → PagesHold cells t.now.bytes new

-- where the pages hold what is told, this is what stands in the cell
abbrev pub IsToldOf : ℕ → ℕ → Option Told → List Page → Option (List ℕ) → Type 0
IsToldOf cells at told pages found =
    (t : Told) → told ≡ Some t → PagesHold cells t.now.bytes pages → found ≡ cell_in (cell_bytes t.now.bytes at)

-- where the pages hold what is told, this is what stands in the cells from this one on
abbrev pub AreToldOf : ℕ → ℕ → Option Told → List Page → List (Option (List ℕ)) → Type 0
AreToldOf cells at told pages found =
    (t : Told) → told ≡ Some t → PagesHold cells t.now.bytes pages → AreCellsIn (length found) at found t.now.bytes

-- where the pages hold what is in a file, these are the bytes of its cells from this one on
abbrev pub AreToldBytes : ℕ → List Page → List ℕ → Type 0
AreToldBytes at pages found =
    (cells : ℕ) (bytes : List ℕ) → PagesHold cells bytes pages → at + length found / 16 ≤ cells
    → (place : ℕ) → place < length found / 16 → cell_bytes found place ≡ cell_bytes bytes (at + place)

-- where the old pages hold the bytes, the new ones hold them with this piece in the cell
abbrev pub HoldPut : ℕ → List ℕ → List Page → List Page → Type 0
HoldPut at piece old new =
    (cells : ℕ) (bytes : List ℕ) → 16 * at + 16 ≤ length bytes → length piece ≡ 16
    → PagesHold cells bytes old → PagesHold cells (patched (16 * at) piece bytes) new
