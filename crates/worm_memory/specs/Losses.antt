-- What a crash does, as a row of changes: of the cells that are not sure those stay that are kept, and all that stands
-- then is sure.
use Rattle.std.specs.Prelude.{◌≡◌, ◌↔◌, if◌then◌else◌, ℕ, true, false, List, [], ◌∷◌, Option, Some, None, slice_set, ⊤}
use Rattle.std.specs.List.{count_by}
use Rattle.cell_types.specs.Image.{Image}
use Rattle.worm_device.specs.State.{Instant}
use Rattle.worm_memory.specs.Unsure.{is_among, unsure_of}
use Rattle.worm_memory.specs.Worlds.{after_changes, blank, world, AreChanges}
use Rattle.worm_memory.specs.declared.change.Change.{Change}
use Rattle.worm_memory.specs.declared.change.Change.TheVariants.{Lost, Crashed}

-- what stands after a crash that keeps these cells
abbrev pub kept_image : List ℕ → Image → Image → Image
kept_image keep image sure = λ cell. if is_among cell keep then image cell else sure cell

-- the changes that a crash records, where these cells are not sure
abbrev pub crash_changes : List ℕ → List ℕ → List Change
crash_changes keep [] = Crashed ∷ []
crash_changes keep (at ∷ unsure) = if is_among at keep then crash_changes keep unsure else Lost at ∷ crash_changes
    keep unsure

-- each cell that is neither among these nor kept is sure as it stands
abbrev pub AllElseSure : List ℕ → List ℕ → Instant → Type 0
AllElseSure keep unsure now = (cell : ℕ) → is_among cell unsure ≡ false → is_among cell keep ≡ false
    → now.image cell ≡ now.sure cell

-- a crash leaves what is kept and what is sure, and that is sure then
abbrev pub ACrashKeeps : Type 0
ACrashKeeps =
    (keep unsure : List ℕ) (now : Instant) → AllElseSure keep unsure now → (cell : ℕ)
    → ((after_changes now (crash_changes keep unsure)).image cell ≡ kept_image keep now.image now.sure cell)
    × ((after_changes now (crash_changes keep unsure)).sure cell
    ≡ (after_changes now (crash_changes keep unsure)).image cell)

-- how many of these are kept
abbrev pub kept_count : List ℕ → List ℕ → ℕ
kept_count keep unsure = count_by (λ at. is_among at keep) unsure

-- what a crash leaves in a device's cells, where these are not sure
abbrev pub crash_cells : List ℕ → List ℕ → List (Option (List ℕ)) → List (Option (List ℕ))
crash_cells keep [] cells = cells
crash_cells keep (at ∷ unsure) cells =
    crash_cells keep unsure (if is_among at keep then cells else slice_set cells at None)

-- each of these numbers is there once
abbrev pub AreDistinct : List ℕ → Type 0
AreDistinct [] = ⊤
AreDistinct (n ∷ ns) = (is_among n ns ≡ false) × AreDistinct ns

-- the cells of `unsure_of` are those that are written and not sure, each once
abbrev pub UnsureCells : Type 0
UnsureCells =
    (cells : ℕ) (changes : List Change) → AreChanges cells blank changes → AreDistinct (unsure_of changes)
    × ((cell : ℕ) → (is_among cell (unsure_of changes) ≡ true)
    ↔ ((value : List ℕ) × ((world changes).image cell ≡ Some value) × ((world changes).sure cell ≡ None)))
