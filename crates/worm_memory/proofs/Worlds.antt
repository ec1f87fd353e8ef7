-- What a row of changes keeps, and what one more change adds.
use Rattle.std.proofs.Common.{◌≡◌, ◌≢◌, ◌<◌, ℕ, List, [], ◌∷◌, ◌++◌, Option, Some, None, refl, ap, sym, ◌∙◌, arith}
use Rattle.std.proofs.lemmas.Bool.Decides.{nat_tests}
use Rattle.std.proofs.lemmas.Option.{none-some}
use Rattle.cell_types.specs.Image.{Image, Extends}
use Rattle.worm_device.specs.State.{Instant}
use Rattle.worm_device.proofs.Images.{extends_self}
use Rattle.worm_memory.specs.declared.change.Change.{Change}
use Rattle.worm_memory.specs.declared.change.Change.TheVariants.{Wrote, Foreign, Synced, Lost, Crashed}
use Rattle.worm_memory.specs.Proper.{kept}
use Rattle.cell_types.specs.Bytes.{IsCell}
use Rattle.worm_memory.specs.Worlds.{written, PutsInto, ours, theirs, after_change, after_changes, blank, world, AreChanges}

-- the cell that was written holds the value, if it was blank
pub written_here : (image : Image) (at : ℕ) (value : List ℕ) → image at ≡ None
    → written image at value at ≡ Some value
written_here image at value h = grind (arith, nat_tests)

-- each other cell holds what it held
pub written_elsewhere : (image : Image) (at : ℕ) (value : List ℕ) (cell : ℕ) → cell ≢ at
    → written image at value cell ≡ image cell
written_elsewhere image at value cell h = grind (arith, nat_tests)

-- one more change
pub after_append : (now : Instant) (changes : List Change) (change : Change)
    → after_changes now (changes ++ change ∷ []) ≡ after_change (after_changes now changes) change
after_append now [] change = refl
after_append now (first ∷ changes) change = after_append (after_change now first) changes change

-- what stands in a cell after it
pub image_is : (changes : List Change) (change : Change) (cell : ℕ)
    → (world (changes ++ change ∷ [])).image cell ≡ (after_change (world changes) change).image cell
image_is changes change cell = ap (λ (now : Instant). now.image cell) (after_append blank changes change)

-- more changes
pub after_row : (now : Instant) (changes more : List Change)
    → after_changes now (changes ++ more) ≡ after_changes (after_changes now changes) more
after_row now [] more = refl
after_row now (first ∷ changes) more = after_row (after_change now first) changes more

-- more changes are changes, where they are by themselves
pub changes_append : (cells : ℕ) (now : Instant) (changes more : List Change)
    → AreChanges cells now changes → AreChanges cells (after_changes now changes) more
    → AreChanges cells now (changes ++ more)
changes_append cells now [] more old new = new
changes_append cells now (Wrote at value ∷ changes) more old new =
    (old.0, old.1, old.2, changes_append cells (after_change now (Wrote at value)) changes more old.3 new)
changes_append cells now (Foreign at value ∷ changes) more old new =
    (old.0, old.1, old.2, changes_append cells (after_change now (Foreign at value)) changes more old.3 new)
changes_append cells now (Synced ∷ changes) more old new = (
  old.0,
  changes_append cells
      (after_change now Synced) changes more old.1 new,
)
changes_append cells now (Lost at ∷ changes) more old new =
    (old.0, changes_append cells (after_change now (Lost at)) changes more old.1 new)
changes_append cells now (Crashed ∷ changes) more old new = changes_append cells
    (after_change now Crashed) changes more old new

-- a change that only adds: every one but a loss
abbrev pub Adds : Change → Type 0
Adds (Wrote at value) = Unit {0}
Adds (Foreign at value) = Unit {0}
Adds Synced = Unit {0}
Adds (Lost at) = ⊥
Adds Crashed = Unit {0}

-- what stands stays
pub image_grows : (now : Instant) (change : Change) → Adds change → Extends now.image (after_change now change).image
image_grows now (Wrote at value) adds = kept now.image at value
image_grows now (Foreign at value) adds = kept now.image at value
image_grows now Synced adds = extends_self now.image
image_grows now (Lost at) adds = absurd adds
image_grows now Crashed adds = extends_self now.image

-- what is sure stays sure
pub sure_grows : (now : Instant) (change : Change) → Extends now.sure now.image
    → Extends now.sure (after_change now change).sure
sure_grows now (Wrote at value) stands = extends_self now.sure
sure_grows now (Foreign at value) stands = extends_self now.sure
sure_grows now Synced stands = stands
sure_grows now (Lost at) stands = extends_self now.sure
sure_grows now Crashed stands = stands

-- where less stands than in a blank cell, nothing stands
pub blank_below : (low high : Option (List ℕ)) → ((value : List ℕ) → low ≡ Some value → high ≡ Some value)
    → high ≡ None → low ≡ None
blank_below None high keeps free = refl
blank_below (Some value) high keeps free = absurd (none-some value (sym free ∙ keeps value refl))

-- what a put makes of an image, and that it makes nothing sure
pub put_image : {at : ℕ} {value : List ℕ} {change : Change} → PutsInto at value change → (now : Instant)
    → (after_change now change).image ≡ written now.image at value
put_image ours now = refl
put_image theirs now = refl

put_sure : {at : ℕ} {value : List ℕ} {change : Change} → PutsInto at value change → (now : Instant)
    → (after_change now change).sure ≡ now.sure
put_sure ours now = refl
put_sure theirs now = refl

-- a put is a change where its cell was blank and its value is a written cell's
pub put_is_change : {at : ℕ} {value : List ℕ} {change : Change} → PutsInto at value change → (cells : ℕ) (now : Instant)
    → at < cells → now.image at ≡ None → IsCell value → AreChanges cells now (change ∷ [])
put_is_change ours cells now inside free is_cell = (inside, free, is_cell, tt)
put_is_change theirs cells now inside free is_cell = (inside, free, is_cell, tt)
