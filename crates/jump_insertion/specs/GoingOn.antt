-- What goes on from one insertion to the next.
use Rattle.std.specs.Prelude.{◌≡◌, ◌≢◌, ◌≤◌, ◌+◌, ℕ, None}
use Rattle.cell_types.specs.Image.{Image, Extends}
use Rattle.volume_meaning.specs.Blocks.{PostingFields, Trail}
use Rattle.volume_meaning.specs.Nodes.{AreApart}
use Rattle.worm_device.specs.Views.{ViewState, IsView}
use Rattle.jump_insertion.specs.Inserting.{PlansEntry}
use Rattle.jump_insertion.specs.Readiness.{IsReadyList, IsUntouched}

-- where a view shows nothing planned, no list is touched
abbrev pub NothingIsTouched : Type 0
NothingIsTouched =
    (s : ViewState) (head : ℕ) → IsView s → ((cell : ℕ) → s.planned cell ≡ None) → IsUntouched s head

-- any posting may be inserted into a list of which nothing is planned
abbrev pub UntouchedIsReady : Type 0
UntouchedIsReady = (s : ViewState) (head floor next key : ℕ) → IsUntouched s head → IsReadyList s head floor next key

-- what one insertion plans leaves another list untouched, whose first block lies apart
abbrev pub OthersStayUntouched : Type 0
OthersStayUntouched =
    (head floor next to : ℕ) (p : PostingFields) (at : ℕ) (old new : ViewState) (other : ℕ)
    → PlansEntry head floor next to p at old new → other ≢ head → AreApart other 256 head 256 → other + 256 ≤ floor
    → IsUntouched old other → IsUntouched new other

-- the trail of a posting goes on where cells are added, and where the pool's next cell is a later one
abbrev pub TrailsGoOn : Type 0
TrailsGoOn =
    (old new : Image) (floor to later at : ℕ) (p : PostingFields) (head : ℕ) → Extends old new → to ≤ later
    → Trail old floor to at p head → Trail new floor later at p head
