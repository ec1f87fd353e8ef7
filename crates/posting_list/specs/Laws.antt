-- Laws of lists of terms.
use Rattle.std.specs.Prelude.{◌≡◌, ◌<◌, ℕ, List, Some, IsTrue, slice_get}
use Rattle.cell_types.specs.Layout.{pool_at}
use Rattle.volume_meaning.specs.Documents.{Document}
use Rattle.volume_meaning.specs.Volumes.{IsVolume}
use Rattle.volume_meaning.specs.Keeping.{IsKept}
use Rattle.volume_meaning.specs.Postings.{HasTag}
use Rattle.worm_device.specs.Views.{ViewState}
use Rattle.posting_list.specs.Owing.{Owes}
use Rattle.posting_list.specs.declared.reach.Reach.{Reach}
use Rattle.posting_list.specs.declared.sought_term.SoughtTerm.{SoughtTerm}

-- a term's list must not pass the slot of a kept document with the term's tag
abbrev pub KeptAreOwed : Type 0
KeptAreOwed =
    (r : Reach) (terms : List SoughtTerm) (s : ViewState) (which : ℕ) (term : SoughtTerm) (d : Document)
    → IsTrue s.base.tells → IsVolume s.cells s.image r.volume.geometry → r.bounds.pool ≡ pool_at r.volume.geometry
    → slice_get terms which ≡ Some term → term.list < r.volume.geometry.lists
    → IsKept s.cells s.image r.volume.geometry d → HasTag r.volume.geometry d.body term.list term.tag
    → Owes r terms s which d.slot
