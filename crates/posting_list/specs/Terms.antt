-- Terms as their lists have them.
use Rattle.std.specs.Prelude.{◌≡◌, ◌<◌, ℕ, List, Option, Some, None, slice_get}
use Rattle.volume_meaning.specs.Postings.{list_of, tag_of}
use Rattle.worm_device.specs.Views.{ViewState}
use Rattle.posting_list.specs.declared.reach.Reach.{Reach}
use Rattle.posting_list.specs.declared.sought_term.SoughtTerm.{SoughtTerm}

-- a word's list of so many, and its tag
abbrev pub sought_of : ℕ → List ℕ → SoughtTerm
sought_of lists word = record { list = list_of lists word; tag = tag_of word }

-- the volume may stand where the view shows, and has the list of this term
pub record CanBeAsked (r : Reach) (terms : List SoughtTerm) (which : ℕ) (s : ViewState) (term : SoughtTerm)
    : Type 0 where
  pub size : r.volume.geometry.cells ≡ s.cells
  pub there : slice_get terms which ≡ Some term
  pub list : term.list < r.volume.geometry.lists

-- the term of a number, where its list can be asked
abbrev pub TermEnds : Reach → List SoughtTerm → ℕ → ViewState → Option SoughtTerm → Type 0
TermEnds r terms which s (Some term) = CanBeAsked r terms which s term
TermEnds r terms which s None = (term : SoughtTerm) → CanBeAsked r terms which s term → ⊥
