-- Postings, asked one after another, over plain values.
use Rattle.std.proofs.Common.{◌≡◌, ◌<◌, ◌≤◌, ◌+◌, ⊎_elim, ℕ, List, Some, true, false, Ok, ap, arith, sym, subst, ◌∙◌}
use Rattle.std.specs.Prelude.{IsTrue, length, slice_get}
use Rattle.std.proofs.lemmas.Bool.{cases_lt}
use Rattle.std.proofs.lemmas.Option.{same_Some, slice_get_within}
use Rattle.cell_types.specs.Layout.{Layout}
use Rattle.volume_meaning.specs.Postings.{ListedPosting}
use Rattle.worm_device.specs.Views.{ViewState}
use Rattle.worm_device.proofs.Resting.{viewed_self, viewed_then}
use Rattle.kept_documents.specs.Postings.{AsksRow, AsksRows, IsTrailed, RowsSoFar}
use Rattle.kept_documents.proofs.Leading.{trail_later}

pub none_asked : (g : Layout) (rows : List ListedPosting) (old : ViewState) → RowsSoFar g rows 0 old old
none_asked g rows old = record { viewed = viewed_self old; each = λ tells i row less is. absurd (omega (arith, less)) }

module _ (g : Layout) (rows : List ListedPosting) (count : ℕ) (old now new : ViewState)
    (so_far : RowsSoFar g rows count old now) (row : ListedPosting) (here : slice_get rows count ≡ Some row) where
  told : IsTrue old.base.tells → IsTrue now.base.tells
  told tells = subst IsTrue (sym so_far.viewed.called.tells) tells

  -- it has one
  pub one_more : AsksRow g row now new (Ok true) → RowsSoFar g rows (count + 1) old new
  one_more asked = record {
    viewed = viewed_then so_far.viewed asked.viewed;
    each = λ tells i other less is.
        ⊎_elim
        (λ (before : i < count). trail_later asked.viewed (so_far.each tells i other before is))
        (λ (le : count ≤ i).
        let same : count ≡ i = omega (arith, less, le) in
        let one : row ≡ other = same_Some row other
        (sym here ∙ ap (λ (k : ℕ). slice_get rows k) same ∙ is) in
        subst (λ (x : ListedPosting). IsTrailed g new x) one (asked.ends (told tells)))
        (cases_lt i count);
  }

  -- it has none
  pub none_there : AsksRow g row now new (Ok false) → AsksRows g rows old new (Ok false)
  none_there asked = record {
    viewed = viewed_then so_far.viewed asked.viewed;
    ends = (count, row, here, λ tells t. asked.ends (told tells) (trail_later so_far.viewed t));
  }

-- each was asked
pub all_asked : (g : Layout) (rows : List ListedPosting) (count : ℕ) (old now : ViewState)
    → RowsSoFar g rows count old now → length rows ≤ count → AsksRows g rows old now (Ok true)
all_asked g rows count old now so_far all = record {
  viewed = so_far.viewed;
  ends = λ tells i row is. so_far.each tells i row (omega (arith, slice_get_within rows i row is, all)) is;
}
