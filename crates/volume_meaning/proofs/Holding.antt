-- What a cell holds: one record.
use Rattle.std.proofs.Common.{◌≡◌, take, ℕ, List, Some, sym, ◌∙◌, ap}
use Rattle.cell_types.specs.Image.{Image}
use Rattle.cell_types.specs.declared.record_cell.RecordCell.{RecordCell}
use Rattle.cell_types.proofs.OneRecord.{body_is_one, body_in}
use Rattle.volume_meaning.specs.Volumes.{Holds}

pub some_is : (a b : List ℕ) → Some a ≡ Some b → a ≡ b
some_is a b e = cc

-- a cell holds one record
pub one_record_holds : (image : Image) (at : ℕ) (r s : RecordCell) → Holds image at r → Holds image at s → r ≡ s
one_record_holds image at r s h k =
    let same : h.cell ≡ k.cell = some_is h.cell k.cell (sym h.stands ∙ k.stands) in
    body_is_one r s h.is.fits k.is.fits
    (body_in r at h.cell h.is ∙ ap (λ (c : List ℕ). take 12 c) same ∙ sym (body_in s at k.cell k.is))
