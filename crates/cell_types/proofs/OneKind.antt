-- A cell of one kind, as it is read by that kind.
use Rattle.std.proofs.Common.{◌≡◌, ℕ, List, ◌∷◌, drop, slice_index, take, sym, ◌∙◌, ap, arith}
use Rattle.std.proofs.lemmas.List.{get_or-take}
use Rattle.byteorder.specs.Endian.{big_number}
use Rattle.cell_types.specs.Bytes.{IsCell}
use Rattle.cell_types.specs.Records.{Fits, IsRecordCell, IsWellFormed, body_bytes}
use Rattle.cell_types.specs.declared.record_cell.RecordCell.{RecordCell}
use Rattle.cell_types.proofs.OneRecord.{joined}

-- the cell of a record has its kind, its address, and the rest of its body behind the kind
pub of_kind : (r : RecordCell) (kind address : ℕ) (cell bytes rest : List ℕ) → IsCell cell → bytes ≡ cell → Fits r
    → IsWellFormed r address → (slice_index cell 0 ≡ kind) × (big_number 4 (drop 12 cell) ≡ address)
    → take 12 bytes ≡ slice_index (take 12 bytes) 0 ∷ rest → body_bytes r ≡ kind ∷ rest → IsRecordCell r address cell
of_kind r kind address cell bytes rest is same fits formed has of body =
    let first : slice_index (take 12 bytes) 0 ≡ kind =
    get_or-take 12 bytes 0 0 (omega arith) ∙ ap (λ (b : List ℕ). slice_index b 0) same ∙ has.0 in
    record {
      fits = fits;
      well_formed = formed;
      same = joined r address cell is (body ∙ sym (of ∙ ap (λ (k : ℕ). k ∷ rest) first) ∙ ap (take 12) same) has.1;
    }
