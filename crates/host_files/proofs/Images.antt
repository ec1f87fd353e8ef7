-- What stands in the cells of a file, before and after sixteen bytes were put.
use Rattle.std.specs.Prelude.{◌≡◌, ◌≢◌, ◌<◌, ◌≤◌, ◌+◌, ◌*◌, ◌==◌, ◌++◌, if◌then◌else◌, nat_lt, ℕ, true, List, [], ◌∷◌, length, take, drop, replicate, Some, None}
use Rattle.std.proofs.Common.{refl, ◌∙◌, ap, sym, arith, inl, inr, ⊎_elim}
use Rattle.std.proofs.lemmas.Bool.{and_parts, eqb-true, cond-false, false_from_ne_true}
use Rattle.std.proofs.lemmas.Bool.Decides.{eqb_tells}
use Rattle.std.proofs.lemmas.List.{take-append-drop}
use Rattle.std.proofs.lemmas.Option.{none-some}
use Rattle.cell_types.specs.Bytes.{IsCell}
use Rattle.cell_types.specs.Image.{Extends, ChangesOnly}
use Rattle.host_files.specs.Cells.{are_zeros, cell_in, image_of_bytes}
use Rattle.host_files.specs.File.{part_at, patched}
use Rattle.host_files.specs.Proper.{within_image}
use Rattle.worm_device.proofs.CellBytes.{put_holds, put_others}

-- bytes that are all zero are zeros
pub zeros_are : (bytes : List ℕ) → are_zeros bytes ≡ true → bytes ≡ replicate (length bytes) 0
zeros_are [] all = refl
zeros_are (byte ∷ bytes) all =
    let both = and_parts (byte == 0) (are_zeros bytes) all in
    let zero_byte : byte ≡ 0 = eqb-true byte 0 both.0 in
    let others : bytes ≡ replicate (length bytes) 0 = zeros_are bytes both.1 in
    ap (λ b. b ∷ bytes) zero_byte ∙ ap (λ bs. 0 ∷ bs) others

-- a blank cell
pub blank_in : (bytes : List ℕ) → bytes ≡ replicate 16 0 → cell_in bytes ≡ None
blank_in bytes zeros = ap cell_in zeros

-- a written cell
pub written_in : (bytes : List ℕ) → length bytes ≡ 16 → bytes ≢ replicate 16 0 → cell_in bytes ≡ Some bytes
written_in bytes sixteen written =
    cond-false (are_zeros bytes) None (Some bytes)
    (false_from_ne_true (are_zeros bytes) (λ all. written (zeros_are bytes all ∙ ap (λ n. replicate n 0) sixteen)))

-- each cell but the one that was put is as it was
pub elsewhere : (cells at cell : ℕ) (put bytes : List ℕ) → 16 * at + 16 ≤ length bytes → length put ≡ 16 → cell ≢ at
    → image_of_bytes cells (patched (16 * at) put bytes) cell ≡ image_of_bytes cells bytes cell
elsewhere cells at cell put bytes within sixteen apart =
    ap (λ piece. if nat_lt cell cells then cell_in piece else None) (put_others at (16 * at) 16 cell bytes put refl
    refl sixteen (omega arith) apart)

-- and that one is what was put
pub here : (cells at : ℕ) (put bytes : List ℕ) → at < cells → 16 * at + 16 ≤ length bytes → length put ≡ 16
    → image_of_bytes cells (patched (16 * at) put bytes) at ≡ cell_in put
here cells at put bytes inside within sixteen =
    within_image cells at (patched (16 * at) put bytes) inside
    ∙ ap cell_in (put_holds at (16 * at) 16 bytes put refl sixteen (omega arith))

-- what was written stays, where a blank cell was put
pub put_extends : (cells at : ℕ) (put bytes : List ℕ) → 16 * at + 16 ≤ length bytes → length put ≡ 16
    → image_of_bytes cells bytes at ≡ None → Extends (image_of_bytes cells bytes) (image_of_bytes cells (patched (16 * at) put bytes))
put_extends cells at put bytes within sixteen free = record {
  keeps = λ cell value stands.
      ⊎_elim
      (λ same. absurd (none-some value (sym free ∙ ap (image_of_bytes cells bytes) (sym same.1) ∙ stands)))
      (λ apart. elsewhere cells at cell put bytes within sixteen apart.1 ∙ stands)
      (eqb_tells cell at);
}

-- and only that cell changes
pub put_changes : (cells at : ℕ) (value bytes : List ℕ) → at < cells → 16 * at + 16 ≤ length bytes → IsCell value
    → image_of_bytes cells bytes at ≡ None
    → ChangesOnly at value (image_of_bytes cells bytes) (image_of_bytes cells (patched (16 * at) value bytes))
put_changes cells at value bytes inside within is free = λ cell.
    ⊎_elim
    (λ same. inr (
      same.1,
      ap (image_of_bytes cells bytes) same.1 ∙ free,
      ap (image_of_bytes cells (patched (16 * at) value bytes)) same.1 ∙ here cells at value bytes inside within is.sixteen
          ∙ written_in value is.sixteen is.written,
    ))
    (λ apart. inl (elsewhere cells at cell value bytes within is.sixteen apart.1))
    (eqb_tells cell at)

-- what is put over itself changes nothing
pub put_same : (at : ℕ) (bytes : List ℕ) → patched at (part_at at bytes) bytes ≡ bytes
put_same at bytes =
    ap (λ behind. take at bytes ++ behind) (take-append-drop 16 (drop at bytes)) ∙ take-append-drop at bytes
