-- The stored bytes of a document, cell after cell.
use Rattle.std.proofs.Common.{◌≡◌, ◌<◌, ◌≤◌, ◌+◌, ◌*◌, ◌++◌, ℕ, List, length, take, drop, Some, refl, sym, ◌∙◌, subst, ap, arith}
use Rattle.std.proofs.lemmas.List.{take-append-drop, take_all, drop-take, take-take, length-take, length-drop}
use Rattle.cell_types.specs.Bytes.{AreBytes}
use Rattle.cell_types.specs.Contents.{IsContentCell}
use Rattle.cell_types.proofs.ContentCells.{contents_one}
use Rattle.cell_types.specs.Image.{Image}
use Rattle.volume_meaning.specs.Documents.{IsIdentifier, IsBody, Spells, stored_bytes, content_at}
use Rattle.volume_meaning.specs.Slots.{cells_for}
use Rattle.tamper_rules.specs.Rules.{HasDocument}
use Rattle.append_file.proofs.Spelled.{part_fits}
use Rattle.document_store.proofs.Parsing.{stored_fits}
use Rattle.list_audit.specs.Bodies.{AreStored, HoldsContent}

-- the first cells gave the front of the stored bytes of each document that is spelled there
abbrev pub AreFrontOf : Image → ℕ → ℕ → ℕ → List ℕ → Type 0
AreFrontOf image start bytes place given =
    (id body : List ℕ) → IsIdentifier id → IsBody body → bytes ≡ length (stored_bytes id body)
    → Spells image start (stored_bytes id body) → given ≡ take (15 * place) (stored_bytes id body)

-- the cell of a place of bytes is a content cell
piece_stands : (image : Image) (start k : ℕ) (xs : List ℕ) → AreBytes xs → Spells image start xs → k < cells_for (length xs)
    → HoldsContent image (start + k) (take 15 (drop (15 * k) xs))
piece_stands image start k xs fits spells less =
    let many = length-take 15 (drop (15 * k) xs) in
    let left = length-drop (15 * k) xs in
    record {
      cell = content_at xs k;
      stands = spells k less;
      is = record {
        some = omega (arith, many, left, less);
        most = omega (arith, many);
        fits = part_fits xs (15 * k) 15 fits;
        same = refl;
      };
    }

-- a cell holds one row of bytes
one_content : {image : Image} {at : ℕ} {xs ys : List ℕ} → HoldsContent image at xs → HoldsContent image at ys → xs ≡ ys
one_content {image} {at} {xs} {ys} p q =
    let both : Some p.cell ≡ Some q.cell = sym p.stands ∙ q.stands in
    let same : p.cell ≡ q.cell = cc in
    contents_one xs ys q.cell (subst (IsContentCell xs) same p.is) q.is

-- no content cell is missing
pub none_missing : {image : Image} {start bytes place : ℕ} → HasDocument image start bytes → place < cells_for bytes
    → ((xs : List ℕ) → HoldsContent image (start + place) xs → ⊥) → ⊥
none_missing {image} {start} {bytes} {place} has less none =
    none (take 15 (drop (15 * place) (stored_bytes has.id has.body)))
    (piece_stands image start place (stored_bytes has.id has.body) (stored_fits has.id has.body has.is_identifier has.is_body) has.spells
    (omega (arith, less, has.count)))

join_takes : (m n : ℕ) (xs : List ℕ) → take (m + n) xs ≡ take m xs ++ take n (drop m xs)
join_takes m n xs =
    sym (take-append-drop m (take (m + n) xs))
    ∙ ap (λ (l : List ℕ). l ++ drop m (take (m + n) xs)) (take-take m (m + n) xs (omega arith))
    ∙ ap (λ (l : List ℕ). take m xs ++ l) (drop-take m n xs)

-- one cell more
pub one_cell : (image : Image) (start bytes place : ℕ) {given after piece : List ℕ} → AreFrontOf image start bytes place given
    → place < cells_for bytes → HoldsContent image (start + place) piece → after ≡ given ++ piece
    → AreFrontOf image start bytes (place + 1) after
one_cell image start bytes place {given} {after} {piece} so_far less held is id body is_id is_body count spells =
    let here = piece_stands image start place (stored_bytes id body) (stored_fits id body is_id is_body) spells (omega (arith, less, count)) in
    let same : piece ≡ take 15 (drop (15 * place) (stored_bytes id body)) = one_content held here in
    is ∙ ap (λ (l : List ℕ). l ++ piece) (so_far id body is_id is_body count spells)
    ∙ ap (λ (l : List ℕ). take (15 * place) (stored_bytes id body) ++ l) same
    ∙ sym (join_takes (15 * place) 15 (stored_bytes id body))
    ∙ ap (λ (n : ℕ). take n (stored_bytes id body)) (omega arith)

-- all cells
pub all_cells : (image : Image) (start bytes place : ℕ) {given : List ℕ} → AreFrontOf image start bytes place given
    → cells_for bytes ≤ place → AreStored image start bytes given
all_cells image start bytes place {given} so_far past id body is_id is_body count spells =
    so_far id body is_id is_body count spells ∙ take_all (15 * place) (stored_bytes id body) (omega (arith, past, count))
