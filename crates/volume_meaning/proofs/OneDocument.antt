-- A slot has one document.
use Rattle.std.proofs.Common.{◌≡◌, ◌<◌, ◌≤◌, ◌+◌, ◌-◌, ◌*◌, ℕ, suc, zero, List, [], ◌∷◌, ◌++◌, length, take, drop, refl, ap, sym, arith, ◌∙◌, length-drop, drop-drop, replicate}
use Rattle.std.proofs.lemmas.List.{take-append-drop}
use Rattle.std.proofs.Math.Seq.{take-append_seam, drop-append_seam}
use Rattle.cell_types.specs.Contents.{content_bytes}
use Rattle.cell_types.specs.Image.{Image}
use Rattle.cell_types.specs.declared.record_cell.RecordCell.TheVariants.{Reserve, Commit}
use Rattle.volume_meaning.specs.Slots.{cells_for}
use Rattle.volume_meaning.specs.Documents.{Stands, stored_bytes, document_at}
use Rattle.volume_meaning.proofs.Holding.{one_record_holds, some_is}

-- an empty list
empty : (s : List ℕ) → length s ≤ 0 → s ≡ []
empty [] short = refl
empty (x ∷ s) short = absurd (omega arith)

-- lists whose rows of 15 are the same are the same
pub rows_same : (n : ℕ) (s t : List ℕ) → length s ≡ length t → length s ≤ 15 * n
    → ((k : ℕ) → k < n → take 15 (drop (15 * k) s) ≡ take 15 (drop (15 * k) t)) → s ≡ t
rows_same zero s t same short rows = empty s (omega arith) ∙ sym (empty t (omega arith))
rows_same (suc n) s t same short rows =
    let first : take 15 s ≡ take 15 t = rows 0 (omega arith) in
    let rest : drop 15 s ≡ drop 15 t = rows_same n (drop 15 s) (drop 15 t)
    (length-drop 15 s ∙ ap (λ (m : ℕ). m - 15) same ∙ sym (length-drop 15 t))
    (omega (arith, length-drop 15 s))
    (λ k below.
    let at : 15 + 15 * k ≡ 15 * (k + 1) = omega arith in
    ap (λ (l : List ℕ). take 15 l) (drop-drop (15 * k) 15 s ∙ ap (λ (m : ℕ). drop m s) at) ∙ rows (k + 1) (omega arith)
    ∙ sym (ap (λ (l : List ℕ). take 15 l) (drop-drop (15 * k) 15 t ∙ ap (λ (m : ℕ). drop m t) at))) in
    sym (take-append-drop 15 s) ∙ ap (λ (l : List ℕ). take 15 s ++ l) rest ∙ ap (λ (l : List ℕ). l ++ drop 15 t) first
    ∙ take-append-drop 15 t

heads : (a b : ℕ) (xs ys : List ℕ) → a ∷ xs ≡ b ∷ ys → (a ≡ b) × (xs ≡ ys)
heads a b xs ys e = (cc, cc)

-- what two texts begin with, and what is behind, where the first parts are as long
halves : (a b c d : List ℕ) → length a ≡ length c → a ++ b ≡ c ++ d → (a ≡ c) × (b ≡ d)
halves a b c d long e = (
  sym (take-append_seam a b) ∙ ap (take (length a)) e ∙ ap (λ (n : ℕ). take n (c ++ d)) long ∙ take-append_seam c d,
  sym (drop-append_seam a b) ∙ ap (drop (length a)) e ∙ ap (λ (n : ℕ). drop n (c ++ d)) long ∙ drop-append_seam c d,
)

-- a content cell holds one row of bytes
row_same : (s t : List ℕ) → content_bytes s ≡ content_bytes t → s ≡ t
row_same s t same =
    let parts = heads (16 + length s) (16 + length t) (s ++ replicate (15 - length s) 0)
    (t ++ replicate (15 - length t) 0) same in
    (halves s (replicate (15 - length s) 0) t (replicate (15 - length t) 0) (omega (arith, parts.0)) parts.1).0

pub reserves : (a b c d : ℕ) → Reserve a b ≡ Reserve c d → (a ≡ c) × (b ≡ d)
reserves a b c d e = (cc, cc)

pub commits : (a b c d : ℕ) → Commit a b ≡ Commit c d → (a ≡ c) × (b ≡ d)
commits a b c d e = (cc, cc)

pub one_document : (cells : ℕ) (image : Image) (n : ℕ) (a b c d : List ℕ) → Stands cells image n a b
    → Stands cells image n c d → (a ≡ c) × (b ≡ d)
one_document cells image n a b c d p q =
    let place = reserves _ _ _ _ (one_record_holds image _ _ _ p.done.commits.reserves.reserve
    q.done.commits.reserves.reserve) in
    let sizes = commits _ _ _ _ (one_record_holds image _ _ _ p.done.commits.outcome q.done.commits.outcome) in
    let at : document_at p.start p.reserved (length (stored_bytes a b)) p.journal ≡ document_at q.start q.reserved
    (length (stored_bytes c d)) q.journal = cc in
    let stored : stored_bytes a b ≡ stored_bytes c d =
    rows_same (cells_for (length (stored_bytes a b))) (stored_bytes a b) (stored_bytes c d) sizes.0 (omega arith)
    (λ k below. row_same _ _ (some_is _ _ (sym (p.spells k below) ∙ ap (λ (m : ℕ). image (m + k)) at
    ∙ q.spells k (omega (arith, below, sizes.0))))) in
    let parts = heads (length a) (length c) (a ++ b) (c ++ d) stored in
    halves a b c d parts.0 parts.1
