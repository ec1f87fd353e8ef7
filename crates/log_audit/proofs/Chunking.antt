-- Written cells in chunks: which stands at a place, one more of them, and a chunk more.
use Rattle.std.proofs.Common.{◌≡◌, ◌<◌, ◌+◌, ◌*◌, ◌++◌, ⊎_elim, zero, suc, ℕ, List, [], ◌∷◌, length, Some, refl, sym, ◌∙◌, subst, ap, arith, length-append}
use Rattle.std.specs.Prelude.{slice_get}
use Rattle.std.specs.Global.{Vec}
use Rattle.std.proofs.lemmas.List.{append_assoc}
use Rattle.std.proofs.lemmas.Option.{slice_get_within}
use Rattle.log_audit.specs.Chunks.{rows_over, AreChunks}
use Rattle.log_audit.specs.declared.chunked.TheConstants.{CHUNK_ROWS}
use Rattle.log_audit.specs.declared.written.WrittenCell.{WrittenCell}
use Rattle.log_audit.proofs.OneMore.{get_pushed}

-- each of these chunks is full
abbrev pub AreFull : List (Vec WrittenCell) → Type 0
AreFull full = (k : ℕ) (chunk : Vec WrittenCell) → slice_get full k ≡ Some chunk → length chunk.items ≡ CHUNK_ROWS

-- what stands before the length of the first list, and from it on
pub get_left : {A : Type 0} (xs ys : List A) (k : ℕ) → k < length xs → slice_get (xs ++ ys) k ≡ slice_get xs k
get_left [] ys k less = absurd (omega (arith, less))
get_left (x ∷ xs) ys zero less = refl
get_left (x ∷ xs) ys (suc k) less = get_left xs ys k (omega (arith, less))

pub get_right : {A : Type 0} (xs ys : List A) (k : ℕ) → slice_get (xs ++ ys) (length xs + k) ≡ slice_get ys k
get_right [] ys k = ap (slice_get ys) (plain k)
  where
    plain : (n : ℕ) → 0 + n ≡ n
    plain n = omega arith
get_right (x ∷ xs) ys k = ap (slice_get (x ∷ (xs ++ ys))) (next (length xs)) ∙ get_right xs ys k
  where
    next : (n : ℕ) → suc n + k ≡ suc (n + k)
    next n = omega arith

-- how many there are
pub count_over : (full : List (Vec WrittenCell)) (last : List WrittenCell) → AreFull full
    → length (rows_over full last) ≡ length full * CHUNK_ROWS + length last
count_over [] last are = omega arith
count_over (chunk ∷ full) last are =
    let one : length chunk.items ≡ CHUNK_ROWS = are 0 chunk refl in
    let rest = count_over full last (λ k c stands. are (suc k) c stands) in
    let both = length-append chunk.items (rows_over full last) in
    omega (arith, one, rest, both)

-- what stands at a place of a full chunk
pub in_chunk : (full : List (Vec WrittenCell)) (last : List WrittenCell) → AreFull full → (k j : ℕ) (chunk : Vec WrittenCell)
    → slice_get full k ≡ Some chunk → j < CHUNK_ROWS → slice_get (rows_over full last) (k * CHUNK_ROWS + j) ≡ slice_get chunk.items j
in_chunk [] last are k j chunk stands less = absurd (omega (arith, slice_get_within [] k chunk stands))
in_chunk (first ∷ full) last are zero j chunk stands less =
    let same : first ≡ chunk = cc in
    ap (slice_get (first.items ++ rows_over full last)) (plain j)
    ∙ get_left first.items (rows_over full last) j (omega (arith, are 0 first refl, less))
    ∙ ap (λ (c : Vec WrittenCell). slice_get c.items j) same
  where
    plain : (n : ℕ) → 0 * CHUNK_ROWS + n ≡ n
    plain n = omega arith
in_chunk (first ∷ full) last are (suc k) j chunk stands less =
    let at : suc k * CHUNK_ROWS + j ≡ length first.items + (k * CHUNK_ROWS + j) = omega (arith, are 0 first refl) in
    ap (slice_get (first.items ++ rows_over full last)) at
    ∙ get_right first.items (rows_over full last) (k * CHUNK_ROWS + j)
    ∙ in_chunk full last (λ i c there. are (suc i) c there) k j chunk stands less

-- and behind them
pub in_last : (full : List (Vec WrittenCell)) (last : List WrittenCell) → AreFull full → (j : ℕ)
    → slice_get (rows_over full last) (length full * CHUNK_ROWS + j) ≡ slice_get last j
in_last [] last are j = ap (slice_get last) (plain j)
  where
    plain : (n : ℕ) → 0 * CHUNK_ROWS + n ≡ n
    plain n = omega arith
in_last (first ∷ full) last are j =
    let at : length (first ∷ full) * CHUNK_ROWS + j ≡ length first.items + (length full * CHUNK_ROWS + j) = omega (arith, are 0 first refl) in
    ap (slice_get (first.items ++ rows_over full last)) at
    ∙ get_right first.items (rows_over full last) (length full * CHUNK_ROWS + j)
    ∙ in_last full last (λ i c there. are (suc i) c there) j

-- one more behind the last
pub push_over : (full : List (Vec WrittenCell)) (last : List WrittenCell) (row : WrittenCell)
    → rows_over full (last ++ row ∷ []) ≡ rows_over full last ++ row ∷ []
push_over [] last row = refl
push_over (chunk ∷ full) last row =
    ap (λ (rest : List WrittenCell). chunk.items ++ rest) (push_over full last row)
    ∙ sym (append_assoc chunk.items (rows_over full last) (row ∷ []))

-- the last chunk is put to the full ones
pub seal_over : (full : List (Vec WrittenCell)) (chunk : Vec WrittenCell) → rows_over (full ++ chunk ∷ []) [] ≡ rows_over full chunk.items
seal_over [] chunk = nothing chunk.items
  where
    nothing : (rows : List WrittenCell) → rows ++ [] ≡ rows
    nothing [] = refl
    nothing (row ∷ rows) = ap (λ (rest : List WrittenCell). row ∷ rest) (nothing rows)
seal_over (first ∷ full) chunk = ap (λ (rest : List WrittenCell). first.items ++ rest) (seal_over full chunk)

-- and is full
pub sealed : {full : List (Vec WrittenCell)} {last : List WrittenCell} (chunk : Vec WrittenCell) → AreChunks full last → length chunk.items ≡ CHUNK_ROWS
    → AreFull (full ++ chunk ∷ [])
sealed {full} {last} chunk are whole k one stands = ⊎_elim
    (λ (old : slice_get full k ≡ Some one). are.each k one old)
    (λ (new : (k ≡ length full) × (chunk ≡ one)). subst (λ (c : Vec WrittenCell). length c.items ≡ CHUNK_ROWS) new.1 whole)
    (get_pushed full chunk k one stands)
