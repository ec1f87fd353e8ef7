-- A content cell, read back: it is the one that is made of the bytes that it counts.
use Rattle.std.proofs.Common.{◌≡◌, ◌≤◌, ◌+◌, ◌-◌, ℕ, List, [], ◌∷◌, ◌++◌, length, length-drop, take, drop, replicate, slice_index, subst, inl, inr, sym, ap, ◌∙◌, arith}
use Rattle.std.proofs.Math.ListN.{get_or-eq_default}
use Rattle.std.proofs.Math.Seq.{take-append_seam}
use Rattle.std.proofs.lemmas.List.{append-nil, get_or-drop, get_or-take, length-take, length-take-le, take_all}
use Rattle.std.proofs.lemmas.Bool.{cases_lt}
use Rattle.cell_types.specs.Bytes.{AreBytes, IsCell}
use Rattle.cell_types.specs.Contents.{ContentsAreOne, IsContentCell, content_bytes}

-- the first bytes of bytes are bytes
take_fits : (bytes : List ℕ) (n : ℕ) → AreBytes bytes → AreBytes (take n bytes)
take_fits bytes n fits = record {
  each = λ i. elim (cases_lt i n) [
    | inl inside ↦ rw (get_or-take n bytes i 0 inside) (fits.each i)
    | inr outside ↦ rw (get_or-eq_default (take n bytes) 0 {n = i} (omega (arith, length-take n bytes))) (omega arith)
  ];
}

-- what stands behind the kind of a cell is bytes
behind_fits : (cell bytes : List ℕ) → IsCell cell → bytes ≡ drop 1 cell → AreBytes bytes
behind_fits cell bytes is behind = record { each = λ i. rw (behind, get_or-drop 1 cell i 0) (is.fits.each (1 + i)) }

-- the cell is the content cell of the first n of the bytes behind its kind, and zeros stand behind these
pub content_found : (cell bytes : List ℕ) (n : ℕ) → IsCell cell → bytes ≡ take 15 (drop 1 cell) → 1 ≤ n → n ≤ 15
    → cell ≡ content_bytes (take n bytes) → IsContentCell (take n bytes) cell × (bytes ≡ take n bytes ++ replicate (15 - n) 0)
content_found cell bytes n is copied some most same =
    let all : length (drop 1 cell) ≡ 15 = omega (arith, length-drop 1 cell, is.sixteen) in
    let behind : bytes ≡ drop 1 cell = copied ∙ take_all 15 (drop 1 cell) (omega arith) in
    let count : length (take n bytes) ≡ n = length-take-le n bytes (omega (arith, ap length behind)) in
    let end = behind ∙ ap (drop 1) same in (
      record { some = omega arith; most = omega arith; fits = take_fits bytes n (behind_fits cell bytes is behind); same = same },
      rw count at end,
    )

-- a cell of fifteen bytes has no zeros to check
pub full_cell : (cell bytes : List ℕ) → IsCell cell → bytes ≡ take 15 (drop 1 cell) → slice_index cell 0 ≡ 31
    → cell ≡ content_bytes (take 15 bytes)
full_cell [] bytes is copied kind = absurd (omega (arith, is.sixteen))
full_cell (k ∷ rest) bytes is copied kind =
    let all : length rest ≡ 15 = omega (arith, is.sixteen) in
    let whole : take 15 bytes ≡ rest = ap (take 15) (copied ∙ take_all 15 rest (omega (arith, all))) ∙ take_all 15 rest (omega (arith, all)) in
    let here : (k ∷ rest) ≡ content_bytes rest =
    subst (λ (n : ℕ). (k ∷ rest) ≡ ((16 + n) ∷ rest) ++ replicate (15 - n) 0) (sym all)
    (ap (λ (x : ℕ). x ∷ rest) kind ∙ sym (append-nil (31 ∷ rest))) in
    subst (λ (l : List ℕ). (k ∷ rest) ≡ content_bytes l) (sym whole) here

tails : (a b : ℕ) (xs ys : List ℕ) → ◌≡◌ {A = List ℕ} (a ∷ xs) (b ∷ ys) → (a ≡ b) × (xs ≡ ys)
tails a b xs ys e = (cc, cc)

-- a cell holds one row of bytes: its first byte says how many, and they stand behind it
pub contents_one : ContentsAreOne
contents_one xs ys cell p q =
    let parts = tails (16 + length xs) (16 + length ys) (xs ++ replicate (15 - length xs) 0) (ys ++ replicate (15 - length ys) 0) (sym p.same ∙ q.same) in
    let count : length xs ≡ length ys = omega (arith, parts.0) in
    sym (take-append_seam xs (replicate (15 - length xs) 0)) ∙ ap (take (length xs)) parts.1 ∙ ap (λ (n : ℕ). take n (ys ++ replicate (15 - length ys) 0)) count ∙ take-append_seam ys (replicate (15 - length ys) 0)
