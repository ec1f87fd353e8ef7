-- The content cells of bytes that are handed over in two pieces, of which the first fills whole cells.
use Rattle.std.proofs.Common.{◌≡◌, ◌≤◌, ◌<◌, ◌+◌, ◌-◌, ◌*◌, ◌/◌, ◌%◌, ◌⊎◌, min, ℕ, List, [], ◌∷◌, ◌++◌, length, take, drop, Some, refl, sym, ap, subst, ◌∙◌, ⊎_elim, inl, inr, arith, append-nil, append_assoc, length-append, length-drop}
use Rattle.std.specs.Prelude.{slice_get}
use Rattle.std.proofs.Math.ListN.{drop_of_length-le}
use Rattle.std.proofs.Math.Seq.{drop-append-add}
use Rattle.std.proofs.lemmas.Grind.{common_steps}
use Rattle.std.proofs.lemmas.List.{drop-append-le, take-append-le, take-append-drop, length-take-le}
use Rattle.std.proofs.lemmas.Option.{gets}
use Rattle.cell_types.specs.Contents.{content_bytes}
use Rattle.volume_meaning.specs.Documents.{content_at, stored_bytes}
use Rattle.volume_meaning.specs.Slots.{cells_for}
use Rattle.append_file.specs.StoredCells.{AddsCellsOf, AreCellsOf}

get_first : (xs ys : List (List ℕ)) (k : ℕ) → k < length xs → slice_get (xs ++ ys) k ≡ slice_get xs k
get_first xs ys k h = grind (arith, common_steps, gets)

get_second : (xs ys : List (List ℕ)) (k : ℕ) → slice_get (xs ++ ys) (length xs + k) ≡ slice_get ys k
get_second xs ys k = grind (arith, common_steps, gets)

below_or_from : (k n : ℕ) → (k < n) ⊎ (n ≤ k)
below_or_from k n = grind arith

whole_cells : (q : ℕ) → cells_for (15 * q) ≡ q
whole_cells q = omega arith

more_cells : (q b : ℕ) → cells_for (15 * q + b) ≡ q + cells_for b
more_cells q b = omega arith

module _ (a b : List ℕ) (xs ys : List (List ℕ)) (q : ℕ) (full : length a ≡ 15 * q) (first : AreCellsOf a xs)
    (second : AreCellsOf b ys) where
  so_many : length xs ≡ q
  so_many = first.count ∙ ap cells_for full ∙ whole_cells q

  content_first : (k : ℕ) → k < q → content_at (a ++ b) k ≡ content_at a k
  content_first k below =
      let inside : 15 * k ≤ length a = omega (arith, full, below) in
      let room : 15 ≤ length (drop (15 * k) a) = omega (arith, length-drop (15 * k) a, full, below) in
      ap (λ (l : List ℕ). content_bytes (take 15 l)) (drop-append-le (15 * k) a b inside)
      ∙ ap content_bytes (take-append-le 15 (drop (15 * k) a) b room)

  content_second : (k j : ℕ) → k ≡ q + j → content_at (a ++ b) k ≡ content_at b j
  content_second k j is =
      let at : 15 * k ≡ length a + 15 * j = omega (arith, is, full) in
      ap (λ (n : ℕ). content_bytes (take 15 (drop n (a ++ b)))) at
      ∙ ap (λ (l : List ℕ). content_bytes (take 15 l)) (drop-append-add a b (15 * j))

  pub joined : AreCellsOf (a ++ b) (xs ++ ys)
  joined =
      let sum : cells_for (length (a ++ b)) ≡ q + cells_for (length b) =
      ap cells_for (length-append a b ∙ ap (λ (n : ℕ). n + length b) full) ∙ more_cells q (length b) in
      record {
        count = length-append xs ys ∙ omega (arith, so_many, second.count) ∙ sym sum;
        each = λ k below. ⊎_elim
            (λ (early : k < q).
            get_first xs ys k (omega (arith, early, so_many))
            ∙ first.each k (omega (arith, early, so_many, first.count))
            ∙ ap Some (sym (content_first k early)))
            (λ (late : q ≤ k).
            let is : k ≡ q + (k - q) = omega (arith, late) in
            ap (slice_get (xs ++ ys)) (omega (arith, late, so_many))
            ∙ get_second xs ys (k - q)
            ∙ second.each (k - q) (omega (arith, late, below, sum))
            ∙ ap Some (sym (content_second k (k - q) is)))
            (below_or_from k q);
      }

no_cells : (ys : List (List ℕ)) → length ys ≡ 0 → ys ≡ []
no_cells [] e = refl
no_cells (y ∷ ys) e = absurd (omega (arith, e))

-- the second piece is empty
pub first_alone : (a : List ℕ) (xs ys : List (List ℕ)) → AreCellsOf a xs → AreCellsOf [] ys → AreCellsOf a (xs ++ ys)
first_alone a xs ys first second =
    let none : ys ≡ [] = no_cells ys second.count in
    subst (AreCellsOf a) (sym (ap (λ (l : List (List ℕ)). xs ++ l) none ∙ append-nil xs)) first

-- a document, of whose stored bytes the head ends with the first n of the body: there a cell ends, or all bytes do
pub stored_whole : (id body : List ℕ) (n q : ℕ) (old mid new : List (List ℕ)) → old ≡ [] → n ≤ length body
    → (1 + length id + n ≡ 15 * q) ⊎ (drop n body ≡ [])
    → AddsCellsOf (length id ∷ (id ++ take n body)) old mid → AddsCellsOf (drop n body) mid new
    → AreCellsOf (stored_bytes id body) new
stored_whole id body n q old mid new none fits ends first second =
    let head : List ℕ = length id ∷ (id ++ take n body) in
    let bytes : head ++ drop n body ≡ stored_bytes id body =
    ap (λ (l : List ℕ). length id ∷ l) (append_assoc id (take n body) (drop n body)
    ∙ ap (λ (l : List ℕ). id ++ l) (take-append-drop n body)) in
    let cells : new ≡ first.added ++ second.added =
    second.whole ∙ ap (λ (l : List (List ℕ)). l ++ second.added)
    (first.whole ∙ ap (λ (l : List (List ℕ)). l ++ first.added) none) in
    let count : length head ≡ 1 + length id + n =
    omega (arith, length-append id (take n body), length-take-le n body fits) in
    subst (AreCellsOf (stored_bytes id body)) (sym cells) (⊎_elim
    (λ (full : 1 + length id + n ≡ 15 * q).
    subst (λ (l : List ℕ). AreCellsOf l (first.added ++ second.added)) bytes
    (joined head (drop n body) first.added second.added q (count ∙ full) first.cells second.cells))
    (λ (rest : drop n body ≡ []).
    subst (λ (l : List ℕ). AreCellsOf l (first.added ++ second.added))
    (sym (ap (λ (l : List ℕ). head ++ l) rest ∙ append-nil head) ∙ bytes)
    (first_alone head first.added second.added first.cells
    (subst (λ (l : List ℕ). AreCellsOf l second.added) rest second.cells)))
    ends)

-- how many stored bytes there are
pub stored_length : (id body : List ℕ) → length (stored_bytes id body) ≡ 1 + length id + length body
stored_length id body = omega (arith, length-append id body)

ends_at : (i b m q n : ℕ) → m ≡ 15 * q → 1 + i ≤ m → n ≡ min m (1 + i + b) - 1 - i → (1 + i + n ≡ 15 * q) ⊎ (b ≤ n)
ends_at i b m q n is low at = grind (arith)

-- the head ends where a cell does, or all bytes do
pub whole_or_all : (id body : List ℕ) (m n : ℕ) → m % 15 ≡ 0 → 1 + length id ≤ m
    → n ≡ min m (1 + length id + length body) - 1 - length id
    → (1 + length id + n ≡ 15 * (m / 15)) ⊎ (drop n body ≡ [])
whole_or_all id body m n multiple low at = ⊎_elim inl
    (λ (all : length body ≤ n). inr (drop_of_length-le body all))
    (ends_at (length id) (length body) m (m / 15) n (omega (arith, multiple)) low at)
