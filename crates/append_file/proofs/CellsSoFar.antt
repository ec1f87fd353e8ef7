-- The content cells of stored bytes, made one after another.
use Rattle.std.proofs.Common.{refl, append-nil, append_assoc, ◌≡◌, ◌≤◌, ◌<◌, ◌+◌, ◌-◌, ◌*◌, ◌/◌, ◌⊎◌, min, ℕ, List, [], ◌∷◌, ◌++◌, length, take, drop, Some, sym, ap, ◌∙◌, ⊎_elim, arith, length-append, length-drop}
use Rattle.std.specs.Prelude.{slice_get}
use Rattle.std.proofs.lemmas.Grind.{common_steps}
use Rattle.std.proofs.lemmas.Option.{gets}
use Rattle.std.proofs.lemmas.List.{drop-drop}
use Rattle.cell_types.specs.Contents.{content_bytes}
use Rattle.volume_meaning.specs.Documents.{content_at}
use Rattle.volume_meaning.specs.Slots.{cells_for}
use Rattle.append_file.specs.StoredCells.{AddsCellsOf, AreCellsOf}

-- the cells are the first ones of these stored bytes, and rest is what they leave
pub record CellsSoFar (stored : List ℕ) (cells : List (List ℕ)) (rest : List ℕ) : Type 0 where
  pub left : rest ≡ drop (15 * length cells) stored
  pub each : (k : ℕ) → k < length cells → slice_get cells k ≡ Some (content_at stored k)
  pub within : (k : ℕ) → k < length cells → 15 * k < length stored

-- the front of at most so many bytes
pub take_min : (n : ℕ) (l : List ℕ) → take (min n (length l)) l ≡ take n l
take_min n l = grind (arith, common_steps)

-- and what is left behind it
pub drop_min : (n : ℕ) (l : List ℕ) → drop (min n (length l)) l ≡ drop n l
drop_min n l = grind (arith, common_steps)

-- an element of a list with one more at its end
pub get_before : (xs : List (List ℕ)) (x : List ℕ) (k : ℕ) → k < length xs → slice_get (xs ++ x ∷ []) k ≡ slice_get xs k
get_before xs x k h = grind (arith, common_steps, gets)

pub get_last : (xs : List (List ℕ)) (x : List ℕ) (k : ℕ) → k ≡ length xs → slice_get (xs ++ x ∷ []) k ≡ Some x
get_last xs x k h = grind (arith, common_steps, gets)

below_or_at : (k n : ℕ) → k < n + 1 → (k < n) ⊎ (k ≡ n)
below_or_at k n h = grind arith

length_pushed : (xs : List (List ℕ)) (x : List ℕ) → length (xs ++ x ∷ []) ≡ length xs + 1
length_pushed xs x = length-append xs (x ∷ [])

-- one cell more, of the next 15 bytes or of all that are left
pub cells_more : (stored rest : List ℕ) (cells : List (List ℕ)) (cell : List ℕ) → CellsSoFar stored cells rest → 0 < length rest
    → cell ≡ content_bytes (take 15 rest) → CellsSoFar stored (cells ++ cell ∷ []) (drop 15 rest)
cells_more stored rest cells cell so_far some is =
    let n = length cells in
    let cell_is : cell ≡ content_at stored n = is ∙ ap (λ (l : List ℕ). content_bytes (take 15 l)) so_far.left in
    let room : 15 * n < length stored = omega (arith, some, ap length so_far.left, length-drop (15 * n) stored) in
    record {
      left = ap (drop 15) so_far.left ∙ drop-drop 15 (15 * n) stored ∙ ap (λ (m : ℕ). drop m stored) (omega (arith, length_pushed cells cell));
      each = λ k below. ⊎_elim
          (λ (earlier : k < n). get_before cells cell k earlier ∙ so_far.each k earlier)
          (λ (here : k ≡ n). get_last cells cell k here ∙ ap Some cell_is ∙ ap (λ (m : ℕ). Some (content_at stored m)) (sym here))
          (below_or_at k n (omega (arith, below, length_pushed cells cell)));
      within = λ k below. ⊎_elim
          (λ (earlier : k < n). so_far.within k earlier)
          (λ (here : k ≡ n). omega (arith, here, room))
          (below_or_at k n (omega (arith, below, length_pushed cells cell)));
    }

-- when nothing is left there are so many cells as the bytes take
count_all : (len n : ℕ) → len ≤ 15 * n → ((k : ℕ) → k < n → 15 * k < len) → n ≡ (len + 14) / 15
count_all len n enough within = grind (arith, within (n - 1))

pub cells_all : (stored rest : List ℕ) (cells : List (List ℕ)) → CellsSoFar stored cells rest → length rest ≡ 0 → AreCellsOf stored cells
cells_all stored rest cells so_far none =
    let enough : length stored ≤ 15 * length cells = omega (arith, none, ap length so_far.left, length-drop (15 * length cells) stored) in
    let count : length cells ≡ cells_for (length stored) = count_all (length stored) (length cells) enough so_far.within in
    record { count = count; each = λ k below. so_far.each k (omega (arith, below, count)) }

-- none yet
pub cells_none : (bytes : List ℕ) → CellsSoFar bytes [] bytes
cells_none bytes = record { left = refl; each = λ k below. absurd (omega (arith, below)); within = λ k below. absurd (omega (arith, below)) }

-- so many were added to those that there were
pub record AddedSoFar (bytes : List ℕ) (old new : List (List ℕ)) (rest : List ℕ) : Type 0 where
  pub added : List (List ℕ)
  pub so_far : CellsSoFar bytes added rest
  pub whole : new ≡ old ++ added

pub added_none : (bytes : List ℕ) (old : List (List ℕ)) → AddedSoFar bytes old old bytes
added_none bytes old = record { added = []; so_far = cells_none bytes; whole = sym (append-nil old) }

pub added_more : (bytes rest : List ℕ) (old new : List (List ℕ)) (cell : List ℕ) → AddedSoFar bytes old new rest → 0 < length rest
    → cell ≡ content_bytes (take 15 rest) → AddedSoFar bytes old (new ++ cell ∷ []) (drop 15 rest)
added_more bytes rest old new cell a some is = record {
  added = a.added ++ cell ∷ [];
  so_far = cells_more bytes rest a.added cell a.so_far some is;
  whole = ap (λ (l : List (List ℕ)). l ++ cell ∷ []) a.whole ∙ append_assoc old a.added (cell ∷ []);
}

pub added_all : (bytes rest : List ℕ) (old new : List (List ℕ)) → AddedSoFar bytes old new rest → length rest ≡ 0 → AddsCellsOf bytes old new
added_all bytes rest old new a none = record { added = a.added; cells = cells_all bytes rest a.added a.so_far none; whole = a.whole }
