-- How a row of cells goes on, cell by cell, and how a position goes on behind it.
use Rattle.std.proofs.Common.{◌≡◌, ◌<◌, ◌≤◌, ◌+◌, ◌-◌, ◌*◌, ◌/◌, ◌⊎◌, min, ℕ, List, [], ◌++◌, length, take, drop, replicate, slice_index, Option, Some, None, Ok, Err, refl, sym, ap, ◌∙◌, ⊎_elim, subst, arith, inl, inr}
use Rattle.std.proofs.Math.ListN.{get_or-eq_default}
use Rattle.std.proofs.Math.Seq.{drop-append_seam, get_or-append_right, take-append-add}
use Rattle.std.proofs.lemmas.Bool.{cases_lt}
use Rattle.std.proofs.lemmas.List.{append-nil, drop-drop, drop-take, drop_all, get_or-drop, get_or-take, length-append, length-drop, length-take, length-take-le, take-append-le, take-take, take_all}
use Rattle.std.proofs.lemmas.Option.{same_Some}
use Rattle.std.proofs.lemmas.Simd.{length-chunk, put_chunk_is}
use Rattle.std.specs.Simd.Lanes.{chunk, put_chunk}
use Rattle.std.proofs.lemmas.Slice.{drop-put_mid, take-put_mid}
use Rattle.std.specs.Prelude.{IfSome, IsTrue}
use Rattle.cell_types.specs.Bytes.{AreBytes, IsCell}
use Rattle.cell_types.specs.Contents.{content_bytes}
use Rattle.cell_types.specs.Image.{Image, Extends}
use Rattle.cell_types.proofs.ContentCells.{full_cell}
use Rattle.cell_types.specs.declared.held_bytes.Content.{Content}
use Rattle.volume_meaning.specs.Documents.{content_at}
use Rattle.volume_meaning.specs.Slots.{cells_for}
use Rattle.worm_device.specs.ReadBytes.{IsReadBetween, ViewReadsBytes, cell_bytes}
use Rattle.worm_device.specs.Views.{ViewState, Viewed}
use Rattle.append_file.specs.Pieces.{HoldsPiece, IsNoPiece, held_bytes}
use Rattle.append_file.specs.Reading.{NextRowEnds, HasBroken, HasRead, IsFront, IsPosition, left_over, rest_given, row_given}
use Rattle.append_file.specs.Rows.{GivesPiece, HasNoPiece, HoldsRow, IsFull, MovesFull, PutsPiece, RowReadEnds}
use Rattle.append_file.specs.declared.piece.ContentFault.{ContentFault}
use Rattle.append_file.specs.declared.piece.ContentFault.TheVariants.{Broken, ReadFault}
use Rattle.append_file.specs.declared.position.Position.{Position}
use Rattle.append_file.proofs.GoingOn.{append_fits, content_last, content_stays}
use borrow.Rule.Slice.PartMut.{put_mid}

below_or_at : (k n : ℕ) → k < n + 1 → (k < n) ⊎ (k ≡ n)
below_or_at k n h = grind arith

none_some : (a : List ℕ) → Some a ≡ None → ⊥
none_some a e = cc

-- a content cell is not blank
content_written : (piece : List ℕ) → content_bytes piece ≡ replicate 16 0 → ⊥
content_written piece zeros =
    let first : 16 + length piece ≡ 0 = ap (λ (l : List ℕ). slice_index l 0) zeros in omega (arith, first)

-- so one that was read stands there
stands_read : (a b : Image) (cell : ℕ) (found piece : List ℕ) → IsReadBetween a b cell found
    → found ≡ content_bytes piece → b cell ≡ Some (content_bytes piece)
stands_read a b cell found piece reads is = ⊎_elim
    (λ (stands : b cell ≡ Some found). stands ∙ ap (λ (c : List ℕ). Some c) is)
    (λ blank. absurd (content_written piece (sym is ∙ blank.1)))
    reads

-- what was found broken was so before, whatever was written since
broken_before : (a b : Image) (bytes k cell : ℕ) (found : List ℕ) → Extends a b → IsReadBetween a b cell found
    → IsNoPiece bytes k (Some found) → IsNoPiece bytes k (a cell)
broken_before a b bytes k cell found grows reads none piece is stood = ⊎_elim
    (λ (stands : b cell ≡ Some found).
    none piece is (sym stands ∙ grows.keeps cell (content_bytes piece) stood))
    (λ blank. none_some (content_bytes piece) (sym stood ∙ blank.0))
    reads

-- sixteen zeros are no content cell
pub zeros_none : (bytes place : ℕ) (cell : List ℕ) → cell ≡ replicate 16 0 → IsNoPiece bytes place (Some cell)
zeros_none bytes place cell zeros piece is same = content_written piece (sym (same_Some cell (content_bytes piece) same) ∙ zeros)

-- sixteen bytes with a first one that is not zero are a written cell
written_cell : (cell : List ℕ) → length cell ≡ 16 → AreBytes cell → slice_index cell 0 ≡ 31 → IsCell cell
written_cell cell sixteen fits kind = record {
  sixteen = sixteen;
  fits = fits;
  written = λ zeros. let first : slice_index cell 0 ≡ 0 = ap (λ (l : List ℕ). slice_index l 0) zeros in
      omega (arith, first, kind);
}

-- the bytes of whole cells, and behind them those of one more in the buffer
pub buffer_more : (n more size k : ℕ) (into piece : List ℕ) → n ≤ length into → length piece ≡ size → more ≤ size
    → take (n + more) (put_mid n k into piece) ≡ take n into ++ take more piece
buffer_more n more size k into piece within all few =
    let front : length (take n into) ≡ n = length-take-le n into within in
    sym (take-take (n + more) (n + size) (put_mid n k into piece) (omega (arith, few)))
    ∙ ap (take (n + more)) (take-put_mid n k into piece (n + size) (omega (arith, all)) within)
    ∙ ap (λ (m : ℕ). take (m + more) (take n into ++ piece)) (sym front)
    ∙ take-append-add (take n into) piece more

-- a content cell behind whole ones is one of the bytes behind theirs
content_behind : (xs ys : List ℕ) (k i : ℕ) → length xs ≡ 15 * k → content_at (xs ++ ys) (k + i) ≡ content_at ys i
content_behind xs ys k i full =
    let split : drop (15 * (k + i)) (xs ++ ys) ≡ drop (15 * i) ys =
    ap (λ (n : ℕ). drop n (xs ++ ys)) (omega arith)
    ∙ sym (drop-drop (15 * i) (15 * k) (xs ++ ys))
    ∙ ap (drop (15 * i)) (ap (λ (n : ℕ). drop n (xs ++ ys)) (sym full) ∙ drop-append_seam xs ys) in
    ap (λ (l : List ℕ). content_bytes (take 15 l)) split

-- the first so many cells of a row hold what stands in the buffer
pub record RowSoFar (bytes place k n : ℕ) (into row : List ℕ) : Type 0 where
  pub most : n ≤ 15 * k
  pub count : length (take n into) ≡ n
  pub length_is : n ≡ min (15 * k) (bytes - 15 * place)
  pub fits : AreBytes (take n into)
  pub each : (j : ℕ) → j < k → cell_bytes row j ≡ content_at (take n into) j
  pub size : length into ≡ length row
  pub behind : (j : ℕ) → k ≤ j → cell_bytes into j ≡ cell_bytes row j

-- none of them hold anything
pub row_none : (bytes place : ℕ) (row : List ℕ) → RowSoFar bytes place 0 0 row row
row_none bytes place row = record {
  most = omega arith;
  count = refl;
  length_is = omega arith;
  fits = record {
    each = λ i. let zero : slice_index [] i ≡ 0 = get_or-eq_default {A = ℕ} [] 0 {n = i} (omega arith) in
        omega (arith, zero);
  };
  each = λ j less. absurd (omega (arith, less));
  size = refl;
  behind = λ j from. refl;
}

-- bytes that are put before a cell leave it as it is
pub put_before : (at part size other : ℕ) (xs ys : List ℕ) → part ≡ size → length ys ≡ size → at + size ≤ 16 * other
    → at ≤ length xs → cell_bytes (put_mid at part xs ys) other ≡ cell_bytes xs other
put_before at part size other xs ys all long before within =
    ap (take 16) (drop-put_mid at part xs ys (16 * other) (omega (arith, all, long, before)) within
    (omega (arith, all, long)))

-- a cell gives the bytes that were found in it
pub gives_held : (bytes place : ℕ) (cell room : List ℕ) (held : Content) → HoldsPiece bytes place (Some cell) held
    → length held.bytes ≡ 15 → room ≡ held.bytes → GivesPiece bytes place cell room held.length
gives_held bytes place cell room held holds fifteen copied =
    let few : held.length ≤ 15 = omega (arith, holds.count) in
    record {
      piece = held_bytes held;
      is = holds.piece;
      held = same_Some cell (content_bytes (held_bytes held)) holds.is;
      count = sym (length-take-le held.length held.bytes (omega (arith, fifteen, few)));
      given = ap (take held.length) copied;
    }

-- sixteen lanes that are stored
stored_lanes : (at : ℕ) (xs ys : List ℕ) → length ys ≡ 16 → at + 16 ≤ length xs
    → put_chunk at xs ys ≡ put_mid at 16 xs ys
stored_lanes at xs ys long within =
    put_chunk_is at xs ys (omega (arith, long, within))
    ∙ ap (λ (n : ℕ). take at xs ++ (ys ++ drop n (drop at xs))) long

-- fifteen of the lanes that were loaded behind the first byte of a cell are the bytes that it holds
loaded_bytes : (k : ℕ) (row : List ℕ) → take 15 (chunk (16 * k + 1) 16 row) ≡ drop 1 (cell_bytes row k)
loaded_bytes k row =
    take-take 15 16 (drop (16 * k + 1) row) (omega arith)
    ∙ ap (take 15) (ap (λ (n : ℕ). drop n row) (omega arith) ∙ sym (drop-drop 1 (16 * k) row))
    ∙ sym (drop-take 1 15 (drop (16 * k) row))

-- the bytes of a full cell are moved by sixteen lanes
pub moves_full : (k : ℕ) (row after : List ℕ) → 16 * k + 17 ≤ length row
    → after ≡ put_chunk (15 * k) row (chunk (16 * k + 1) 16 row) → slice_index row (16 * k) ≡ 31
    → MovesFull k row after
moves_full k row after behind moved full =
    let lanes = chunk (16 * k + 1) 16 row in
    let long : length lanes ≡ 16 = length-chunk (16 * k + 1) 16 row (omega (arith, behind)) in
    let same : after ≡ put_mid (15 * k) 16 row lanes =
    moved ∙ stored_lanes (15 * k) row lanes long (omega (arith, behind)) in
    record {
      full = get_or-take 16 (drop (16 * k) row) 0 0 (omega arith) ∙ get_or-drop (16 * k) row 0 0
          ∙ ap (slice_index row) (omega arith) ∙ full;
      put = ap (take (15 * k + 15)) same
          ∙ buffer_more (15 * k) 15 16 16 row lanes (omega (arith, behind)) long (omega arith)
          ∙ ap (λ (l : List ℕ). take (15 * k) row ++ l) (loaded_bytes k row);
      others = λ other later. ap (λ (l : List ℕ). cell_bytes l other) same
          ∙ put_before (15 * k) 16 16 other row lanes refl long (omega (arith, later)) (omega (arith, behind));
    }

-- what they put stands in the row
moved_stands : (k i : ℕ) (row after : List ℕ) → MovesFull k row after → 15 * k ≤ length row
    → slice_index (take (15 * k + 15) after) (15 * k + i) ≡ slice_index (drop 1 (cell_bytes row k)) i
moved_stands k i row after moves inside =
    let front : length (take (15 * k) row) ≡ 15 * k = length-take-le (15 * k) row inside in
    let behind : List ℕ = drop 1 (cell_bytes row k) in
    ap (λ (l : List ℕ). slice_index l (15 * k + i)) moves.put
    ∙ get_or-append_right (take (15 * k) row) behind (15 * k + i) 0 (omega (arith, front))
    ∙ ap (slice_index behind) (omega (arith, front))

-- so it is bytes
moved_fit : (k : ℕ) (row after : List ℕ) → MovesFull k row after → AreBytes after → 15 * k ≤ length row
    → AreBytes (drop 1 (cell_bytes row k))
moved_fit k row after moves fits inside =
    let behind : List ℕ = drop 1 (cell_bytes row k) in
    let short : length behind ≤ 15 = omega (arith, length-drop 1 (cell_bytes row k), length-take 16 (drop (16 * k) row)) in
    record {
      each = λ i. elim (cases_lt i 15) [
        | inl less ↦
            let stands = moved_stands k i row after moves inside in
            let same : slice_index (take (15 * k + 15) after) (15 * k + i) ≡ slice_index after (15 * k + i) =
            get_or-take (15 * k + 15) after (15 * k + i) 0 (omega (arith, less)) in
            omega (arith, stands, same, fits.each (15 * k + i))
        | inr more ↦
            let zero : slice_index behind i ≡ 0 = get_or-eq_default {A = ℕ} behind 0 {n = i} (omega (arith, more, short)) in
            omega (arith, zero)
      ];
    }

-- so they are put where those of the cells before it end
pub puts_full : (bytes place k : ℕ) (row after : List ℕ) → MovesFull k row after → AreBytes after
    → 16 * k + 16 ≤ length row → 15 * place + 15 ≤ bytes
    → PutsPiece bytes place (cell_bytes row k) (15 * k) row after 15
puts_full bytes place k row after moves fits inside long =
    let cell : List ℕ = cell_bytes row k in
    let behind : List ℕ = drop 1 cell in
    let behind_fits : AreBytes behind = moved_fit k row after moves fits (omega (arith, inside)) in
    let sixteen : length cell ≡ 16 = length-take-le 16 (drop (16 * k) row) (omega (arith, length-drop (16 * k) row, inside)) in
    let cell_fits : AreBytes cell = record {
      each = λ i. elim (cases_lt 0 i) [
        | inl some ↦
            let here : 1 + (i - 1) ≡ i = omega (arith, some) in
            let same : slice_index behind (i - 1) ≡ slice_index cell i =
            get_or-drop 1 cell (i - 1) 0 ∙ ap (slice_index cell) here in
            omega (arith, same, behind_fits.each (i - 1))
        | inr none ↦
            let zero : i ≡ 0 = omega (arith, none) in
            let first : slice_index cell i ≡ 31 = ap (slice_index cell) zero ∙ moves.full in
            omega (arith, first)
      ];
    } in
    let is : IsCell cell = written_cell cell sixteen cell_fits moves.full in
    let fifteen : length behind ≡ 15 = omega (arith, length-drop 1 cell, sixteen) in
    let all : take 15 behind ≡ behind = take_all 15 behind (omega (arith, fifteen)) in
    record {
      piece = behind;
      is = record { length_is = omega (arith, fifteen, long); fits = behind_fits };
      held = full_cell cell behind is (sym all) moves.full ∙ ap (λ (l : List ℕ). content_bytes l) all;
      count = sym fifteen;
      put = moves.put;
    }

-- a cell of a place that asks for fifteen bytes, and is not full
not_full : (bytes place : ℕ) (cell : List ℕ) → (IsFull cell → ⊥) → 15 * place + 15 ≤ bytes
    → IsNoPiece bytes place (Some cell)
not_full bytes place cell other long piece is same =
    let first : slice_index cell 0 ≡ 16 + length piece =
    ap (λ (l : List ℕ). slice_index l 0) (same_Some cell (content_bytes piece) same) in
    other (omega (arith, first, is.length_is, long))

-- what a cell gives is put behind the bytes of whole cells
puts_given : (bytes place at part n : ℕ) (cell was into room : List ℕ) → cell ≡ was
    → GivesPiece bytes place cell room n → at ≤ length into → length room ≡ 15
    → PutsPiece bytes place was at into (put_mid at part into room) n
puts_given bytes place at part n cell was into room same gives within fifteen =
    let few : n ≤ 15 = omega (arith, gives.count, gives.is.length_is) in
    record {
      piece = gives.piece;
      is = gives.is;
      held = sym same ∙ gives.held;
      count = gives.count;
      put = buffer_more at n 15 part into room within fifteen few ∙ ap (λ (l : List ℕ). take at into ++ l) gives.given;
    }

-- where it gives them
pub puts_some : (bytes place at part : ℕ) (cell was into room : List ℕ) (result : Option ℕ) → cell ≡ was
    → IfSome result (GivesPiece bytes place cell room) → at ≤ length into → length room ≡ 15
    → IfSome result (PutsPiece bytes place was at into (put_mid at part into room))
puts_some bytes place at part cell was into room None same gives within fifteen = tt
puts_some bytes place at part cell was into room (Some n) same gives within fifteen =
    puts_given bytes place at part n cell was into room same gives within fifteen

-- what holds whatever it gives
pub some_any : (P : Type 0) (result : Option ℕ) → P → IfSome result (λ (n : ℕ). P)
some_any P None holds = tt
some_any P (Some n) holds = holds

-- one cell more
pub row_more : (bytes place k n more : ℕ) (into after row : List ℕ) → RowSoFar bytes place k n into row
    → 15 * (place + k) < bytes → PutsPiece bytes (place + k) (cell_bytes into k) n into after more
    → length after ≡ length into → ((other : ℕ) → k < other → cell_bytes after other ≡ cell_bytes into other)
    → RowSoFar bytes place (k + 1) (n + more) after row
row_more bytes place k n more into after row so_far below puts size others =
    let here : cell_bytes row k ≡ content_bytes puts.piece = sym (so_far.behind k (omega arith)) ∙ puts.held in
    let piece = puts.piece in
    let few : length piece ≤ 15 = omega (arith, puts.is.length_is) in
    let full : length (take n into) ≡ 15 * k = omega (arith, so_far.count, so_far.length_is, below) in
    record {
      most = omega (arith, so_far.most, puts.count, few);
      count = ap length puts.put ∙ omega (arith, length-append (take n into) piece, so_far.count, puts.count);
      length_is = omega (arith, so_far.count, full, puts.count, puts.is.length_is, below);
      fits = subst AreBytes (sym puts.put) (append_fits (take n into) piece so_far.fits puts.is.fits);
      each = λ j less. subst (λ (l : List ℕ). cell_bytes row j ≡ content_at l j) (sym puts.put)
          (⊎_elim
          (λ (earlier : j < k). so_far.each j earlier
          ∙ content_stays (take n into) piece j (omega (arith, full, earlier)))
          (λ (now : j ≡ k). ap (cell_bytes row) now ∙ here
          ∙ sym (content_last (take n into) piece k full few)
          ∙ ap (content_at (take n into ++ piece)) (sym now))
          (below_or_at j k less));
      size = size ∙ so_far.size;
      behind = λ j from. others j (omega (arith, from)) ∙ so_far.behind j (omega (arith, from));
    }

-- a full cell more
pub row_more_full : (bytes place k : ℕ) (into after row : List ℕ) → RowSoFar bytes place k (15 * k) into row
    → 15 * (place + k) + 15 ≤ bytes → AreBytes after → 16 * k + 16 ≤ length into → MovesFull k into after
    → length after ≡ length into → RowSoFar bytes place (k + 1) (15 * (k + 1)) after row
row_more_full bytes place k into after row so_far long fits inside moves size =
    let more : RowSoFar bytes place (k + 1) (15 * k + 15) after row =
    row_more bytes place k (15 * k) 15 into after row so_far (omega (arith, long))
    (puts_full bytes (place + k) k into after moves fits inside long) size moves.others in
    subst (λ (n : ℕ). RowSoFar bytes place (k + 1) n after row) (let e : 15 * k + 15 ≡ 15 * (k + 1) = omega arith in e) more

-- a cell that is not whole was none before
pub row_none_at : (bytes place k n count : ℕ) (into row : List ℕ) → RowSoFar bytes place k n into row → k < count
    → IsNoPiece bytes (place + k) (Some (cell_bytes into k)) → HasNoPiece bytes place count row
row_none_at bytes place k n count into row so_far less none = (
  k,
  less,
  subst (λ (c : List ℕ). IsNoPiece bytes (place + k) (Some c)) (so_far.behind k (omega arith)) none,
)

-- nor was one that is not full, and behind which another comes
pub row_not_full : (bytes place k n count : ℕ) (into row : List ℕ) → RowSoFar bytes place k n into row → k < count
    → 15 * (place + k) + 15 ≤ bytes → (IsFull (cell_bytes into k) → ⊥) → HasNoPiece bytes place count row
row_not_full bytes place k n count into row so_far less long other =
    row_none_at bytes place k n count into row so_far less (not_full bytes (place + k) (cell_bytes into k) other long)

-- all of them
pub row_whole : (bytes place k n count : ℕ) (into row : List ℕ) → RowSoFar bytes place k n into row → k ≡ count
    → HoldsRow bytes place count row (take n into)
row_whole bytes place k n count into row so_far all = record {
  length_is = omega (arith, so_far.count, so_far.length_is, all);
  fits = so_far.fits;
  each = λ j less. so_far.each j (omega (arith, less, all));
}

-- the full ones, and the last one behind them
pub row_ended : (bytes place k last count more : ℕ) (into after row : List ℕ)
    → RowSoFar bytes place k (15 * k) into row → k ≡ last → last + 1 ≡ count → 15 * (place + last) < bytes
    → PutsPiece bytes (place + last) (cell_bytes into last) (15 * last) into after more → length after ≡ length into
    → ((other : ℕ) → last < other → cell_bytes after other ≡ cell_bytes into other)
    → HoldsRow bytes place count row (take (15 * last + more) after)
row_ended bytes place k last count more into after row so_far here all below puts size others =
    let full : RowSoFar bytes place last (15 * last) into row =
    subst (λ (n : ℕ). RowSoFar bytes place n (15 * n) into row) here so_far in
    row_whole bytes place (last + 1) (15 * last + more) count after row
    (row_more bytes place last (15 * last) more into after row full below puts size others) all

-- A row that was read through a view.
module _ (start bytes place count : ℕ) (old new : ViewState) {room row : List ℕ}
    (reads : ViewReadsBytes (start + place) room row old new (Ok tt)) (size : length room ≡ 16 * count)
    (inside : place + count ≤ cells_for bytes) where
  all_of : length row / 16 ≡ count
  all_of = omega (arith, reads.size, size)

  read_at : IsTrue old.base.tells → (k : ℕ) → k < count
      → IsReadBetween old.image new.image (start + place + k) (cell_bytes row k)
  read_at tells k less = reads.answer tells k (omega (arith, all_of, less))

  -- its cells hold what was read of them
  pub row_held : (n : ℕ) (moved rest : List ℕ) → length (take n moved) ≡ n → n ≤ length moved
      → HoldsRow bytes place (length row / 16) row (take n moved)
      → RowReadEnds start bytes place count old new (moved ++ rest) (Ok n)
  row_held n moved rest long within holds =
      subst (λ (l : List ℕ). (new.base.faults ≡ old.base.faults) × (length l ≡ n)
      × (n ≡ min (15 * count) (bytes - 15 * place))
      × (IsTrue old.base.tells → IsFront new.image (start + place) count l))
      (sym (take-append-le n moved rest within)) (
        reads.cause,
        long,
        omega (arith, long, holds.length_is, all_of),
        λ tells. record {
          fits = holds.fits;
          spells = λ k less. stands_read old.image new.image (start + place + k) (cell_bytes row k)
              (take 15 (drop (15 * k) (take n moved))) (read_at tells k less)
              (holds.each k (omega (arith, less, all_of)));
        },
      )

  -- or one of them was broken before
  pub row_broken : (into : List ℕ) → HasNoPiece bytes place (length row / 16) row
      → RowReadEnds start bytes place count old new into (Err Broken)
  row_broken into (k, less, none) = (
    reads.cause,
    λ tells. (
      place + k,
      omega (arith, less, all_of, inside),
      subst (λ (cell : ℕ). IsNoPiece bytes (place + k) (old.image cell))
          (let here : start + place + k ≡ start + (place + k) = omega arith in here)
          (broken_before old.image new.image bytes (place + k) (start + place + k) (cell_bytes row k)
          reads.viewed.image (read_at tells k (omega (arith, less, all_of))) none),
    ),
  )

-- what a row of whole cells holds comes behind what was given
row_on : (v w : ViewState) (start bytes : ℕ) (p : Position) (given : List ℕ) → HasRead v start bytes p given
    → Viewed v w → p.held.length ≤ p.given → 15 * p.read < bytes → (count : ℕ) (row : List ℕ)
    → length row ≡ min (15 * count) (bytes - 15 * p.read)
    → (IsTrue v.base.tells → IsFront w.image (start + p.read) count row)
    → HasRead w start bytes (row_given count p) (given ++ row)
row_on v w start bytes p given h viewed all below count row long holds =
    let empty : left_over p ≡ [] =
    drop_all p.given (held_bytes p.held) (omega (arith, all, length-take p.held.length p.held.bytes)) in
    let full : length given ≡ 15 * p.read = omega (arith, h.count, ap length empty, below) in
    let rest : given ++ left_over p ≡ given = ap (λ (l : List ℕ). given ++ l) empty ∙ append-nil given in
    let behind : (given ++ row) ++ left_over p ≡ given ++ row =
    ap (λ (l : List ℕ). (given ++ row) ++ l) empty ∙ append-nil (given ++ row) in
    let front : IsTrue w.base.tells → IsFront w.image start (p.read + count) (given ++ row) = λ tells.
    let told : IsTrue v.base.tells = subst IsTrue viewed.called.tells tells in
    let before : IsFront v.image start p.read given = subst (IsFront v.image start p.read) rest (h.front told) in
    let more : IsFront w.image (start + p.read) count row = holds told in
    record {
      fits = append_fits given row before.fits more.fits;
      spells = λ k less. ⊎_elim
          (λ (earlier : k < p.read). viewed.image.keeps (start + k) _ (before.spells k earlier)
          ∙ ap Some (content_stays given row k (omega (arith, full, earlier))))
          (λ (later : p.read ≤ k).
          let same : p.read + (k - p.read) ≡ k = omega (arith, later) in
          let cell : start + k ≡ start + p.read + (k - p.read) = omega (arith, later) in
          ap w.image cell ∙ more.spells (k - p.read) (omega (arith, less, later))
          ∙ ap Some (sym (content_behind given row p.read (k - p.read) full) ∙ ap (content_at (given ++ row)) same))
          (cases_lt k p.read);
    } in
    record {
      start_is = h.start_is;
      bytes_is = h.bytes_is;
      going = h.going;
      count = omega (arith, full, ap length empty, long, below, length-append given row);
      front = λ tells. subst (IsFront w.image start (p.read + count)) (sym behind) (front tells);
    }

-- what is held and was not given yet comes behind what was
pub rest_ends : (v w : ViewState) (old new : Position) (into : List ℕ) (n : ℕ) → v ≡ w → IsPosition old
    → old.given < old.held.length → n + old.given ≡ old.held.length → take n into ≡ left_over old
    → new ≡ rest_given old → NextRowEnds v w old new into (Ok n)
rest_ends v w old new into n same is less count rest new_is = (
  ap (λ (s : ViewState). s.base.faults) (sym same),
  omega (arith, less, count),
  long,
  λ start bytes given h.
      let none : left_over (rest_given old) ≡ [] =
      drop_all old.held.length (held_bytes old.held) (omega (arith, length-take old.held.length old.held.bytes)) in
      let moved : given ++ left_over old ≡ (given ++ take n into) ++ left_over (rest_given old) =
      ap (λ (l : List ℕ). given ++ l) (sym rest)
      ∙ sym (append-nil (given ++ take n into))
      ∙ ap (λ (l : List ℕ). (given ++ take n into) ++ l) (sym none) in
      subst (λ (s : ViewState). HasRead s start bytes new (given ++ take n into)) same
      (subst (λ (q : Position). HasRead v start bytes q (given ++ take n into)) (sym new_is) (record {
        start_is = h.start_is;
        bytes_is = h.bytes_is;
        going = h.going;
        count = omega (arith, h.count, ap length none, ap length rest, length-append given (take n into));
        front = λ tells. subst (IsFront v.image start old.read) moved (h.front tells);
      })),
)
  where
    long : length (take n into) ≡ n
    long = ap length rest
        ∙ omega (
          arith,
          count,
          is.room,
          length-drop old.given (held_bytes old.held),
          length-take old.held.length old.held.bytes,
        )

-- and for whoever asks for all its bytes
pub row_ends : (v w : ViewState) (old new : Position) (into : List ℕ) (count n : ℕ) → Viewed v w
    → old.held.length ≤ old.given → 1 ≤ count → old.read + count ≤ cells_for old.bytes → new ≡ row_given count old
    → RowReadEnds old.start old.bytes old.read count v w into (Ok n) → NextRowEnds v w old new into (Ok n)
row_ends v w old new into count n viewed all some within new_is ends = (
  ends.0,
  omega (arith, ends.2, some, within),
  ends.1,
  λ start bytes given h.
      let long : n ≡ min (15 * count) (bytes - 15 * old.read) = omega (arith, ends.2, h.bytes_is) in
      let front : IsTrue v.base.tells → IsFront w.image (start + old.read) count (take n into) =
      subst (λ (s : ℕ). IsTrue v.base.tells → IsFront w.image (s + old.read) count (take n into)) h.start_is ends.3 in
      subst (λ (q : Position). HasRead w start bytes q (given ++ take n into)) (sym new_is)
      (row_on v w start bytes old given h viewed all (omega (arith, h.bytes_is, some, within)) count (take n into)
      (ends.1 ∙ long) front),
)

pub row_end_fails : (v w : ViewState) (old new : Position) (into : List ℕ) (count : ℕ) (fault : ContentFault)
    → RowReadEnds old.start old.bytes old.read count v w into (Err fault) → NextRowEnds v w old new into (Err fault)
row_end_fails v w old new into count Broken ends = (
  ends.0,
  λ start bytes given h some tells.
      subst (λ (s : ℕ). HasBroken v.image s bytes) h.start_is
      (subst (λ (b : ℕ). HasBroken v.image old.start b) h.bytes_is (ends.1 tells)),
)
row_end_fails v w old new into count ReadFault ends = ends
