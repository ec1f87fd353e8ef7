-- How a position goes on, byte by byte.
use Rattle.std.proofs.Common.{false, ◌≡◌, ◌<◌, ◌≤◌, ◌+◌, ◌-◌, ◌*◌, ◌⊎◌, ℕ, List, [], ◌∷◌, ◌++◌, length, take, drop, Some, sym, ap, ◌∙◌, inl, inr, subst, ⊎_elim, arith, slice_index, suc}
use Rattle.std.proofs.Math.ListN.{get_or, get_or-append}
use Rattle.std.proofs.Math.Seq.{drop-append_seam, drop-cons, get_or-append_right}
use Rattle.std.proofs.lemmas.List.{append_assoc, append-nil, get_or-take, length-take, length-take-le, length-drop, length-append, take_all, take-append-le, drop-append-le, drop_all}
use Rattle.std.proofs.lemmas.Bool.{cases_lt}
use Rattle.std.specs.Prelude.{IsTrue, Option, None, Result, Ok, Err, unwrap_or}
use Rattle.cell_types.specs.Bytes.{AreBytes}
use Rattle.cell_types.specs.Contents.{content_bytes}
use Rattle.cell_types.specs.declared.held_bytes.Content.{Content}
use Rattle.volume_meaning.specs.Documents.{content_at}
use Rattle.volume_meaning.specs.Slots.{cells_for}
use Rattle.worm_device.specs.Views.{ViewState, Viewed}
use Rattle.append_file.specs.Pieces.{IsBrokenAt, IsPiece, ReadPieceEnds, held_bytes}
use Rattle.append_file.specs.Reading.{ByteEnds, HasBroken, IsFront, IsPosition, HasRead, NextByteEnds, ended, left_over, one_given, first_given}
use Rattle.append_file.specs.declared.piece.ContentFault.{ContentFault}
use Rattle.append_file.specs.declared.piece.ContentFault.TheVariants.{Broken, ReadFault}
use Rattle.append_file.specs.declared.position.Position.{Position}

some_is : (a b : List ℕ) → Some a ≡ Some b → a ≡ b
some_is a b e = cc

cons_at : (xs : List ℕ) (i : ℕ) → i < length xs → drop i xs ≡ get_or xs i 0 ∷ drop (i + 1) xs
cons_at xs i less = let e : suc i ≡ i + 1 = omega arith in subst (λ (n : ℕ). drop i xs ≡ get_or xs i 0 ∷ drop n xs) e (drop-cons xs i 0 less)

-- bytes behind bytes are bytes
pub append_fits : (xs ys : List ℕ) → AreBytes xs → AreBytes ys → AreBytes (xs ++ ys)
append_fits xs ys p q = record {
  each = λ i. elim (cases_lt i (length xs)) [
    | inl inside ↦ rw (get_or-append xs ys 0 i inside) (p.each i)
    | inr outside ↦ rw (get_or-append_right xs ys i 0 (omega (arith, outside))) (q.each (i - length xs))
  ];
}

-- a whole cell's bytes are the same, whatever comes behind
pub content_stays : (xs ys : List ℕ) (k : ℕ) → 15 * k + 15 ≤ length xs → content_at xs k ≡ content_at (xs ++ ys) k
content_stays xs ys k h =
    let dropped = drop-append-le (15 * k) xs ys (omega (arith, h)) in
    let taken = take-append-le 15 (drop (15 * k) xs) ys (omega (arith, h, length-drop (15 * k) xs)) in
    ap content_bytes (sym taken ∙ ap (take 15) (sym dropped))

-- and a last cell's bytes are those that come behind whole cells
pub content_last : (xs ys : List ℕ) (k : ℕ) → length xs ≡ 15 * k → length ys ≤ 15 → content_at (xs ++ ys) k ≡ content_bytes ys
content_last xs ys k full few =
    ap content_bytes (ap (λ (n : ℕ). take 15 (drop n (xs ++ ys))) (sym full) ∙ ap (take 15) (drop-append_seam xs ys) ∙ take_all 15 ys few)

below_or_at : (k n : ℕ) → k < n + 1 → (k < n) ⊎ (k ≡ n)
below_or_at k n h = grind arith

module _ (v : ViewState) (start bytes : ℕ) (p : Position) (given : List ℕ) (h : HasRead v start bytes p given) (is : IsPosition p) where
  -- a byte that is held
  pub give_on : p.given < p.held.length → (new : Position) (byte : ℕ) → byte ≡ slice_index p.held.bytes p.given → new ≡ one_given p → HasRead v start bytes new (given ++ byte ∷ [])
  give_on less new byte byte_is new_is =
      let held = held_bytes p.held in
      let split : left_over p ≡ byte ∷ left_over (one_given p) =
      cons_at held p.given (omega (arith, less, length-take-le p.held.length p.held.bytes is.room))
      ∙ ap (λ (b : ℕ). b ∷ drop (p.given + 1) held) (get_or-take p.held.length p.held.bytes p.given 0 less ∙ sym byte_is) in
      let moved : given ++ left_over p ≡ (given ++ byte ∷ []) ++ left_over (one_given p) =
      ap (λ (l : List ℕ). given ++ l) split ∙ sym (append_assoc given (byte ∷ []) (left_over (one_given p))) in
      subst (λ (q : Position). HasRead v start bytes q (given ++ byte ∷ [])) (sym new_is) (record {
        start_is = h.start_is;
        bytes_is = h.bytes_is;
        going = h.going;
        count = omega (arith, h.count, ap length split, length-append given (byte ∷ []));
        front = λ tells. subst (IsFront v.image start p.read) moved (h.front tells);
      })

  -- the first byte of the next cell
  pub first_on : (w : ViewState) → Viewed v w → p.held.length ≤ p.given → 15 * p.read < bytes → (held : Content) → ReadPieceEnds p.start p.bytes p.read v w (Ok held)
      → (new : Position) (byte : ℕ) → byte ≡ slice_index held.bytes 0 → new ≡ first_given held p → HasRead w start bytes new (given ++ byte ∷ [])
  first_on w viewed all below held ends new byte byte_is new_is =
      let piece = held_bytes held in
      let here : IsPiece bytes p.read piece = subst (λ (b : ℕ). IsPiece b p.read piece) h.bytes_is ends.2 in
      let empty : left_over p ≡ [] = drop_all p.given (held_bytes p.held) (omega (arith, all, length-take p.held.length p.held.bytes)) in
      let full : length given ≡ 15 * p.read = omega (arith, h.count, ap length empty, below) in
      let some : 0 < held.length = omega (arith, here.length_is, below, length-take held.length held.bytes) in
      let split : piece ≡ byte ∷ drop 1 piece =
      cons_at piece 0 (omega (arith, here.length_is, below)) ∙ ap (λ (b : ℕ). b ∷ drop 1 piece) (get_or-take held.length held.bytes 0 0 some ∙ sym byte_is) in
      let moved : given ++ piece ≡ (given ++ byte ∷ []) ++ drop 1 piece = ap (λ (l : List ℕ). given ++ l) split ∙ sym (append_assoc given (byte ∷ []) (drop 1 piece)) in
      let rest : given ++ left_over p ≡ given = ap (λ (l : List ℕ). given ++ l) empty ∙ append-nil given in
      let front : IsTrue w.base.tells → IsFront w.image start (p.read + 1) (given ++ piece) = λ tells.
      let told : IsTrue v.base.tells = subst IsTrue viewed.called.tells tells in
      let before : IsFront v.image start p.read given = subst (IsFront v.image start p.read) rest (h.front told) in record {
        fits = append_fits given piece before.fits here.fits;
        spells = λ k less. ⊎_elim
            (λ (earlier : k < p.read). viewed.image.keeps (start + k) _ (before.spells k earlier) ∙ ap Some (content_stays given piece k (omega (arith, full, earlier))))
            (λ (now : k ≡ p.read). ap w.image (omega (arith, now, h.start_is)) ∙ ends.3 told ∙ ap Some (sym (content_last given piece p.read full (omega (arith, here.length_is))) ∙ ap (content_at (given ++ piece)) (sym now)))
            (below_or_at k p.read less);
      } in
      subst (λ (q : Position). HasRead w start bytes q (given ++ byte ∷ [])) (sym new_is) (record {
        start_is = h.start_is;
        bytes_is = h.bytes_is;
        going = h.going;
        count = omega (arith, full, ap length split, here.length_is, below, length-append given (byte ∷ []));
        front = λ tells. subst (IsFront w.image start (p.read + 1)) moved (front tells);
      })

module _ (v w : ViewState) (old new : Position) where
  -- a broken cell of the part that was read
  broken_of : (start bytes : ℕ) (given : List ℕ) → HasRead v start bytes old given
      → HasBroken w.image old.start old.bytes → HasBroken w.image start bytes
  broken_of start bytes given h (k, less, is) = (
    k,
    omega (arith, less, h.bytes_is),
    subst (λ (s : ℕ). IsBrokenAt w.image s bytes k) h.start_is
        (subst (λ (b : ℕ). IsBrokenAt w.image old.start b k) h.bytes_is is),
  )

  -- a cell that was not read
  pub byte_fails : old.over ≡ false → new ≡ ended old → old.read < cells_for old.bytes → (fault : ContentFault)
      → ReadPieceEnds old.start old.bytes old.read v w (Err fault) → NextByteEnds v w old new (Some (Err fault))
  byte_fails going over less Broken ends = (going, over, ends.0, λ tells. (less, ends.1 tells))
  byte_fails going over less ReadFault ends = (going, over, ends)

  -- where one more byte is asked for, there is one or a cell is broken
  pub byte_ends : (asked : Option (Result ℕ ContentFault)) → NextByteEnds v w old new asked
      → ByteEnds v w old new (unwrap_or asked (Err Broken))
  byte_ends (Some (Ok byte)) ends = (ends.1, ends.2)
  byte_ends (Some (Err Broken)) ends = (
    ends.2,
    λ start bytes given h less tells.
        let here = ends.3 tells in
        broken_of start bytes given h (old.read, here.0, here.1),
  )
  byte_ends (Some (Err ReadFault)) ends = ends.2
  byte_ends None ends =
      (ends.0, λ start bytes given h less tells. absurd (omega (arith, less, (ends.1 start bytes given h).0)))
