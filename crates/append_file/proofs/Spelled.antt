-- What the cells of a whole part spell.
use Rattle.std.proofs.Common.{◌≡◌, ◌<◌, ◌≤◌, ◌+◌, ◌*◌, min, ℕ, List, [], ◌∷◌, ◌++◌, length, take, drop, Some, refl, sym, ap, ◌∙◌, subst, arith, inl, inr, zero, suc}
use Rattle.std.proofs.lemmas.List.{append-nil, get_or-drop, get_or-take, length-take, length-take-le, length-drop, length-append, take_all, take-append-drop, take-take, drop_all, drop-drop}
use Rattle.std.proofs.Math.ListN.{get_or-eq_default}
use Rattle.std.proofs.lemmas.Bool.{cases_lt}
use Rattle.std.specs.Prelude.{IsTrue}
use Rattle.cell_types.specs.Bytes.{AreBytes}
use Rattle.cell_types.proofs.ContentCells.{contents_one}
use Rattle.cell_types.specs.Image.{Image}
use Rattle.volume_meaning.specs.Documents.{content_at, Spells}
use Rattle.volume_meaning.specs.Slots.{cells_for}
use Rattle.worm_device.specs.Views.{ViewState, Viewed}
use Rattle.append_file.proofs.GoingOn.{content_stays}
use Rattle.std.proofs.Math.Seq.{take-append_seam}
use Rattle.append_file.specs.Pieces.{IsPiece, IsBrokenAt}
use Rattle.append_file.specs.Reading.{IsFront, HasRead, left_over}
use Rattle.append_file.specs.declared.position.Position.{Position}

some_is : (a b : List ℕ) → Some a ≡ Some b → a ≡ b
some_is a b e = cc

nil_of : (xs : List ℕ) → length xs ≡ 0 → xs ≡ []
nil_of [] e = refl
nil_of (x ∷ xs) e = absurd (omega (arith, e))

-- all bytes were given
pub whole : (v : ViewState) (start bytes : ℕ) (p : Position) (given : List ℕ) → HasRead v start bytes p given → length given ≡ bytes
    → IsTrue v.base.tells → AreBytes given × Spells v.image start given
whole v start bytes p given h all tells =
    let none : left_over p ≡ [] = nil_of (left_over p) (omega (arith, h.count, all)) in
    let front : IsFront v.image start p.read given = subst (IsFront v.image start p.read) (ap (λ (l : List ℕ). given ++ l) none ∙ append-nil given) (h.front tells) in
    (front.fits, λ k less. front.spells k (omega (arith, h.count, all, less)))

-- a part of bytes is bytes
pub part_fits : (xs : List ℕ) (at n : ℕ) → AreBytes xs → AreBytes (take n (drop at xs))
part_fits xs at n fits = record {
  each = λ i. elim (cases_lt i n) [
    | inl inside ↦ rw (get_or-take n (drop at xs) i 0 inside, get_or-drop at xs i 0) (fits.each (at + i))
    | inr outside ↦ rw (get_or-eq_default (take n (drop at xs)) 0 {n = i} (omega (arith, outside, length-take n (drop at xs)))) (omega arith)
  ];
}

piece_of : (xs : List ℕ) (k : ℕ) → AreBytes xs → IsPiece (length xs) k (take 15 (drop (15 * k) xs))
piece_of xs k fits = record { length_is = omega (arith, length-take 15 (drop (15 * k) xs), length-drop (15 * k) xs); fits = part_fits xs (15 * k) 15 fits }

-- a broken cell spells nothing
pub broken_spells : (image : Image) (start bytes k : ℕ) → IsBrokenAt image start bytes k → k < cells_for bytes
    → (stored : List ℕ) → bytes ≡ length stored → AreBytes stored → Spells image start stored → ⊥
broken_spells image start bytes k broken less stored count fits spells =
    broken (take 15 (drop (15 * k) stored)) (subst (λ (b : ℕ). IsPiece b k (take 15 (drop (15 * k) stored))) (sym count) (piece_of stored k fits)) (spells k (omega (arith, less, count)))

-- what cells spell is one row of bytes: the parts from place k on are the same
module _ (image : Image) (start : ℕ) (xs ys : List ℕ) (count : length xs ≡ length ys) (p : AreBytes xs) (q : AreBytes ys) (s : Spells image start xs) (t : Spells image start ys) where
  same_piece : (k : ℕ) → k < cells_for (length xs) → take 15 (drop (15 * k) xs) ≡ take 15 (drop (15 * k) ys)
  same_piece k less =
      let a = piece_of xs k p in
      let b = piece_of ys k q in
      contents_one _ _ (content_at xs k)
      (record { some = omega (arith, a.length_is, less); most = omega (arith, a.length_is); fits = a.fits; same = refl })
      (record { some = omega (arith, b.length_is, less, count); most = omega (arith, b.length_is); fits = b.fits; same = some_is _ _ (sym (s k less) ∙ t k (omega (arith, less, count))) })

  joined : (zs : List ℕ) (k : ℕ) → drop (15 * k) zs ≡ take 15 (drop (15 * k) zs) ++ drop (15 * (k + 1)) zs
  joined zs k = sym (take-append-drop 15 (drop (15 * k) zs)) ∙ ap (λ (l : List ℕ). take 15 (drop (15 * k) zs) ++ l) (drop_more zs (15 * k) 15 ∙ ap (λ (n : ℕ). drop n zs) (omega arith)) where
    drop_more : (ws : List ℕ) (m n : ℕ) → drop n (drop m ws) ≡ drop (m + n) ws
    drop_more ws m n = drop-drop n m ws

  -- with d cells left
  from_place : (d k : ℕ) → length xs ≤ 15 * (k + d) → drop (15 * k) xs ≡ drop (15 * k) ys
  from_place zero k few = drop_all (15 * k) xs (omega (arith, few)) ∙ sym (drop_all (15 * k) ys (omega (arith, few, count)))
  from_place (suc d) k few = elim (cases_lt (15 * k) (length xs)) [
    | inl inside ↦ joined xs k ∙ ap (λ (l : List ℕ). l ++ drop (15 * (k + 1)) xs) (same_piece k (omega (arith, inside))) ∙ ap (λ (l : List ℕ). take 15 (drop (15 * k) ys) ++ l) (from_place d (k + 1) (omega (arith, few))) ∙ sym (joined ys k)
    | inr outside ↦ drop_all (15 * k) xs (omega (arith, outside)) ∙ sym (drop_all (15 * k) ys (omega (arith, outside, count)))
  ]

  pub spelled_once : xs ≡ ys
  spelled_once = from_place (length xs) 0 (omega arith)

take_take : (m n : ℕ) (xs : List ℕ) → m ≤ n → take m (take n xs) ≡ take m xs
take_take m n xs h = take-take m n xs h

-- what was read of a part that spells these bytes is their front
module _ (v : ViewState) (start bytes : ℕ) (p : Position) (given : List ℕ) (h : HasRead v start bytes p given) (tells : IsTrue v.base.tells)
    (stored : List ℕ) (count : bytes ≡ length stored) (fits : AreBytes stored) (spells : Spells v.image start stored) where
  abbrev all : List ℕ
  all = given ++ left_over p

  all_length : length all ≡ min (15 * p.read) bytes
  all_length = length-append given (left_over p) ∙ h.count

  front : IsFront v.image start p.read all
  front = h.front tells

  -- the front of what is spelled is spelled
  abbrev part : List ℕ
  part = take (length all) stored

  part_length : length part ≡ length all
  part_length = length-take-le (length all) stored (omega (arith, all_length, count))

  part_spells : Spells v.image start part
  part_spells k less = elim (cases_lt (15 * p.read) bytes) [
    | inl short ↦
        spells k (omega (arith, less, part_length, all_length, count))
        ∙ ap Some (ap (λ (l : List ℕ). content_at l k) (sym (take-append-drop (length all) stored)) ∙ sym (content_stays part (drop (length all) stored) k (omega (arith, less, part_length, all_length, short))))
    | inr long ↦ spells k (omega (arith, less, part_length, all_length, count)) ∙ ap (λ (l : List ℕ). Some (content_at l k)) (sym (take_all (length all) stored (omega (arith, all_length, long, count))))
  ]

  part_bytes : AreBytes part
  part_bytes = part_fits stored 0 (length all) fits

  same_all : all ≡ part
  same_all = spelled_once v.image start all part (sym part_length) front.fits part_bytes (λ k less. front.spells k (omega (arith, less, all_length))) part_spells

  pub front_of : given ≡ take (length given) stored
  front_of =
      let less : length given ≤ length (given ++ left_over p) = omega (arith, length-append given (left_over p)) in
      sym (take-append_seam given (left_over p)) ∙ ap (take (length given)) same_all ∙ take_take (length given) (length all) stored less

-- what was read goes on being so
pub has_read_on : (v w : ViewState) (start bytes : ℕ) (p : Position) (given : List ℕ) → Viewed v w → HasRead v start bytes p given → HasRead w start bytes p given
has_read_on v w start bytes p given viewed h = record {
  start_is = h.start_is;
  bytes_is = h.bytes_is;
  going = h.going;
  count = h.count;
  front = λ tells. let f = h.front (subst IsTrue viewed.called.tells tells) in record { fits = f.fits; spells = λ k less. viewed.image.keeps _ _ (f.spells k less) };
}
