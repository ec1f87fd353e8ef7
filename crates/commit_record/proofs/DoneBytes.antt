-- The bytes of a slot's four cells that say that the slot is done, cell by cell.
use Rattle.std.proofs.Common.{◌≡◌, ◌<◌, ◌≤◌, ◌+◌, ◌∙◌, ℕ, List, [], ◌∷◌, ◌++◌, ap, arith, drop, length, refl, replicate, sym, take}
use Rattle.std.specs.Prelude.{slice_index}
use Rattle.std.proofs.Math.Seq.{take-add}
use Rattle.std.proofs.lemmas.List.{drop-drop, drop-take, get_or-drop, get_or-take, length-drop, take-take}
use Rattle.byteorder.specs.Endian.{big_bytes}
use Rattle.cell_types.specs.Layout.{IsLayout, Layout, done_at, outcome_at, reserve_at, spare_at}
use Rattle.commit_record.specs.SlotBytes.{IsDoneByBytes, IsFramedAsDone, NamesCells, NamesDocument, NamesStamp}

one_first : (l : List ℕ) (a : ℕ) → 1 ≤ length l → slice_index l 0 ≡ a → take 1 l ≡ a ∷ []
one_first [] a some is = absurd (omega (arith, some))
one_first (x ∷ l) a some is = ap (λ (y : ℕ). y ∷ []) is

module _ (b : List ℕ) where
  -- eight bytes are four and four
  eight : (at : ℕ) (m n : List ℕ) → take 4 (drop at b) ≡ m → take 4 (drop (at + 4) b) ≡ n
      → take 8 (drop at b) ≡ m ++ n
  eight at m n first second =
      take-add 4 4 (drop at b) ∙ ap (λ (x : List ℕ). x ++ take 4 (drop 4 (drop at b))) first
      ∙ ap (λ (x : List ℕ). m ++ x) (ap (take 4) (drop-drop 4 at b) ∙ second)

  -- sixteen are one, eight and seven
  sixteen : (at kind : ℕ) (front end : List ℕ) → at + 16 ≤ length b → slice_index b at ≡ kind
      → take 8 (drop (at + 1) b) ≡ front → take 7 (drop (at + 9) b) ≡ end
      → take 16 (drop at b) ≡ kind ∷ (front ++ end)
  sixteen at kind front end inside is is_front is_end =
      let same : at + 1 + 8 ≡ at + 9 = omega arith in
      let here : slice_index (drop at b) 0 ≡ kind =
      get_or-drop at b 0 0 ∙ ap (λ (k : ℕ). slice_index b k) (omega arith) ∙ is in
      let some : 1 ≤ length (drop at b) = omega (arith, length-drop at b, inside) in
      take-add 1 15 (drop at b)
      ∙ ap (λ (x : List ℕ). x ++ take 15 (drop 1 (drop at b))) (one_first (drop at b) kind some here)
      ∙ ap (λ (x : List ℕ). kind ∷ take 15 x) (drop-drop 1 at b)
      ∙ ap (λ (x : List ℕ). kind ∷ x) (take-add 8 7 (drop (at + 1) b)
      ∙ ap (λ (x : List ℕ). x ++ take 7 (drop 8 (drop (at + 1) b))) is_front
      ∙ ap (λ (x : List ℕ). front ++ x)
      (ap (take 7) (drop-drop 8 (at + 1) b ∙ ap (λ (k : ℕ). drop k b) same) ∙ is_end))

  -- behind the last seven bytes of a cell stands the kind of the next
  module _ (at kind : ℕ) (end : List ℕ) (seven : length end ≡ 7) (is : take 8 (drop at b) ≡ end ++ (kind ∷ [])) where
    ends : take 7 (end ++ (kind ∷ [])) ≡ end → take 7 (drop at b) ≡ end
    ends whole = sym (take-take 7 8 (drop at b) (omega arith)) ∙ ap (take 7) is ∙ whole

    next_kind : slice_index (end ++ (kind ∷ [])) 7 ≡ kind → slice_index b (at + 7) ≡ kind
    next_kind last =
        sym (get_or-take 8 (drop at b) 7 0 (omega arith) ∙ get_or-drop at b 7 0)
        ∙ ap (λ (x : List ℕ). slice_index x 7) is ∙ last

pub done_by_bytes : (g : Layout) (n : ℕ) (b : List ℕ) (count seconds : ℕ) → IsLayout g → n < g.slots → 64 ≤ length b
    → IsFramedAsDone n b → NamesCells g b count → NamesDocument b count → NamesStamp b seconds
    → IsDoneByBytes g n b seconds
done_by_bytes g n b count seconds layout less four frame cells document stamp =
    record {
      start = cells.start;
      length = count;
      size = document.size;
      journal = document.journal;
      reserve = record {
        fits = (cells.first.small, cells.count.small);
        well_formed = some;
        same = sixteen b 0 2 (big_bytes 4 cells.start ++ big_bytes 4 count)
            (replicate 3 0 ++ big_bytes 4 (reserve_at n)) (omega (arith, four)) frame.kind (eight b 1 _ _ cells.first.is cells.count.is)
            (ends b 9 3 (replicate 3 0 ++ big_bytes 4 (reserve_at n)) refl frame.reserve refl);
      };
      outcome = record {
        fits = (document.first.small, document.count.small);
        well_formed = (document.fits.0, document.fits.1, document.fits.2);
        same = sixteen b 16 3 (big_bytes 4 document.size ++ big_bytes 4 document.journal)
            (replicate 3 0 ++ big_bytes 4 (outcome_at n)) (omega (arith, four))
            (next_kind b 9 3 (replicate 3 0 ++ big_bytes 4 (reserve_at n)) refl frame.reserve refl)
            (eight b 17 _ _ document.first.is document.count.is)
            (ends b 25 5 (replicate 3 0 ++ big_bytes 4 (outcome_at n)) refl frame.outcome refl);
      };
      done = record {
        fits = omega (arith, less, layout.slots);
        well_formed = omega (arith, less, layout.slots);
        same = sixteen b 32 5 (big_bytes 4 n ++ replicate 4 0) (replicate 3 0 ++ big_bytes 4 (done_at n))
            (omega (arith, four))
            (next_kind b 25 5 (replicate 3 0 ++ big_bytes 4 (outcome_at n)) refl frame.outcome refl) frame.slot (ends b 41 10 (replicate 3 0 ++ big_bytes 4 (done_at n)) refl frame.done refl);
      };
      stamp = record {
        fits = stamp.first.small;
        well_formed = tt;
        same = sixteen b 48 10 (big_bytes 4 seconds ++ big_bytes 4 0) (replicate 3 0 ++ big_bytes 4 (spare_at n))
            (omega (arith, four)) (next_kind b 41 10 (replicate 3 0 ++ big_bytes 4 (done_at n)) refl frame.done refl)
            (eight b 49 _ _ stamp.first.is stamp.zeros.is)
            (sym (drop-take 1 7 (drop 56 b) ∙ ap (take 7) (drop-drop 1 56 b)) ∙ ap (drop 1) frame.spare);
      };
      pool = (some, cells.from, cells.to, omega (arith, cells.to, layout.cells));
      fits = document.fits;
    }
  where
    some : 1 ≤ count
    some = omega (arith, document.fits.2, document.fits.3)
