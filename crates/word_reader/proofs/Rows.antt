-- What a row adds that begins and ends between words; and what is known where all were found.
use Rattle.std.proofs.Common.{◌≡◌, ◌||◌, ◌+◌, ◌-◌, ℕ, Bool, true, List, [], ◌∷◌, ◌++◌, refl, sym, ap, ◌∙◌, subst, map, ⊎_elim, inl, inr, take, drop, length, arith}
use Rattle.std.specs.Prelude.{Contains}
use Rattle.std.specs.List.{list_all}
use Rattle.std.proofs.lemmas.Bool.{and_parts}
use Rattle.std.proofs.lemmas.List.{append_assoc, append-nil, length-drop, take_all, take-append-drop}
use Rattle.std.proofs.Math.Seq.{take-add}
use Rattle.std.proofs.lemmas.List.Elements.{Contains-append_left, Contains-append_right, Contains-append_cases}
use Rattle.word_reader.specs.Matching.{KnowsBytes, SeekAll, Seeks, Tracks, has_ended, taken}
use Rattle.word_reader.specs.RowWords.{ended_after, has_word, run_after}
use Rattle.word_reader.specs.declared.byte_matcher.ByteMatcher.{ByteMatcher}
use Rattle.word_reader.specs.declared.byte_matcher.Sought.{Sought}
use Rattle.word_reader.proofs.Reading.{bool_cases}
use Rattle.word_reader.proofs.Seeking.{Keeps, and_of, carried, found_stays, or_left, or_parts, or_right, true_false}
use Rattle.word_reader.proofs.RowWords.{ended_append, is_one, one_is, run_append}

-- A row behind bytes, both of which end between words.
module _ (bytes row : List ℕ) (apart : run_after [] bytes ≡ []) (ends : run_after [] row ≡ []) where
  -- no run has begun behind it
  pub run_none : run_after [] (bytes ++ row) ≡ []
  run_none = run_append bytes row [] ∙ ap (λ (r : List ℕ). run_after r row) apart ∙ ends

  -- the words that have ended are those before and those of the row
  ended_both : ended_after [] (bytes ++ row) ≡ ended_after [] bytes ++ ended_after [] row
  ended_both = ended_append bytes row [] ∙ ap (λ (r : List ℕ). ended_after [] bytes ++ ended_after r row) apart

  -- a term that is sought, behind the row
  seeks_row : (t : List ℕ) (found on : Bool) (at : ℕ) → Seeks t found on at bytes
      → Seeks t (found || has_word row t) on at (bytes ++ row)
  seeks_row t found on at s = record {
    most = s.most;
    found_is = (
      λ e. carried t (sym ended_both) (⊎_elim
          (λ (f : found ≡ true). Contains-append_left (ended_after [] bytes) (ended_after [] row) t (s.found_is.0 f))
          (λ (w : has_word row t ≡ true).
          Contains-append_right (ended_after [] bytes) (ended_after [] row) t (one_is (ended_after [] row) t w))
          (or_parts found (has_word row t) e)),
      λ has. ⊎_elim
          (λ (c : Contains (ended_after [] bytes) t). or_left found (has_word row t) (s.found_is.1 c))
          (λ (c : Contains (ended_after [] row) t). or_right found (has_word row t) (is_one (ended_after [] row) t c))
          (Contains-append_cases (ended_after [] bytes) (ended_after [] row) t (carried t ended_both has)),
    );
    front_is = λ e. run_none ∙ sym apart ∙ s.front_is e;
    left_it = λ e rest is. s.left_it e rest (ap (λ (r : List ℕ). r ++ rest) (apart ∙ sym run_none) ∙ is);
  }

  -- and one that is tracked
  tracks_row : (t : List ℕ) (found on : Bool) (at : ℕ) → Tracks t found on at bytes
      → Tracks t (found || has_word row t) on at (bytes ++ row)
  tracks_row t found on at h = elim (bool_cases found) [
    | inl e ↦ record {
      ended = λ f. carried t (sym ended_both)
          (Contains-append_left (ended_after [] bytes) (ended_after [] row) t (h.ended e));
      seeks = λ f. absurd (true_false (sym (or_left found (has_word row t) e) ∙ f));
    }
    | inr e ↦
        let s = seeks_row t found on at (h.seeks e) in
        record { ended = λ f. s.found_is.0 f; seeks = λ f. s }
  ]

  -- each of the terms, behind the row
  pub all_row : (ss : List Sought) (ts : List (List ℕ)) → SeekAll ss ts bytes → SeekAll (map (taken row) ss) ts (bytes ++ row)
  all_row [] [] all = tt
  all_row [] (t ∷ ts) all = all
  all_row (s ∷ ss) [] all = all
  all_row (s ∷ ss) (t ∷ ts) all = (
    all.0,
    subst (λ (l : List ℕ). Tracks t (s.found || has_word row l) s.agrees s.front (bytes ++ row)) (sym all.0)
        (tracks_row t s.found s.agrees s.front all.1),
    all_row ss ts all.2,
  )

-- a step that keeps what was found keeps all
pub all_stays : (f : Sought → Sought) → Keeps f → (ss : List Sought) → list_all has_ended ss ≡ true
    → list_all has_ended (map f ss) ≡ true
all_stays f keeps [] all = refl
all_stays f keeps (s ∷ ss) all =
    let p = and_parts s.found (list_all has_ended ss) all in
    and_of (f s).found (list_all has_ended (map f ss)) ((keeps s).1 p.0) (all_stays f keeps ss p.1)

-- where all were found more bytes say nothing
byte_passes : (b : ℕ) (bytes : List ℕ) (ss : List Sought) (ts : List (List ℕ)) → list_all has_ended ss ≡ true
    → SeekAll ss ts bytes → SeekAll ss ts (bytes ++ b ∷ [])
byte_passes b bytes [] [] found all = tt
byte_passes b bytes [] (t ∷ ts) found all = all
byte_passes b bytes (s ∷ ss) [] found all = all
byte_passes b bytes (s ∷ ss) (t ∷ ts) found all =
    let p = and_parts s.found (list_all has_ended ss) found in (
      all.0,
      found_stays t s.found s.agrees s.agrees s.front s.front bytes b all.1 p.0 s.found p.0,
      byte_passes b bytes ss ts p.1 all.2,
    )

bytes_pass : (more bytes : List ℕ) (ss : List Sought) (ts : List (List ℕ)) → list_all has_ended ss ≡ true
    → SeekAll ss ts bytes → SeekAll ss ts (bytes ++ more)
bytes_pass [] bytes ss ts found all = subst (SeekAll ss ts) (sym (append-nil bytes)) all
bytes_pass (b ∷ more) bytes ss ts found all =
    subst (SeekAll ss ts) (append_assoc bytes (b ∷ []) more)
    (bytes_pass more (bytes ++ b ∷ []) ss ts found (byte_passes b bytes ss ts found all))

-- a matcher that has found all knows it of more bytes
pub all_known : (m : ByteMatcher) (terms : List (List ℕ)) (bytes more : List ℕ) → m.all ≡ true → KnowsBytes m terms bytes
    → KnowsBytes m terms (bytes ++ more)
all_known m terms bytes more all h = record {
  knows = bytes_pass more bytes m.sought.items terms (h.all all) h.knows;
  between = λ e. absurd (true_false (sym all ∙ e));
  all = h.all;
}

-- what is left of a row
left_of : (row : List ℕ) (at : ℕ) → take (length row - at) (drop at row) ≡ drop at row
left_of row at = take_all (length row - at) (drop at row) (omega (arith, length-drop at row))

-- three parts of a row, behind what came before it, are the row
pub parts_of : (before row : List ℕ) (at n : ℕ)
    → ((before ++ take at row) ++ take n (take (length row - at) (drop at row)))
    ++ take (length row - (at + n)) (drop (at + n) row) ≡ before ++ row
parts_of before row at n =
    ap (λ (l : List ℕ). ((before ++ take at row) ++ take n l) ++ take (length row - (at + n)) (drop (at + n) row)) (left_of row at)
    ∙ ap (λ (l : List ℕ). ((before ++ take at row) ++ take n (drop at row)) ++ l) (left_of row (at + n))
    ∙ ap (λ (l : List ℕ). l ++ drop (at + n) row)
    (append_assoc before (take at row) (take n (drop at row)) ∙ ap (λ (l : List ℕ). before ++ l) (sym (take-add at n row)))
    ∙ append_assoc before (take (at + n) row) (drop (at + n) row)
    ∙ ap (λ (l : List ℕ). before ++ l) (take-append-drop (at + n) row)
