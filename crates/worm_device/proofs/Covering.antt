-- What an overlay shows of the view below, and what it shows after one cell more was planned.
use Rattle.std.proofs.Common.{◌≡◌, ◌∷◌, ◌<◌, ◌≤◌, ◌+◌, length, slice_get, ⊎_elim, ℕ, Bool, true, false, List, Option, Some, None, Result, Ok, Err, refl, ap, sym, subst, arith, ◌∙◌, min}
use Rattle.std.specs.Prelude.{nat_lt, if◌then◌else◌, MatchResult}
use Rattle.std.proofs.lemmas.Bool.{cases_lt, lt-ltb, le-ltb}
use Rattle.std.proofs.lemmas.Option.{none-some, slice_get_within}
use Rattle.std.specs.Ordering.{nat_cmp}
use Rattle.std.specs.BTreeMap.{BTreeMap, get}
use Rattle.cell_types.specs.Image.{Image, Extends}
use Rattle.worm_device.specs.Overlaying.{asked_is_below, unasked_is_blank, planned_is_shown}
use Rattle.worm_device.specs.Overlays.{over, planned_over, seen_over}
use Rattle.worm_device.specs.Owned.{AreUnplanned}
use Rattle.worm_device.specs.ReadRows.{AreFoundBetween, IsFoundBetween, ViewReadsRow}
use Rattle.worm_device.specs.Views.{ViewState, IsView, Viewed, ViewReads}
use Rattle.worm_device.specs.declared.device.Failed.{Failed}
use Rattle.worm_device.specs.declared.owner.Owner.{Owner}
use Rattle.worm_device.proofs.Resting.{rested_since, rests_of, viewed_self}

-- an image with all that stands below and each planned cell has what is shown
module _ (s : ViewState) (image : Image) (is : IsView s) (lower : Extends s.lower image) (planned : Extends s.planned image) where
  shown_there : (cell : ℕ) (value : List ℕ) (held : Option (List ℕ)) → s.planned cell ≡ held → s.image cell ≡ Some value
      → image cell ≡ Some value
  shown_there cell value (Some other) held shown =
      planned.keeps cell value (held ∙ sym (is.planned.keeps cell other held) ∙ shown)
  shown_there cell value None free shown =
      ⊎_elim
      (λ (before : cell < s.fresh). lower.keeps cell value (sym (is.below cell free before) ∙ shown))
      (λ (past : s.fresh ≤ cell). absurd (none-some value (sym (is.beyond cell free past) ∙ shown)))
      (cases_lt cell s.fresh)

  pub planned_show : Extends s.image image
  planned_show = record { keeps = λ cell value shown. shown_there cell value (s.planned cell) refl shown }

keeps_over : (planned : Option (List ℕ)) (asked : Bool) (a b : Option (List ℕ)) (value : List ℕ)
    → (a ≡ Some value → b ≡ Some value)
    → over planned (if asked then a else None) ≡ Some value → over planned (if asked then b else None) ≡ Some value
keeps_over (Some held) asked a b value keeps h = h
keeps_over None true a b value keeps h = keeps h
keeps_over None false a b value keeps h = h

-- planned cells over an image that extends another extend what they show over the other
over_on : (planned : BTreeMap ℕ (List ℕ)) (fresh : ℕ) (old new : Image) → Extends old new
    → Extends (planned_over planned fresh old) (planned_over planned fresh new)
over_on planned fresh old new e = record {
  keeps = λ cell value h.
      keeps_over (get nat_cmp planned cell) (nat_lt cell fresh) (old cell) (new cell) value (λ k. e.keeps cell value k) h;
}

module _ (planned : BTreeMap ℕ (List ℕ)) (owners : BTreeMap ℕ Owner) (name fresh at : ℕ) where
  shown : ViewState → ViewState
  shown s = seen_over s name planned owners fresh

  pub viewed_over : (s t : ViewState) → Viewed s t
      → Viewed (seen_over s name planned owners fresh) (seen_over t name planned owners fresh)
  viewed_over s t v =
      let few : min fresh t.cells ≡ min fresh s.cells = ap (λ (n : ℕ). min fresh n) v.cells in
      let P : ℕ → Type 0 = λ n.
      Extends (planned_over planned (min fresh s.cells) s.image) (planned_over planned n t.image) in
      let rests = rests_of v in
      record {
        called = v.called;
        cells = refl;
        image = subst P (sym few) (over_on planned (min fresh s.cells) s.image t.image v.image);
        planned = refl;
        owners = refl;
        lower = v.image;
        fresh = few;
        loans = ap (λ (l : List ℕ). name ∷ l) v.loans;
        quiet = rested_since (record {
          later = rests.later;
          shown = λ still cell.
              ap (λ (n : ℕ). planned_over planned n t.image cell) few
              ∙ ap (λ (x : Option (List ℕ)). over (get nat_cmp planned cell) (if nat_lt cell (min fresh s.cells) then x else None))
              (rests.shown still cell);
          lower = rests.shown;
          below = rests.below;
        });
      }

  -- a planned cell
  pub reads_planned : (s : ViewState) (value : List ℕ) → get nat_cmp planned at ≡ Some value
      → ViewReads at (seen_over s name planned owners fresh) (seen_over s name planned owners fresh) (Ok (Some value))
  reads_planned s value is = record {
    viewed = viewed_self (seen_over s name planned owners fresh);
    answer = λ tells.
        sym (planned_is_shown (get nat_cmp planned at) (if nat_lt at (min fresh s.cells) then s.image at else None) value is);
    cause = refl;
    count = omega arith;
  }

  -- a cell that is not planned, and asked for below
  pub reads_below : (s t : ViewState) (result : Result (Option (List ℕ)) Failed) → get nat_cmp planned at ≡ None
      → at < min fresh s.cells → ViewReads at s t result
      → ViewReads at (seen_over s name planned owners fresh) (seen_over t name planned owners fresh) result
  reads_below s t result free asked read = record {
    viewed = viewed_over s t read.viewed;
    answer = λ tells. below result (read.answer tells);
    cause = read.cause;
    count = read.count;
  } where
    here : planned_over planned (min fresh t.cells) t.image at ≡ t.image at
    here = asked_is_below (get nat_cmp planned at) (t.image at) (nat_lt at (min fresh t.cells)) free
        (lt-ltb at (min fresh t.cells) (subst (λ (n : ℕ). at < min fresh n) (sym read.viewed.cells) asked))

    below : (result : Result (Option (List ℕ)) Failed) → MatchResult result (λ found. found ≡ t.image at) (λ _. Unit {0})
        → MatchResult result (λ found. found ≡ planned_over planned (min fresh t.cells) t.image at) (λ _. Unit {0})
    below (Ok found) same = same ∙ sym here
    below (Err failed) same = tt

  -- a cell that is not planned, from `fresh` on
  pub reads_beyond : (s : ViewState) → get nat_cmp planned at ≡ None → min fresh s.cells ≤ at
      → ViewReads at (seen_over s name planned owners fresh) (seen_over s name planned owners fresh) (Ok None)
  reads_beyond s free past = record {
    viewed = viewed_self (seen_over s name planned owners fresh);
    answer = λ tells.
        sym (unasked_is_blank (get nat_cmp planned at) (s.image at) (nat_lt at (min fresh s.cells)) free
        (le-ltb at (min fresh s.cells) past));
    cause = refl;
    count = omega arith;
  }

  found_below : (s t : ViewState) (cell : ℕ) (held : Option (List ℕ)) → get nat_cmp planned cell ≡ None
      → cell < min fresh s.cells → cell < min fresh t.cells → IsFoundBetween s.image t.image cell held
      → IsFoundBetween (planned_over planned (min fresh s.cells) s.image) (planned_over planned (min fresh t.cells) t.image) cell held
  found_below s t cell None free before after h =
      asked_is_below (get nat_cmp planned cell) (s.image cell) (nat_lt cell (min fresh s.cells)) free
      (lt-ltb cell (min fresh s.cells) before) ∙ h
  found_below s t cell (Some value) free before after h =
      asked_is_below (get nat_cmp planned cell) (t.image cell) (nat_lt cell (min fresh t.cells)) free
      (lt-ltb cell (min fresh t.cells) after) ∙ h

  -- neighbouring cells none of which is planned, and that are asked for below
  pub reads_row_below : (s t : ViewState) (room found : List (Option (List ℕ))) (result : Result Unit Failed)
      → AreUnplanned planned at (at + length room) → at + length room ≤ min fresh s.cells
      → ViewReadsRow at room found s t result
      → ViewReadsRow at room found (seen_over s name planned owners fresh) (seen_over t name planned owners fresh) result
  reads_row_below s t room found result free asked read = record {
    viewed = viewed_over s t read.viewed;
    size = read.size;
    answer = λ tells. below result (read.answer tells);
    cause = read.cause;
    count = read.count;
  } where
    more : at + length room ≤ min fresh t.cells
    more = subst (λ (n : ℕ). at + length room ≤ min fresh n) (sym read.viewed.cells) asked

    below : (result : Result Unit Failed)
        → MatchResult result (λ _. AreFoundBetween (length found) at found s.image t.image) (λ _. Unit {0})
        → MatchResult result (λ _. AreFoundBetween (length found) at found (planned_over planned (min fresh s.cells) s.image)
        (planned_over planned (min fresh t.cells) t.image)) (λ _. Unit {0})
    below (Ok done) each = λ place held less there.
        let inside : place < length room = omega (arith, less, read.size) in
        found_below s t (at + place) held (free.each (at + place) (omega arith) (omega (arith, inside)))
        (omega (arith, inside, asked)) (omega (arith, inside, more)) (each place held less there)
    below (Err failed) each = tt
