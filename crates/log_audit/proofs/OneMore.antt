-- What is kept with one page more, and with one cell more.
use Rattle.std.proofs.Common.{◌≡◌, ◌≢◌, ◌<◌, ◌+◌, ◌*◌, ◌/◌, ◌%◌, ◌^◌, ◌==◌, ◌⊎◌, ◌++◌, ⊎_elim, inl, inr, if◌then◌else◌, suc, ℕ, Bool, true, false, List, [], ◌∷◌, length, Option, Some, None, refl, sym, ◌∙◌, ap, subst, arith, length-append}
use Rattle.std.specs.Prelude.{slice_get}
use Rattle.std.proofs.lemmas.Bool.Decides.{nat_tests}
use Rattle.std.proofs.lemmas.Grind.{common_steps}
use Rattle.std.proofs.lemmas.Option.{gets, slice_get_within}
use Rattle.cell_types.specs.Bytes.{IsCell}
use Rattle.log_audit.specs.AllRows.{all_rows}
use Rattle.log_audit.specs.Cells.{shown_by, AreCellsKept}
use Rattle.log_audit.specs.Kept.{image_of_kept, count_of, IsNext}
use Rattle.log_audit.specs.Viewing.{shown_within}
use Rattle.log_audit.specs.declared.kept.KeptCells.{KeptCells}
use Rattle.log_audit.specs.declared.written.TheConstants.{PAGE_CELLS}
use Rattle.log_audit.specs.declared.written.WrittenCell.{WrittenCell}
use Rattle.log_audit.proofs.Orders.{below_or_at}

pub get_before : {A : Type 0} (xs : List A) (x : A) (k : ℕ) → k < length xs → slice_get (xs ++ x ∷ []) k ≡ slice_get xs k
get_before xs x k h = grind (arith, common_steps, gets)

pub get_last : {A : Type 0} (xs : List A) (x : A) (k : ℕ) → k ≡ length xs → slice_get (xs ++ x ∷ []) k ≡ Some x
get_last xs x k h = grind (arith, common_steps, gets)

pub length_pushed : {A : Type 0} (xs : List A) (x : A) → length (xs ++ x ∷ []) ≡ length xs + 1
length_pushed xs x = length-append xs (x ∷ [])

-- what stands in a list with one more stood there before, or is the one
pub get_pushed : {A : Type 0} (xs : List A) (x : A) (k : ℕ) (y : A) → slice_get (xs ++ x ∷ []) k ≡ Some y
    → (slice_get xs k ≡ Some y) ⊎ ((k ≡ length xs) × (x ≡ y))
get_pushed xs x k y stands = ⊎_elim
    (λ (before : k < length xs). inl (sym (get_before xs x k before) ∙ stands))
    (λ (last : k ≡ length xs). let both : Some x ≡ Some y = sym (get_last xs x k last) ∙ stands in inr (last, cc))
    (below_or_at k (length xs) (let w = slice_get_within (xs ++ x ∷ []) k y stands in omega (arith, w, length_pushed xs x)))

-- the image with one kept cell more, whose number is greater than each before
pub shown_pushed : (rows : List WrittenCell) (row : WrittenCell) (number : ℕ)
    → ((k : ℕ) (q : WrittenCell) → slice_get rows k ≡ Some q → q.number < row.number)
    → shown_by (rows ++ row ∷ []) number ≡ (if number == row.number then Some row.cell else shown_by rows number)
shown_pushed [] row number least = refl
shown_pushed (first ∷ rows) row number least =
    let less = least 0 first refl in
    let rest = shown_pushed rows row number (λ k q stands. least (suc k) q stands) in
    grind (arith, nat_tests)

module _ {count : ℕ} {rows : List WrittenCell} {starts : List ℕ} (kept : AreCellsKept count rows starts) where
  -- no kept cell has the number of the next
  pub next_is_free : shown_by rows count ≡ None
  next_is_free = by (shown_by rows count) refl
    where
      by : (found : Option (List ℕ)) → shown_by rows count ≡ found → shown_by rows count ≡ None
      by None is = is
      by (Some value) is = absurd (omega (arith, (shown_within kept count value is).0))

  -- a page more
  more_pages : count ≡ length starts * PAGE_CELLS → AreCellsKept count rows (starts ++ length rows ∷ [])
  more_pages full = record {
    few = kept.few;
    most = kept.most;
    each = kept.each;
    rising = kept.rising;
    begun = λ page start is. ⊎_elim
        (λ old. kept.begun page start old)
        (λ last. (omega (arith, last.1), omega (arith, last.0, full, ap (λ (p : ℕ). p * PAGE_CELLS) last.0)))
        (get_pushed starts (length rows) page start is);
    parted = λ page start is. ⊎_elim
        (λ old. kept.parted page start old)
        (λ last. λ k row stands.
        let at : page * PAGE_CELLS ≡ count = ap (λ (p : ℕ). p * PAGE_CELLS) last.0 ∙ sym full in (
          λ before. omega (arith, at, (kept.each k row stands).0),
          λ behind. absurd (omega (arith, last.1, behind, slice_get_within rows k row stands)),
        ))
        (get_pushed starts (length rows) page start is);
  }

  -- or none, where there was no memory
  pub kept_page : (done : Bool) {start : ℕ} {after : List ℕ} → count % PAGE_CELLS ≡ 0 → count / PAGE_CELLS ≡ length starts
      → start ≡ length rows → after ≡ (if done then starts ++ start ∷ [] else starts) → AreCellsKept count rows after
  kept_page true {start} {after} first page same more =
      let all : AreCellsKept count rows (starts ++ length rows ∷ []) = more_pages (omega (arith, first, page)) in
      subst (AreCellsKept count rows) (sym (more ∙ ap (λ (n : ℕ). starts ++ n ∷ []) same)) all
  kept_page false first page same more = subst (AreCellsKept count rows) (sym more) kept

  -- a blank cell more
  pub kept_blank : count + 1 < 2 ^ 32 → AreCellsKept (count + 1) rows starts
  kept_blank few = record {
    few = few;
    most = omega (arith, kept.most);
    each = λ k row stands. let is = kept.each k row stands in (omega (arith, is.0), is.1);
    rising = kept.rising;
    begun = λ page start is. let b = kept.begun page start is in (b.0, omega (arith, b.1));
    parted = kept.parted;
  }

  more_rows : (row : WrittenCell) → row.number ≡ count → IsCell row.cell → count + 1 < 2 ^ 32
      → AreCellsKept (count + 1) (rows ++ row ∷ []) starts
  more_rows row number cell few = record {
    few = few;
    most = omega (arith, kept.most, length_pushed rows row);
    each = λ k q stands. ⊎_elim
        (λ old. let is = kept.each k q old in (omega (arith, is.0), is.1))
        (λ last. let n : row.number ≡ q.number = ap (λ (r : WrittenCell). r.number) last.1 in
        (omega (arith, n, number), subst (λ (r : WrittenCell). IsCell r.cell) last.1 cell))
        (get_pushed rows row k q stands);
    rising = λ j k q r a b h. ⊎_elim
        (λ old_b. ⊎_elim
        (λ old_a. kept.rising j k q r old_a old_b h)
        (λ last. absurd (omega (arith, last.0, h, slice_get_within rows k r old_b)))
        (get_pushed rows row j q a))
        (λ last_b. ⊎_elim
        (λ old_a. let n : row.number ≡ r.number = ap (λ (x : WrittenCell). x.number) last_b.1 in
        omega (arith, n, number, (kept.each j q old_a).0))
        (λ last. absurd (omega (arith, last.0, last_b.0, h)))
        (get_pushed rows row j q a))
        (get_pushed rows row k r b);
    begun = λ page start is. let b = kept.begun page start is in (omega (arith, b.0, length_pushed rows row), omega (arith, b.1));
    parted = λ page start is k q stands. ⊎_elim
        (λ old. kept.parted page start is k q old)
        (λ last. let b = kept.begun page start is in
        let n : row.number ≡ q.number = ap (λ (x : WrittenCell). x.number) last.1 in
        (λ before. absurd (omega (arith, before, last.0, b.0)), λ behind. omega (arith, b.1, n, number)))
        (get_pushed rows row k q stands);
  }

  -- a written cell more
  pub kept_more : (row : WrittenCell) {after : List WrittenCell} → row.number ≡ count → IsCell row.cell → count + 1 < 2 ^ 32
      → after ≡ rows ++ row ∷ [] → AreCellsKept (count + 1) after starts
  kept_more row {after} number cell few more = subst (λ (l : List WrittenCell). AreCellsKept (count + 1) l starts) (sym more) (more_rows row number cell few)

  -- what they show then
  pub shown_more : (row : WrittenCell) {after : List WrittenCell} (number : ℕ) → row.number ≡ count → after ≡ rows ++ row ∷ []
      → shown_by after number ≡ (if number == count then Some row.cell else shown_by rows number)
  shown_more row {after} number same more =
      ap (λ (l : List WrittenCell). shown_by l number) more
      ∙ shown_pushed rows row number (λ k q stands. omega (arith, same, (kept.each k q stands).0))
      ∙ ap (λ (n : ℕ). if number == n then Some row.cell else shown_by rows number) same

-- the next image: with a blank cell, and with a written one
pub next_blank : {found : Option (List ℕ)} {old new : KeptCells} → found ≡ None → count_of new ≡ count_of old + 1
    → all_rows new.rows ≡ all_rows old.rows → IsNext found old new
next_blank {found} {old} {new} none count same =
    let one : (cell : ℕ) → image_of_kept new cell ≡ image_of_kept old cell = λ cell. ap (λ (l : List WrittenCell). shown_by l cell) same in
    record {
      count = count;
      here = one (count_of old) ∙ next_is_free old.kept ∙ sym none;
      others = λ cell other. one cell;
    }

pub next_written : (row : WrittenCell) {found : Option (List ℕ)} {old new : KeptCells} → found ≡ Some row.cell → row.number ≡ count_of old
    → count_of new ≡ count_of old + 1 → all_rows new.rows ≡ all_rows old.rows ++ row ∷ [] → IsNext found old new
next_written row {found} {old} {new} some number count more =
    let one : (cell : ℕ) → image_of_kept new cell ≡ (if cell == count_of old then Some row.cell else image_of_kept old cell) =
    λ cell. shown_more old.kept row cell number more in
    record {
      count = count;
      here = one (count_of old) ∙ here (count_of old) (Some row.cell) (image_of_kept old (count_of old)) ∙ sym some;
      others = λ cell other. one cell ∙ there cell (count_of old) (Some row.cell) (image_of_kept old cell) other;
    }
  where
    here : (n : ℕ) (a b : Option (List ℕ)) → (if n == n then a else b) ≡ a
    here n a b = grind (arith, nat_tests)

    there : (m n : ℕ) (a b : Option (List ℕ)) → m ≢ n → (if m == n then a else b) ≡ b
    there m n a b other = grind (arith, nat_tests, other)

-- no kept cell shows nothing
pub shown_empty : (rows : List WrittenCell) → rows ≡ [] → (cell : ℕ) → shown_by rows cell ≡ None
shown_empty rows is cell = ap (λ (l : List WrittenCell). shown_by l cell) is
