-- Counting, one number after another.
use Rattle.std.proofs.Common.{◌≡◌, ◌<◌, ◌≤◌, ◌+◌, ◌⊎◌, ⊎_elim, zero, suc, ℕ, List, length, Some, None, refl, sym, ◌∙◌, ap, subst, arith}
use Rattle.std.specs.Prelude.{slice_get, get_or}
use Rattle.std.proofs.lemmas.Option.{slice_get_cases, slice_get_within}
use Rattle.volume_meaning.specs.Volumes.{IsWritten}
use Rattle.log_audit.proofs.Orders.{below_or_at}
use Rattle.log_audit.specs.Cells.{shown_by}
use Rattle.log_audit.specs.Rows.{AreRows}
use Rattle.log_audit.specs.declared.written.WrittenCell.{WrittenCell}
use Rattle.volume_audit.specs.Counts.{Counts, none, one, other}

-- so many of the first n have it, and no more than n do
pub record CountsTo (P : ℕ → Type 0) (n count : ℕ) : Type 0 where
  pub is : Counts P n count
  pub most : count ≤ n

pub none_yet : (P : ℕ → Type 0) → CountsTo P 0 0
none_yet P = record { is = none 0 0 refl refl; most = omega arith }

pub one_more : {P : ℕ → Type 0} {n count : ℕ} → CountsTo P n count → P n → CountsTo P (n + 1) (count + 1)
one_more {P} {n} {count} c h = record { is = one (n + 1) n (count + 1) count refl refl h c.is; most = omega (arith, c.most) }

pub no_more : {P : ℕ → Type 0} {n count : ℕ} → CountsTo P n count → (P n → ⊥) → CountsTo P (n + 1) count
no_more {P} {n} {count} c h = record { is = other (n + 1) n count refl h c.is; most = omega (arith, c.most) }

pub all_counted : {P : ℕ → Type 0} {n m count : ℕ} → CountsTo P n count → n ≡ m → Counts P m count
all_counted {P} {n} {m} {count} c e = subst (λ (k : ℕ). Counts P k count) e c.is

-- Kept cells by rising numbers: those below a number stand before a place, and so many of the numbers below it are written.
record CountedBelow (rows : List WrittenCell) (number : ℕ) : Type 0 where
  place : ℕ
  most : place ≤ length rows
  before : (k : ℕ) (row : WrittenCell) → slice_get rows k ≡ Some row → k < place → row.number < number
  behind : (k : ℕ) (row : WrittenCell) → slice_get rows k ≡ Some row → place ≤ k → number ≤ row.number
  counts : Counts (IsWritten (shown_by rows)) number place

module _ {count : ℕ} {rows : List WrittenCell} (are : AreRows count rows) where
  next_or_later : (a b : ℕ) → a ≤ b → (b ≡ a) ⊎ (a + 1 ≤ b)
  next_or_later a b h = grind arith

  -- the cell behind these is the next of the row
  module _ (number : ℕ) (so_far : CountedBelow rows number) where
    taken : (row : WrittenCell) → slice_get rows so_far.place ≡ Some row → row.number ≡ number → CountedBelow rows (number + 1)
    taken row stands is = record {
      place = so_far.place + 1;
      most = let w = slice_get_within rows so_far.place row stands in omega (arith, w);
      before = λ k other there less. ⊎_elim
          (λ (earlier : k < so_far.place). let b = so_far.before k other there earlier in omega (arith, b))
          (λ (same : k ≡ so_far.place).
          let both : Some row ≡ Some other = sym stands ∙ ap (slice_get rows) (sym same) ∙ there in
          let eq : row ≡ other = cc in
          omega (arith, ap (λ (r : WrittenCell). r.number) eq, is))
          (below_or_at k so_far.place less);
      behind = λ k other there from.
          let rises = are.rising so_far.place k row other stands there (omega (arith, from)) in omega (arith, rises, is);
      counts = one (number + 1) number (so_far.place + 1) so_far.place refl refl
          (record { found = row.cell; stands = ap (shown_by rows) (sym is) ∙ are.each so_far.place row stands }) so_far.counts;
    }

    -- or it is blank
    blank : ((k : ℕ) (row : WrittenCell) → slice_get rows k ≡ Some row → row.number ≡ number → ⊥) → CountedBelow rows (number + 1)
    blank never = record {
      place = so_far.place;
      most = so_far.most;
      before = λ k row there less. let b = so_far.before k row there less in omega (arith, b);
      behind = λ k row there from. ⊎_elim
          (λ (same : row.number ≡ number). absurd (never k row there same))
          (λ (later : number + 1 ≤ row.number). later)
          (next_or_later number row.number (so_far.behind k row there from));
      counts = other (number + 1) number so_far.place refl
          (λ written. let w = are.all number written.found written.stands in never w.0 w.1 w.2 w.3) so_far.counts;
    }

    -- each kept cell of the number stands at this place
    here : (k : ℕ) (row : WrittenCell) → slice_get rows k ≡ Some row → row.number ≡ number
        → (first : WrittenCell) → slice_get rows so_far.place ≡ Some first → first.number ≡ number
    here k row there is first stands = ⊎_elim
        (λ (same : k ≡ so_far.place).
        let both : Some first ≡ Some row = sym stands ∙ ap (slice_get rows) (sym same) ∙ there in
        let eq : first ≡ row = cc in ap (λ (r : WrittenCell). r.number) eq ∙ is)
        (λ (apart : (k < so_far.place) ⊎ (so_far.place < k)). ⊎_elim
        (λ (earlier : k < so_far.place). let b = so_far.before k row there earlier in absurd (omega (arith, b, is)))
        (λ (later : so_far.place < k).
        let rises = are.rising so_far.place k first row stands there later in
        let least = so_far.behind so_far.place first stands (omega arith) in absurd (omega (arith, rises, least, is)))
        apart)
        (order k so_far.place)
      where
        order : (a b : ℕ) → (a ≡ b) ⊎ (a < b) ⊎ (b < a)
        order a b = grind arith

    next : CountedBelow rows (number + 1)
    next = ⊎_elim
        (λ (w : (row : WrittenCell) × (so_far.place < length rows) × (slice_get rows so_far.place ≡ Some row)
        × (get_or rows so_far.place row ≡ row)). ⊎_elim
        (λ (same : w.0.number ≡ number). taken w.0 w.2 same)
        (λ (later : number + 1 ≤ w.0.number). blank (λ k other there is.
        let first = here k other there is w.0 w.2 in omega (arith, first, later)))
        (next_or_later number w.0.number (so_far.behind so_far.place w.0 w.2 (omega arith))))
        (λ (past : (length rows ≤ so_far.place) × (slice_get rows so_far.place ≡ None)). blank (λ k row there is.
        let within = slice_get_within rows k row there in
        let b = so_far.before k row there (omega (arith, within, past.0)) in omega (arith, b, is)))
        (slice_get_cases rows so_far.place).1

  counted_below : (number : ℕ) → CountedBelow rows number
  counted_below zero = record {
    place = 0;
    most = omega arith;
    before = λ k row there less. absurd (omega (arith, less));
    behind = λ k row there from. omega arith;
    counts = none 0 0 refl refl;
  }
  counted_below (suc n) = subst (CountedBelow rows) (omega arith) (next n (counted_below n))

  -- so many cells are written as are kept
  pub counted : Counts (IsWritten (shown_by rows)) count (length rows)
  counted =
      let all = counted_below count in
      let whole : all.place ≡ length rows = ⊎_elim
      (λ (w : (row : WrittenCell) × (all.place < length rows) × (slice_get rows all.place ≡ Some row)
      × (get_or rows all.place row ≡ row)).
      let inside = are.inside all.place w.0 w.2 in let from = all.behind all.place w.0 w.2 (omega arith) in
      absurd (omega (arith, inside, from)))
      (λ (past : (length rows ≤ all.place) × (slice_get rows all.place ≡ None)). omega (arith, past.0, all.most))
      (slice_get_cases rows all.place).1 in
      subst (Counts (IsWritten (shown_by rows)) count) whole all.counts
