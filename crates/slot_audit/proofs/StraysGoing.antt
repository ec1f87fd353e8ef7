-- The written cells one after another: those before a place are expected.
use Rattle.std.proofs.Common.{◌≡◌, ◌<◌, ◌≤◌, ◌+◌, ⊎_elim, inl, inr, ℕ, List, length, Some, None, sym, ◌∙◌, subst, ap, arith}
use Rattle.std.specs.Prelude.{slice_get}
use Rattle.std.proofs.lemmas.Option.{slice_get_within}
use Rattle.cell_types.specs.Image.{Image}
use Rattle.cell_types.specs.Layout.{Layout, lists_at}
use Rattle.cell_types.specs.declared.refusal.Evidence.{Evidence}
use Rattle.tamper_rules.specs.Rules.{StrayCells, IsPlace, number_of}
use Rattle.log_audit.specs.Cells.{shown_by}
use Rattle.log_audit.specs.Rows.{AreRows}
use Rattle.log_audit.specs.declared.written.WrittenCell.{WrittenCell}
use Rattle.log_audit.specs.Least.{FindsPart, IsLeastOf}
use Rattle.log_audit.specs.Logs.{IsLog}
use Rattle.log_audit.specs.declared.log.Log.{Log}
use Rattle.log_audit.proofs.Orders.{below_or_at, below_or_not}
use Rattle.slot_audit.specs.Strays.{IsExpected}
use Rattle.slot_audit.proofs.Regions.{expected_first, expected_slots}

-- the written cells before this place are expected
abbrev pub AreExpected : Layout → Image → List WrittenCell → ℕ → Type 0
AreExpected g image rows place = (k : ℕ) (row : WrittenCell) → slice_get rows k ≡ Some row → k < place → IsExpected g image row.number

pub none_yet : (g : Layout) (image : Image) (rows : List WrittenCell) → AreExpected g image rows 0
none_yet g image rows k row stands less = absurd (omega (arith, less))

pub one_more : {g : Layout} {image : Image} (rows : List WrittenCell) {place : ℕ} {row : WrittenCell} → AreExpected g image rows place
    → slice_get rows place ≡ Some row → IsExpected g image row.number → AreExpected g image rows (place + 1)
one_more {g} {image} rows {place} {row} so_far stands here k other there less = ⊎_elim
    (λ (earlier : k < place). so_far k other there earlier)
    (λ (same : k ≡ place).
    let both : Some row ≡ Some other = sym stands ∙ ap (slice_get rows) (sym same) ∙ there in
    let eq : row ≡ other = cc in
    subst (λ (r : WrittenCell). IsExpected g image r.number) eq here)
    (below_or_at k place less)

-- all are
pub all_expected : {g : Layout} {count : ℕ} (rows : List WrittenCell) {place : ℕ} → AreRows count rows
    → AreExpected g (shown_by rows) rows place → length rows ≤ place → FindsPart g (shown_by rows) StrayCells (IsExpected g (shown_by rows)) None
all_expected {g} rows are so_far all = λ cell written.
    let w = are.all cell written.found written.stands in
    let inside = slice_get_within rows w.0 w.1 w.2 in
    subst (IsExpected g (shown_by rows)) w.3 (so_far w.0 w.1 w.2 (omega (arith, inside, all)))

-- a cell that is not expected is in a place of the rule
pub in_place : (g : Layout) (image : Image) (log : Log) → IsLog g image log → (cell : ℕ) → cell < g.cells
    → (IsExpected g image cell → ⊥) → IsPlace g StrayCells cell
in_place g image log is cell inside not = ⊎_elim
    (λ (low : cell < 1). absurd (not (expected_first g image log is cell (omega (arith, low)))))
    (λ (some : 1 ≤ cell). ⊎_elim
    (λ (three : cell < 4). inl (some, omega (arith, three)))
    (λ (more : 4 ≤ cell). ⊎_elim
    (λ (slots : cell < lists_at g). absurd (not (expected_slots g image log is cell more slots)))
    (λ (lists : lists_at g ≤ cell). inr (inr (lists, inside)))
    (below_or_not cell (lists_at g)))
    (below_or_not cell 4))
    (below_or_not cell 1)

-- the first that is not
pub first_not : {g : Layout} {count : ℕ} (log : Log) (rows : List WrittenCell) {place : ℕ} (row : WrittenCell) (e : Evidence)
    → IsLog g (shown_by rows) log → AreRows count rows → count ≡ g.cells → AreExpected g (shown_by rows) rows place
    → slice_get rows place ≡ Some row → (IsExpected g (shown_by rows) row.number → ⊥)
    → e.rule ≡ number_of StrayCells → e.cell ≡ row.number → e.found ≡ row.cell
    → IsLeastOf g (shown_by rows) StrayCells (IsExpected g (shown_by rows)) e
first_not {g} {count} log rows {place} row e is are all so_far stands not number cell found = record {
  number = number;
  place = subst (IsPlace g StrayCells) (sym cell) (in_place g (shown_by rows) log is row.number
      (let w = are.inside place row stands in omega (arith, w, all)) not);
  stands = ap (shown_by rows) cell ∙ are.each place row stands ∙ ap Some (sym found);
  broken = λ expected. not (subst (IsExpected g (shown_by rows)) cell expected);
  below = λ c less written.
      let w = are.all c written.found written.stands in
      let before : w.0 < place = ⊎_elim (λ earlier. earlier)
      (λ (from : place ≤ w.0). ⊎_elim
      (λ (same : w.0 < place + 1). let eq : place ≡ w.0 = omega (arith, same, from) in
      let both : Some row ≡ Some w.1 = sym stands ∙ ap (slice_get rows) eq ∙ w.2 in
      let one : row ≡ w.1 = cc in
      absurd (omega (arith, ap (λ (r : WrittenCell). r.number) one, w.3, less, cell)))
      (λ (later : place + 1 ≤ w.0). let rises = are.rising place w.0 row w.1 stands w.2 (omega (arith, later)) in
      absurd (omega (arith, rises, w.3, less, cell)))
      (below_or_not w.0 (place + 1)))
      (below_or_not w.0 place) in
      subst (IsExpected g (shown_by rows)) w.3 (so_far w.0 w.1 w.2 before);
}
