-- The outcome cell is a stray, or another record, or states too much; or a done cell stands where none should.
use Rattle.std.proofs.Common.{◌≡◌, ℕ, Bool, true, false, refl, sym, ◌∙◌, arith}
use Rattle.std.specs.Prelude.{IsTrue}
use Rattle.cell_types.specs.declared.record_cell.RecordCell.TheVariants.{Abandon, Commit}
use Rattle.commit_record.proofs.CellsMake.{IsLateDone, outcome_stray, outcome_wrong, done_without_outcome, done_behind_abandon, committed, unstamped}
use Rattle.commit_record.proofs.CellsSeen.{handed}
use Rattle.commit_record.proofs.slot_cells.state_reserved.Goals as goal
use Rattle.commit_record.proofs.slot_cells.state_reserved.Goals.{in_default-via-in-Commit+else-fits_into, in_default-via-in_default}
use Rattle.worm_device.specs.declared.looks.Found.TheVariants.{Blank}

pub returns-in_err-no_done_cell-in-Blank-clause-ends : goal.returns-in_err-no_done_cell-in-Blank-clause-ends
returns-in_err-no_done_cell-in-Blank-clause-ends c =
    let e = c.in_err-no_done_cell-in-Blank.field-0.0 in
    let w = c.in_err-no_done_cell-in-Blank.ensures.written in
    let late : IsLateDone c.args.slot c.args.done e = record { rule = w.0; cell = w.1; found = w.2 } in
    rw (handed c.from_residual.result e c.from_residual.ensures.1)
    (done_without_outcome _ c.args.slot c.requires.slot Blank c.args.outcome c.args.done c.args.stamp c.args.start c.args.length e
    c.in-Blank.is late)

pub returns-in-Stray-clause-ends : goal.returns-in-Stray-clause-ends
returns-in-Stray-clause-ends c =
    outcome_stray _ c.args.slot c.requires.slot Blank c.args.outcome c.args.done c.args.stamp c.args.start c.args.length
    c.outcome_at.result c.in-Stray.found c.outcome_at.ensures.at c.in-Stray.is

pub returns-in_err-no_done_cell-in-Abandon-clause-ends : goal.returns-in_err-no_done_cell-in-Abandon-clause-ends
returns-in_err-no_done_cell-in-Abandon-clause-ends c =
    let e = c.in_err-no_done_cell-in-Abandon.field-0.0 in
    let w = c.in_err-no_done_cell-in-Abandon.ensures.written in
    let late : IsLateDone c.args.slot c.args.done e = record { rule = w.0; cell = w.1; found = w.2 } in
    rw (handed c.from_residual-in_err-no_done_cell-in-Abandon.result e
    c.from_residual-in_err-no_done_cell-in-Abandon.ensures.1)
    (done_behind_abandon _ c.args.slot c.requires.slot Blank c.args.outcome c.args.done c.args.stamp c.args.start c.args.length e
    c.in-Record.found c.in-Record.held c.in-Record.is c.in-Abandon.is late)

pub returns-else-lacks_stamp-clause-ends : goal.returns-else-lacks_stamp-clause-ends
returns-else-lacks_stamp-clause-ends c =
    committed _ c.args.slot c.requires.slot Blank c.args.outcome c.args.done c.args.stamp c.args.start c.args.length
    c.in-Commit.bytes c.in-Commit.journal
    c.state_committed.result c.in-Record.found c.in-Record.held c.in-Record.is c.in-Commit.is
    (c.if-fits_into.ensures.0 refl) (c.lacks_stamp.ensures.there c.if-lacks_stamp.false) c.state_committed.ensures.ends

pub returns-then-lacks_stamp-clause-ends : goal.returns-then-lacks_stamp-clause-ends
returns-then-lacks_stamp-clause-ends c =
    unstamped _ c.args.slot c.requires.slot Blank c.args.outcome c.args.done c.args.stamp c.args.start c.args.length
    c.in-Commit.bytes c.in-Commit.journal
    c.outcome_at-then-lacks_stamp.result c.in-Record.found c.in-Record.held c.outcome_at-then-lacks_stamp.ensures.at c.in-Record.is c.in-Commit.is
    (c.if-fits_into.ensures.0 refl) (c.lacks_stamp.ensures.missing c.if-lacks_stamp.true)

commits_are : (a b c d : ℕ) → Commit a b ≡ Commit c d → (a ≡ c) × (b ≡ d)
commits_are a b c d e = (cc, cc)

no_abandon : (a b : ℕ) → Commit a b ≡ Abandon → ⊥
no_abandon a b e = cc

unfit : (fits : Bool) → fits ≡ false → IsTrue fits → ⊥
unfit fits is_false is_true = let clash : false ≡ true = sym is_false ∙ is_true in cc

pub returns-in_default-clause-ends : goal.returns-in_default-clause-ends
returns-in_default-clause-ends c =
    outcome_wrong _ c.args.slot c.requires.slot Blank c.args.outcome c.args.done c.args.stamp c.args.start c.args.length
    c.outcome_at-in_default.result c.in-Record.found c.in-Record.held c.outcome_at-in_default.ensures.at
    c.in-Record.is
    (elim c.in_default.branch [
      | in_default-via-in-Commit+else-fits_into w ↦ λ e. no_abandon _ _ (sym w.in-Commit.is ∙ e)
      | in_default-via-in_default w ↦ λ e. w.in_default.not-Abandon e
    ])
    (elim c.in_default.branch [
      | in_default-via-in-Commit+else-fits_into w ↦ λ bytes journal e fits.
          let same = commits_are _ _ _ _ (sym w.in-Commit.is ∙ e) in
          unfit w.fits_into.result w.if-fits_into.false (w.fits_into.ensures.1 (omega (arith, same.0, same.1, fits)))
      | in_default-via-in_default w ↦ λ bytes journal e fits. w.in_default.not-Commit bytes journal e
    ])
