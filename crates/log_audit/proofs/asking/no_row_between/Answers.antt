-- A written cell stands there; and the places have come together.
use Rattle.std.proofs.Common.{refl, sym, ◌∙◌, arith}
use Rattle.std.proofs.lemmas.Option.{none-some}
use Rattle.log_audit.specs.AllRows.{all_rows}
use Rattle.log_audit.proofs.Finding.{shown_kept, shown_none}
use Rattle.log_audit.proofs.asking.no_row_between.Goals as goal

pub returns-then-row-behind : goal.returns-then-row-behind
returns-then-row-behind c = let row = c.in-Some.row in (
  λ none. cc,
  λ blank. absurd (none-some row.cell (sym (blank row.number (omega (arith, c.if-row-first.false)) (omega (arith, c.if-row-behind.true)))
      ∙ shown_kept (all_rows c.args.rows.now) _ row c.requires.rising (sym c.row_at.ensures ∙ c.in-Some.is))),
)

pub returns : goal.returns
returns c = (
  λ _ cell from below. sym (shown_none (all_rows c.args.rows.now) cell (λ k row stands is.
      let w = c.loop-low.invariant.0 k row stands (omega (arith, is, from)) (omega (arith, is, below)) in
      omega (arith, w.0, w.1, c.loop-low-test.false))),
  λ _. refl,
)
