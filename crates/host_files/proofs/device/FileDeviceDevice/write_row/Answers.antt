-- One piece after another.
use Rattle.std.proofs.Common.{◌≡◌, ◌+◌, ◌-◌, ◌≤◌, ℕ, length, take, drop, subst, arith, Ok}
use Rattle.cell_types.proofs.Passed.{handed}
use Rattle.worm_device.specs.Rows.{WritesRow}
use Rattle.worm_device.proofs.Rows.{HasWritten, row_none, row_whole}
use Rattle.host_files.specs.Over.{state_over}
use Rattle.host_files.proofs.RowPieces.{piece_is, piece_more, piece_failed, piece_ends}
use Rattle.host_files.proofs.device.FileDeviceDevice.write_row.Goals as goal

pub loop-done-init : goal.loop-done-init
loop-done-init g c = (row_none c.args.at c.args.values.now (state_over c.args.self.now), omega arith)

pub returns-in_err-other : goal.returns-in_err-other
returns-in_err-other g c =
    let done = c.loop-done.done in
    let values = c.args.values.now in
    let more = done + c.cells_on_page.result - done in
    let within : done + more ≤ length values = omega (arith, c.cells_on_page.ensures.most, c.loop-done.invariant.1) in
    rw (handed c.from_residual.result c.in_err-other.field-0.0 c.from_residual.ensures.1)
    (piece_failed c.args.at done more values (take more (drop done values)) (piece_is done more values within)
    c.loop-done.invariant.0 c.in_err-other.field-0.0 c.in_err-other.ensures)

pub loop-done-preserved : goal.loop-done-preserved
loop-done-preserved g c =
    let done = c.loop-done.done in
    let values = c.args.values.now in
    let more = done + c.cells_on_page.result - done in
    let within : done + more ≤ length values = omega (arith, c.cells_on_page.ensures.most, c.loop-done.invariant.1) in
    let same : done + more ≡ done + c.cells_on_page.result = omega arith in (
      subst (λ (k : ℕ). HasWritten k c.args.at values (state_over c.args.self.now) (state_over c.write_piece.new.self))
          same
          (piece_more c.args.at done more values (take more (drop done values)) (piece_is done more values within)
          c.loop-done.invariant.0
          (subst (λ w. WritesRow (c.args.at + done) (take more (drop done values)) (state_over c.loop-done.self)
          (state_over c.write_piece.new.self) (Ok w)) c.in-Whole.is c.in_ok-other.ensures)),
      omega (arith, within),
    )

pub returns-in_default : goal.returns-in_default
returns-in_default g c =
    let done = c.loop-done.done in
    let values = c.args.values.now in
    let more = done + c.cells_on_page.result - done in
    let within : done + more ≤ length values = omega (arith, c.cells_on_page.ensures.most, c.loop-done.invariant.1) in
    piece_ends c.args.at done more values (take more (drop done values)) (piece_is done more values within)
    c.loop-done.invariant.0 c.in_ok-other.other c.in_default.not-Whole c.in_ok-other.ensures

pub returns : goal.returns
returns g c = row_whole c.args.at c.args.values.now c.loop-done.done
    (omega (arith, c.loop-done-test.false, c.loop-done.invariant.1)) (state_over c.args.self.now)
    (state_over c.loop-done.self) c.loop-done.invariant.0
