-- The cells of one page after another.
use Rattle.std.proofs.Common.{◌≡◌, ◌+◌, ◌-◌, ℕ, length, subst, sym, arith}
use borrow.Rule.Slice.PartMut.{put_mid}
use Rattle.host_files.proofs.PageSets.{got_is}
use Rattle.host_files.proofs.RowCells.{HasShown, shown_more}
use Rattle.host_files.proofs.pages.Pages.read_row.Goals as goal

pub loop-done-preserved : goal.loop-done-preserved
loop-done-preserved g c =
    let on = c.in_ok-frame.ensures.on in
    let pages = c.hold.new.self.pages.items in
    let done = c.loop-done.done in
    let more = c.cells_on_page.result in
    let found = c.loop-done.found in
    let part = c.copy_cells.new.into in
    let size : done + more - done ≡ more = omega arith in
    let long : length part ≡ more = omega (arith, c.copy_cells.ensures.size, c.cells_on_page.ensures.most) in
    subst (λ (k : ℕ). HasShown (done + more) c.args.cells c.args.at c.args.found.now (put_mid done k found part)
    (g.F.HostFile.state c.args.file.now) (g.F.HostFile.state c.hold.new.file) c.args.self.now.pages.items pages)
    (sym size)
    (shown_more done c.args.cells c.args.at c.in_ok-frame.frame more c.args.found.now found part
    c.index-page.result.now (g.F.HostFile.state c.args.file.now) (g.F.HostFile.state c.loop-done.file)
    (g.F.HostFile.state c.hold.new.file) c.args.self.now.pages.items c.loop-done.self.pages.items pages
    c.loop-done.invariant (rw c.in_ok-frame.was at c.hold.ensures.asks) c.in_ok-frame.ensures.holds on
    (got_is pages c.in_ok-frame.frame on.0 c.index-page.result.now on.1 c.index-page.ensures) c.requires.some
    c.cells_on_page.ensures.page (omega (arith, c.cells_on_page.ensures.most, c.loop-done-test.true)) long
    c.copy_cells.ensures.cells)

pub returns-clause-answers : goal.returns-clause-answers
returns-clause-answers g c t is held place found below there = c.loop-done.invariant.shown t is held place found
    (omega (arith, below, c.loop-done-test.false)) there
