-- A byte that is held, the first of the next cell, and a cell that is broken.
use Rattle.std.proofs.Common.{◌≡◌, ◌<◌, ◌≤◌, ◌*◌, ℕ, refl, arith}
use Rattle.volume_meaning.specs.Slots.{cells_for}
use Rattle.append_file.proofs.GoingOn.{byte_fails, give_on, first_on}
use Rattle.append_file.proofs.position.next_byte.Goals as goal

-- a cell is left to be read
cells_left : (read here bytes cells : ℕ) → cells ≡ cells_for here → (read ≡ cells → ⊥) → read ≤ cells_for here
    → here ≡ bytes → (15 * read < bytes) × (read < cells_for here)
cells_left read here bytes cells e differs most is =
    (omega (arith, e, differs, most, is), omega (arith, e, differs, most, is))

pub returns-then-position-2-clause-ends : goal.returns-then-position-2-clause-ends
returns-then-position-2-clause-ends g c = (
  c.if-position.false,
  refl,
  λ start bytes given h.
      give_on _ start bytes c.args.position.now given h c.requires.is c.if-position-2.true c.give.new.self c.give.result
      c.give.ensures.byte c.give.ensures.one,
)

pub returns-in-Ok-clause-ends : goal.returns-in-Ok-clause-ends
returns-in-Ok-clause-ends g c = (
  c.if-position.false,
  c.in-Ok.ensures.ends.0,
  λ start bytes given h.
      let p = c.args.position.now in
      let left = cells_left p.read p.bytes bytes _ c.cells_for.ensures c.if-position-cells_for.false c.requires.is.read
      h.bytes_is in
      first_on _ start bytes p given h c.requires.is _ c.in-Ok.ensures.viewed (omega (arith, c.if-position-2.false)) left.0
      c.in-Ok.held c.in-Ok.ensures.ends c.give_first.new.self c.give_first.result c.give_first.ensures.byte
      c.give_first.ensures.one,
)

pub returns-in-Err-clause-ends : goal.returns-in-Err-clause-ends
returns-in-Err-clause-ends g c =
    let p = c.args.position.now in
    let left = cells_left p.read p.bytes p.bytes _ c.cells_for.ensures c.if-position-cells_for.false c.requires.is.read
    refl in
    byte_fails (g.V.View.seen c.args.view.now) (g.V.View.seen c.read_piece.new.view) p c.end.new.self
    c.if-position.false c.end.ensures left.1 c.in-Err.fault c.in-Err.ensures.ends
