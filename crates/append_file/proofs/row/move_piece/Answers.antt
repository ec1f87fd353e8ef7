-- What the cell gives goes to its place, before the cells behind it.
use Rattle.std.proofs.Common.{◌≡◌, ◌+◌, ◌-◌, ◌*◌, ◌∙◌, ℕ, List, Some, ap, arith, take, drop, subst}
use Rattle.std.specs.Prelude.{IfNone}
use Rattle.append_file.specs.Pieces.{IsNoPiece}
use Rattle.append_file.proofs.RowsOn.{puts_some, put_before, some_any}
use Rattle.worm_device.specs.ReadBytes.{cell_bytes}
use Rattle.append_file.proofs.row.move_piece.Goals as goal

pub returns-clause-some : goal.returns-clause-some
returns-clause-some c =
    let sixteen : 16 * c.args.k + 16 - 16 * c.args.k ≡ 16 = omega arith in
    let same : c.copy_from_slice.new.self ≡ cell_bytes c.args.row.now c.args.k = c.copy_from_slice.ensures.after
    ∙ ap (λ (n : ℕ). take n (drop (16 * c.args.k) c.args.row.now)) sixteen in
    puts_some c.args.bytes (c.args.place + c.args.k) (15 * c.args.k) (15 * c.args.k + 15 - 15 * c.args.k)
    c.copy_from_slice.new.self (cell_bytes c.args.row.now c.args.k) c.args.row.now c.give_piece.new.room
    c.give_piece.result same c.give_piece.ensures.some (omega (arith, c.requires.inside))
    c.give_piece.ensures.size

pub returns-clause-others : goal.returns-clause-others
returns-clause-others c = some_any _ c.give_piece.result
    (λ (other : ℕ) behind.
    put_before (15 * c.args.k) (15 * c.args.k + 15 - 15 * c.args.k) 15 other c.args.row.now c.give_piece.new.room (omega arith)
    c.give_piece.ensures.size (omega (arith, behind))
    (omega (arith, c.requires.inside)))

pub returns-clause-none : goal.returns-clause-none
returns-clause-none c =
    let sixteen : 16 * c.args.k + 16 - 16 * c.args.k ≡ 16 = omega arith in
    let same : c.copy_from_slice.new.self ≡ cell_bytes c.args.row.now c.args.k = c.copy_from_slice.ensures.after
    ∙ ap (λ (n : ℕ). take n (drop (16 * c.args.k) c.args.row.now)) sixteen in
    subst (λ (l : List ℕ). IfNone c.give_piece.result (IsNoPiece c.args.bytes (c.args.place + c.args.k) (Some l)))
    same c.give_piece.ensures.none
