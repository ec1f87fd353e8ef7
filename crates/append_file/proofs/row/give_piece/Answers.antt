-- The bytes of the cell.
use Rattle.std.proofs.Common.{rules, ℕ, List, Some, subst}
use Rattle.append_file.specs.Pieces.{HoldsPiece}
use Rattle.append_file.proofs.RowsOn.{gives_held}
use Rattle.append_file.proofs.row.give_piece.Goals as goal

pub returns-clause-some : goal.returns-clause-some
returns-clause-some c =
    rw c.from.ensures
    (gives_held c.args.bytes c.args.place c.args.cell.now c.copy_from_slice.new.self c.in_ok-held.held
    (subst (λ (l : List ℕ). HoldsPiece c.args.bytes c.args.place (Some l) c.in_ok-held.held)
    c.in_ok-from_bytes.ensures.same c.in_ok-held.ensures.some) (search rules) c.copy_from_slice.ensures.after)
