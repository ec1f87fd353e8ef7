-- There is a byte, or a cell is broken.
use Rattle.std.proofs.Common.{subst, sym, Result, ℕ}
use Rattle.append_file.specs.Reading.{ByteEnds}
use Rattle.append_file.specs.declared.piece.ContentFault.{ContentFault}
use Rattle.append_file.proofs.GoingOn.{byte_ends}
use Rattle.append_file.proofs.position.read_byte.Goals as goal

pub returns-clause-ends : goal.returns-clause-ends
returns-clause-ends g c =
    let v = g.V.View.seen c.args.view.now in
    let w = g.V.View.seen c.next_byte.new.view in
    let ends = byte_ends v w c.args.position.now c.next_byte.new.position c.next_byte.result c.next_byte.ensures.ends in
    subst (λ (r : Result ℕ ContentFault). ByteEnds v w c.args.position.now c.next_byte.new.position r)
    (sym c.unwrap_or.ensures) ends
