-- The document is broken: its commit cell is named.
use Rattle.std.proofs.Common.{subst}
use Rattle.append_file.specs.declared.piece.ContentFault.{ContentFault}
use Rattle.document_store.specs.Heads.{HeadFaultEnds}
use Rattle.document_store.proofs.Naming.{names_commit}
use Rattle.document_store.proofs.part.read_part.Goals as goal

pub returns-in-Err-Broken-clause-ends : goal.returns-in-Err-Broken-clause-ends
returns-in-Err-Broken-clause-ends g c =
    let part = c.args.part.now in
    let old = g.V.View.seen c.args.view.now in
    let new = g.V.View.seen c.read_document.new.view in
    let broken = subst (λ (f : ContentFault). HeadFaultEnds part.start part.bytes old new f) c.in-Err-Broken.field-0-is
    c.in-Err-Broken.ensures.ends in
    rw c.name_commit.ensures
    (names_commit c.args.geometry.now old new part c.read_document.ensures.viewed c.requires.part.slot broken.0
    c.requires.part.is broken.1)
