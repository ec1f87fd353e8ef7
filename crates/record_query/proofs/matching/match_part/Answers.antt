-- What was read of a part.
use Rattle.std.proofs.Common.{Option, Ok, arith, refl, subst}
use Rattle.std.proofs.lemmas.List.{length-take}
use Rattle.cell_types.proofs.Passed.{handed}
use Rattle.cell_types.specs.declared.refusal.Refusal.TheVariants.{NoMemory}
use Rattle.document_store.specs.Looks.{commit_breach}
use Rattle.document_store.specs.declared.head.Head.{Head}
use Rattle.record_query.specs.Matching.{SeekEnds, SeekFails}
use Rattle.document_store.proofs.Naming.{names_commit_before}
use Rattle.record_query.proofs.Matched.{found_match, no_match, refused}
use Rattle.record_query.proofs.matching.match_part.Goals as goal

-- a read failed
pub returns-in-Err-ReadFault-clause-ends : goal.returns-in-Err-ReadFault-clause-ends
returns-in-Err-ReadFault-clause-ends g c = λ terms was.
    subst (SeekFails c.args.part.now.start c.args.part.now.bytes (g.V.View.seen c.args.view.now)
    (g.V.View.seen c.seek.new.view))
    c.in-Err-ReadFault.field-0-is c.in-Err-ReadFault.ensures.ends

-- there was no memory
pub returns-in-Err-NoMemory-clause-ends : goal.returns-in-Err-NoMemory-clause-ends
returns-in-Err-NoMemory-clause-ends g c = λ terms was.
    rw c.from-in-Err-NoMemory.ensures
    (subst (SeekFails c.args.part.now.start c.args.part.now.bytes (g.V.View.seen c.args.view.now)
    (g.V.View.seen c.seek.new.view))
    c.in-Err-NoMemory.field-0-is c.in-Err-NoMemory.ensures.ends)

-- the document is broken
pub returns-in-Err-Broken-clause-ends : goal.returns-in-Err-Broken-clause-ends
returns-in-Err-Broken-clause-ends g c = λ terms was.
    let layout = c.args.geometry.now in
    let part = c.args.part.now in
    let old = g.V.View.seen c.args.view.now in
    let new = g.V.View.seen c.seek.new.view in
    let broken = subst (SeekFails part.start part.bytes old new) c.in-Err-Broken.field-0-is c.in-Err-Broken.ensures.ends in
    rw c.from.ensures
    (rw c.name_commit.ensures
    (refused layout part.slot terms old new (commit_breach part)
    (names_commit_before layout old new part c.in-Err-Broken.ensures.viewed c.requires.part.slot broken.0 c.requires.part.is
    broken.1)))

-- a document without the terms
pub returns-in_default-clause-ends : goal.returns-in_default-clause-ends
returns-in_default-clause-ends g c = λ terms was.
    let ends = subst (λ (f : Option Head). SeekEnds c.args.part.now.start c.args.part.now.bytes
    (g.V.View.seen c.args.view.now) (g.V.View.seen c.seek.new.view) c.args.matcher.now (Ok f)) c.in_default.is
    c.in-Ok.ensures.ends in
    no_match c.args.geometry.now c.args.part.now terms c.args.matcher.now was c.in-Ok.ensures.viewed ends.0
    c.requires.part.is ends.1

-- a document with the terms
pub identifier_of_head-requires : goal.identifier_of_head-requires
identifier_of_head-requires g c =
    let ends = subst (λ (f : Option Head). SeekEnds c.args.part.now.start c.args.part.now.bytes
    (g.V.View.seen c.args.view.now) (g.V.View.seen c.seek.new.view) c.args.matcher.now (Ok f)) c.in-Some.is
    c.in-Ok.ensures.ends in
    omega (arith, ends.1.has.id_length, length-take c.in-Some.head.id_length c.in-Some.head.id)

pub returns-in_err-identifier-clause-ends : goal.returns-in_err-identifier-clause-ends
returns-in_err-identifier-clause-ends g c = λ terms was.
    let ends = subst (λ (f : Option Head). SeekEnds c.args.part.now.start c.args.part.now.bytes
    (g.V.View.seen c.args.view.now) (g.V.View.seen c.seek.new.view) c.args.matcher.now (Ok f)) c.in-Some.is
    c.in-Ok.ensures.ends in
    rw (handed c.from_residual.result NoMemory c.from_residual.ensures.1) ends.0

pub returns-clause-ends : goal.returns-clause-ends
returns-clause-ends g c = λ terms was.
    let ends = subst (λ (f : Option Head). SeekEnds c.args.part.now.start c.args.part.now.bytes
    (g.V.View.seen c.args.view.now) (g.V.View.seen c.seek.new.view) c.args.matcher.now (Ok f)) c.in-Some.is
    c.in-Ok.ensures.ends in
    found_match c.args.geometry.now c.args.part.now terms c.args.matcher.now was c.in-Ok.ensures.viewed ends.0
    c.requires.part.is c.in-Some.head _ ends.1 refl c.in_ok-identifier.ensures refl
