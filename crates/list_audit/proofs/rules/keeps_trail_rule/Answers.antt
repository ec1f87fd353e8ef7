-- The document has no postings; it has, and each of them has a trail or not.
use Rattle.std.proofs.Common.{sym, subst}
use Rattle.log_audit.specs.Kept.{image_of_kept}
use Rattle.log_audit.proofs.Deciding.{no}
use Rattle.list_audit.specs.Bodies.{AreRowsOf, HasNoRows}
use Rattle.list_audit.proofs.Holding.{held_by}
use Rattle.list_audit.proofs.Trailing.{in_lists, kept_by, broken_by, some_of, none_of}
use Rattle.list_audit.proofs.rules.keeps_trail_rule.Goals as goal

pub returns-in_default : goal.returns-in_default
returns-in_default c =
    let g = c.args.geometry.now in let image = image_of_kept c.args.kept.now in let n = c.args.slot.now.slot in
    let d = held_by c.requires.stored c.requires.documents in
    no (broken_by g image n d.0 d.1 d.2 (none_of (HasNoRows g image n) c.in_ok-found.found c.in_ok-found.ensures.none c.in_default.is))

pub have_trails-requires-clause-lists : goal.have_trails-requires-clause-lists
have_trails-requires-clause-lists c =
    let g = c.args.geometry.now in let image = image_of_kept c.args.kept.now in let n = c.args.slot.now.slot in
    let d = held_by c.requires.stored c.requires.documents in
    in_lists g image n d.0 d.1 d.2 (subst (AreRowsOf g image n) (sym c.deref.ensures.value)
    (some_of (λ rows. AreRowsOf g image n rows.items) c.in_ok-found.found c.in-Some.rows c.in_ok-found.ensures.some c.in-Some.is))

pub returns : goal.returns
returns c =
    let g = c.args.geometry.now in let image = image_of_kept c.args.kept.now in let n = c.args.slot.now.slot in
    let d = held_by c.requires.stored c.requires.documents in
    let both = kept_by g image n d.0 d.1 d.2 (subst (AreRowsOf g image n) (sym c.deref.ensures.value)
    (some_of (λ rows. AreRowsOf g image n rows.items) c.in_ok-found.found c.in-Some.rows c.in_ok-found.ensures.some c.in-Some.is)) in
    (λ yes. both.0 (c.have_trails.ensures.0 yes), λ keeps. c.have_trails.ensures.1 (both.1 keeps))
