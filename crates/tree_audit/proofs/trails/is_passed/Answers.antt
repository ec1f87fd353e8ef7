-- Another fingerprint; a slot that does not stand; the identifier; and another one.
use Rattle.std.proofs.Common.{inl, inr, sym, ◌∙◌, ap}
use Rattle.volume_meaning.specs.HashPaths.{fingerprint_of}
use Rattle.document_store.specs.Heads.{id_of}
use Rattle.log_audit.specs.KeptVolumes.{image_in}
use Rattle.log_audit.proofs.Deciding.{no, yes, decided_no, decided_yes}
use Rattle.tree_audit.proofs.Trailing.{unread_not_passed, same_not_passed}
use Rattle.tree_audit.proofs.trails.is_passed.Goals as goal

pub returns-then-not-has_fingerprint : goal.returns-then-not-has_fingerprint
returns-then-not-has_fingerprint c = yes (inl (λ same. decided_no _ c.has_fingerprint.ensures c.if-not-has_fingerprint.true
    (same ∙ ap fingerprint_of (sym c.requires.digest))))

pub returns-in_default : goal.returns-in_default
returns-in_default c = let volume = c.args.volume.now in
    let same = decided_yes _ c.has_fingerprint.ensures c.if-not-has_fingerprint.false ∙ ap fingerprint_of
    c.requires.digest in
    no (unread_not_passed volume.geometry (image_in volume) c.args.bucket.now same c.in_default.ensures.none)

pub returns-then-same_identifier : goal.returns-then-same_identifier
returns-then-same_identifier c = let volume = c.args.volume.now in
    let same = decided_yes _ c.has_fingerprint.ensures c.if-not-has_fingerprint.false ∙ ap fingerprint_of
    c.requires.digest in
    let other = c.in-Some.ensures.some in
    no (same_not_passed volume.geometry (image_in volume) c.args.bucket.now same _ other.body other.stands
    (decided_yes _ c.same_identifier.ensures c.if-same_identifier.true))

pub returns : goal.returns
returns c =
    let other = c.in-Some.ensures.some in
    yes (inr (id_of c.in-Some.other, other.body, other.stands, decided_no _ c.same_identifier.ensures c.if-same_identifier.false))
