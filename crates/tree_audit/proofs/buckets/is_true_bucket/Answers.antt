-- No bucket; one of a slot that does not stand; one with another fingerprint; one on the path, or not.
use Rattle.std.proofs.Common.{ℕ, subst}
use Rattle.volume_meaning.specs.Documents.{Stands}
use Rattle.log_audit.specs.KeptVolumes.{image_in}
use Rattle.log_audit.proofs.Deciding.{no, decided_no, decided_yes}
use Rattle.tree_audit.proofs.Judging.{same_slot, is_true, true_fingerprint, true_path}
use Rattle.tree_audit.proofs.buckets.is_true_bucket.Goals as goal

pub returns-in_default : goal.returns-in_default
returns-in_default c = no (λ t. c.in_default.ensures t.slot t.fingerprint t.bucket)

pub returns-in_default-identifier_digest : goal.returns-in_default-identifier_digest
returns-in_default-identifier_digest c =
    let g = c.args.volume.now.geometry in let image = image_in c.args.volume.now in
    let b = c.in-Some.bucket in
    no (λ t. (c.in_default-identifier_digest).ensures.none t.id t.body
    (subst (λ (n : ℕ). Stands g.cells image n t.id t.body) (same_slot g image c.args.node c.args.x b.slot b.fingerprint c.in-Some.ensures t).0 t.stands))

pub returns-then-not-has_fingerprint : goal.returns-then-not-has_fingerprint
returns-then-not-has_fingerprint c =
    let g = c.args.volume.now.geometry in let image = image_in c.args.volume.now in
    let b = c.in-Some.bucket in
    no (λ t. decided_no _ c.has_fingerprint.ensures c.if-not-has_fingerprint.true
    (true_fingerprint g image c.args.node c.args.x b.slot b.fingerprint c.in-Some.ensures _ (c.in-Some-identifier_digest).ensures.some t))

pub returns : goal.returns
returns c =
    let g = c.args.volume.now.geometry in let image = image_in c.args.volume.now in
    let b = c.in-Some.bucket in
    let digest = (c.in-Some-identifier_digest).digest in
    let d = (c.in-Some-identifier_digest).ensures.some in
    let same = decided_yes _ c.has_fingerprint.ensures c.if-not-has_fingerprint.false in (
      λ yes. is_true g image c.args.node c.args.x b.slot b.fingerprint c.in-Some.ensures digest d same (c.goes_by.ensures.0 yes),
      λ t. c.goes_by.ensures.1 (true_path g image c.args.node c.args.x b.slot b.fingerprint c.in-Some.ensures digest d t),
    )
