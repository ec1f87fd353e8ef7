-- No copy; one that does not rise; one of a cell that is not before the document; and one that is before it.
use Rattle.std.proofs.Common.{sym, arith}
use Rattle.log_audit.specs.KeptVolumes.{image_in}
use Rattle.log_audit.proofs.Deciding.{no, decided_no, decided_yes}
use Rattle.slot_audit.proofs.Ordering.{has_target, moved, same_target, rises_so, index_so, in_order}
use Rattle.slot_audit.proofs.entries.is_in_order.Goals as goal

pub returns-in_default : goal.returns-in_default
returns-in_default c = no (λ o. c.in_default.ensures o.target
    (moved (image_in c.args.volume.now) _ _ c.args.place o.target
    (sym c.journal_at.ensures.at) (has_target o.copies)))

pub returns-then-not-rises : goal.returns-then-not-rises
returns-then-not-rises c = no (λ o. decided_no _ c.rises.ensures c.if-not-rises.true
    (rises_so c.args.volume.now.geometry (image_in c.args.volume.now) c.args.stored.now c.args.place c.in-Some.target
    (moved (image_in c.args.volume.now) _ _ c.args.place c.in-Some.target c.journal_at.ensures.at c.in-Some.ensures) o))

pub returns-then-target-document_at : goal.returns-then-target-document_at
returns-then-target-document_at c = let volume = c.args.volume.now in
    no (λ o.
    let same = same_target volume.geometry (image_in volume) c.args.stored.now c.args.place c.in-Some.target
    (moved (image_in volume) _ _ c.args.place c.in-Some.target c.journal_at.ensures.at c.in-Some.ensures) o in
    omega (arith, same, o.before_document, c.if-target-document_at.true, c.document_at.ensures.at))

pub returns : goal.returns
returns c = let volume = c.args.volume.now in
    let g = volume.geometry in let image = image_in volume in let s = c.args.stored.now in
    let seen = moved (image_in volume) _ _ c.args.place c.in-Some.target c.journal_at.ensures.at c.in-Some.ensures in (
      λ yes. in_order g image s c.args.place c.in-Some.target seen c.requires.place (omega arith)
          (decided_yes _ c.rises.ensures c.if-not-rises.false)
          (omega (arith, c.if-target-document_at.false, c.document_at.ensures.at)) (c.is_index_cell.ensures.0 yes),
      λ o. c.is_index_cell.ensures.1 (index_so g image s c.args.place c.in-Some.target seen o),
    )
