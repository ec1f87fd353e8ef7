-- No slot reserves the cell; the slot that does holds no document, or the cell lies before it, or does not.
use Rattle.log_audit.specs.Kept.{image_of_kept}
use Rattle.log_audit.proofs.Holders.{log_in_row, owner_holds, not_owned, owned, not_before}
use Rattle.std.proofs.Common.{arith}
use Rattle.log_audit.proofs.kept_volume.KeptVolume.owner_of.Goals as goal

pub reserving_slot-requires-clause-row : goal.reserving_slot-requires-clause-row
reserving_slot-requires-clause-row c =
    log_in_row c.args.self.now.geometry (image_of_kept c.args.self.now.kept) c.args.self.now.log c.args.self.now.is_log c.requires

pub returns-in_default-clause-none : goal.returns-in_default-clause-none
returns-in_default-clause-none c = λ m lies. c.in_default.ensures.none m (owner_holds c.args.self.now.is_log lies)

pub returns-in_default-stored_slot-clause-none : goal.returns-in_default-stored_slot-clause-none
returns-in_default-stored_slot-clause-none c = not_owned c.args.self.now.is_log c.requires c.in-Some.ensures.some
    (c.in_default-stored_slot).ensures.none

pub returns-then-cell-document_at-clause-some : goal.returns-then-cell-document_at-clause-some
returns-then-cell-document_at-clause-some c =
    owned c.args.self.now.is_log c.requires c.in-Some.ensures.some c.in-Some-stored_slot.ensures.some
    c.in-Some-stored_slot.ensures.same (omega (arith, c.if-cell-document_at.true, c.document_at.ensures.at))

pub returns-clause-none : goal.returns-clause-none
returns-clause-none c =
    not_before c.args.self.now.is_log c.requires c.in-Some.ensures.some c.in-Some-stored_slot.ensures.some
    c.in-Some-stored_slot.ensures.same (omega (arith, c.if-cell-document_at.false, c.document_at.ensures.at))
