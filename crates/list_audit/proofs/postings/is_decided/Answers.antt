-- These are two blocks; no posting stands there; it is not owed to this list; and not to the one before.
use Rattle.std.proofs.Common.{inl, inr, arith}
use Rattle.log_audit.specs.KeptVolumes.{image_in}
use Rattle.list_audit.specs.Tables.{FitsRow}
use Rattle.list_audit.proofs.Sharing.{is_foreign}
use Rattle.list_audit.proofs.postings.is_decided.Goals as goal

pub returns-in_default : goal.returns-in_default
returns-in_default c = λ _ same p holds. absurd (c.in_default.ensures.none p holds)

pub returns-in_default-place_of : goal.returns-in_default-place_of
returns-in_default-place_of c = λ _ same p holds.
    let volume = c.args.volume.now in let list = c.args.listed.now.list in let posting = c.in-Some.posting in
    let fits : FitsRow list posting = record { list = omega arith; key = omega arith; last = omega arith } in
    inr (is_foreign volume.geometry (image_in volume) c.args.owed.now.table.rows.items c.requires.owed.owed list c.args.listed.now.block posting fits
    c.in-Some.ensures.some c.in_default-place_of.ensures.none p holds)

pub returns-in_default-place_of-2 : goal.returns-in_default-place_of-2
returns-in_default-place_of-2 c = λ _ same p holds.
    let volume = c.args.volume.now in let list = c.args.before.now.list in let posting = c.in-Some.posting in
    let fits : FitsRow list posting = record { list = omega arith; key = omega arith; last = omega arith } in
    inl (is_foreign volume.geometry (image_in volume) c.args.owed.now.table.rows.items c.requires.owed.owed list c.args.listed.now.block posting fits
    c.in-Some.ensures.some c.in_default-place_of-2.ensures.none p holds)
