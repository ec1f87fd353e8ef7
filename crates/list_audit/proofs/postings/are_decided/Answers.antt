-- Nothing is asked of the first; one block more; and all of them.
use Rattle.std.proofs.Common.{◌-◌, arith}
use Rattle.std.proofs.lemmas.Option.{slice_get-get_or}
use Rattle.log_audit.specs.KeptVolumes.{image_in}
use Rattle.list_audit.specs.declared.listed.ListBlock.{ListBlock}
use Rattle.list_audit.proofs.Sharing.{are_decided, decided_more}
use Rattle.list_audit.proofs.postings.are_decided.Goals as goal

pub loop-place-init : goal.loop-place-init
loop-place-init c = λ j _ _ less. absurd (omega (arith, less))

pub loop-place-preserved : goal.loop-place-preserved
loop-place-preserved c = let volume = c.args.volume.now in let blocks = c.args.blocks.now in let place = c.loop-place.place in
    let none : ListBlock = record { list = 0; block = 0 } in
    decided_more volume.geometry (image_in volume) blocks place _ _ c.loop-place.invariant (omega arith)
    (slice_get-get_or blocks (place - 1) none (omega arith)) (slice_get-get_or blocks place none (omega arith)) (c.is_decided.ensures (cc))

pub returns : goal.returns
returns c = λ _. are_decided c.args.volume.now.geometry (image_in c.args.volume.now) c.args.blocks.now c.requires.rising c.loop-place.place
    c.loop-place.invariant (omega (arith, c.loop-place-test.false))
