-- A slot that is not done; one that is tiled; one that is not; and all of them.
use Rattle.std.proofs.Common.{◌<◌, sym, ◌∙◌, arith}
use Rattle.log_audit.specs.KeptVolumes.{image_in}
use Rattle.tamper_rules.specs.Rules.{Tilings}
use Rattle.log_audit.proofs.Deciding.{decided_no, decided_yes}
use Rattle.log_audit.proofs.Families.{fine_more, met_all, first_rising}
use Rattle.slot_audit.proofs.Leading.{have_targets}
use Rattle.slot_audit.proofs.TilesStating.{asks, none_tiles, slot_tiles, no_slot_tiles}
use Rattle.slot_audit.proofs.tilings.first_broken_tiling.Goals as goal

pub loop-slot-preserved-in_default : goal.loop-slot-preserved-in_default
loop-slot-preserved-in_default c = fine_more c.loop-slot.invariant (λ _. none_tiles c.in_default.ensures.none)

pub is_tiled-requires-clause-targets : goal.is_tiled-requires-clause-targets
is_tiled-requires-clause-targets c = let volume = c.args.volume.now in
    have_targets volume.geometry (image_in volume) c.in-Some.stored
    c.requires.journals c.in-Some.ensures.some

pub loop-slot-preserved : goal.loop-slot-preserved
loop-slot-preserved c = fine_more c.loop-slot.invariant (λ _.
    slot_tiles c.in-Some.ensures.some c.in-Some.ensures.same
    (decided_yes _ (c.in_ok-is_tiled).ensures c.if-branch.true))

pub returns-in-loop-slot : goal.returns-in-loop-slot
returns-in-loop-slot c =
    let g = c.args.volume.now.geometry in let image = image_in c.args.volume.now in
    let inside : c.loop-slot.slot < g.slots = omega (arith, c.loop-slot-test.true, c.slots-slot-end.ensures.slots) in
    first_rising g Tilings _ (λ cell each. asks g image cell each)
    (λ met a b d e done. met c.loop-slot.slot a b d e c.outcome_at-cell.ensures.at done)
    (λ a b h. omega (arith, h)) c.loop-slot.invariant
    (no_slot_tiles c.in-Some.ensures.some c.in-Some.ensures.same
    (decided_no _ (c.in_ok-is_tiled).ensures c.if-branch.false))
    (omega arith) (c.loop-slot.slot, inside, c.outcome_at-cell.ensures.at)
    (sym c.at.ensures ∙ (c.in-Some-at).is) c.outcome_at-cell.ensures.at

pub returns : goal.returns
returns c =
    let g = c.args.volume.now.geometry in let image = image_in c.args.volume.now in
    met_all g Tilings (λ cell each. asks g image cell
    (λ k less. each k (omega (arith, less, c.loop-slot-test.false, c.slots-slot-end.ensures.slots)))) c.loop-slot.invariant
