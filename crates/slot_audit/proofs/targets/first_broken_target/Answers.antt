-- A slot without a document; one whose targets hold the same; one of which one does not; and all.
use Rattle.std.proofs.Common.{sym, subst, arith}
use Rattle.log_audit.specs.KeptVolumes.{image_in}
use Rattle.tamper_rules.specs.Rules.{Journals, Targets, ReserveCells}
use Rattle.slot_audit.specs.Journals.{IsFirstPlace, IsRedone}
use Rattle.slot_audit.proofs.Going.{AreGoodTo, none_more, slot_more, all_good, least_place, in_pool}
use Rattle.slot_audit.proofs.Stating.{redone_rule, redone_so, ordered_so}
use Rattle.slot_audit.proofs.targets.first_broken_target.Goals as goal

pub loop-slot-preserved-in_default : goal.loop-slot-preserved-in_default
loop-slot-preserved-in_default c = none_more c.loop-slot.invariant c.in_default.ensures.none

pub loop-slot-preserved : goal.loop-slot-preserved
loop-slot-preserved c = slot_more c.loop-slot.invariant c.in-Some.ensures.some c.in-Some.ensures.same
    (c.in_default-first_undone_of).ensures

pub returns-in-loop-slot : goal.returns-in-loop-slot
returns-in-loop-slot c = let volume = c.args.volume.now in
    let g = volume.geometry in let image = image_in volume in let stored = c.in-Some.ensures.some in
    let first : IsFirstPlace (IsRedone image c.in-Some.stored) image Targets c.in-Some.stored
    (c.in-Some-first_undone_of).copy
    = (c.in-Some-first_undone_of).ensures in
    let kept = c.requires.met Journals (omega arith) _ (record { found = _; stands = first.stands }) in
    least_place g image (c.requires.met ReserveCells (omega arith)) Targets (IsRedone image) stored
    (subst (AreGoodTo g image (IsRedone image)) (sym c.in-Some.ensures.same) c.loop-slot.invariant)
    first (in_pool stored first.inside first.cell)
    (λ cell ask. redone_rule volume.is_log cell ask)
    (redone_so stored first.inside first.cell (ordered_so stored first.inside first.cell kept))

pub returns : goal.returns
returns c = λ cell written. redone_rule c.args.volume.now.is_log cell (λ t is q inside at.
    all_good c.loop-slot.invariant (omega (arith, c.loop-slot-test.false, c.slots-slot-end.ensures.slots)) t is q inside)
