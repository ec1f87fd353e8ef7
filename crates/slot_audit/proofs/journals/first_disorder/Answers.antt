-- A slot without a document; one whose journal is in order; one whose is not; and all.
use Rattle.std.proofs.Common.{sym, subst, inr, arith}
use Rattle.log_audit.specs.KeptVolumes.{image_in}
use Rattle.tamper_rules.specs.Rules.{Journals, ReserveCells}
use Rattle.slot_audit.specs.Journals.{IsFirstPlace, IsOrdered}
use Rattle.slot_audit.proofs.Going.{AreGoodTo, none_more, slot_more, all_good, least_place, in_pool}
use Rattle.slot_audit.proofs.Stating.{journal_rule, ordered_so}
use Rattle.slot_audit.proofs.journals.first_disorder.Goals as goal

pub loop-slot-preserved-in_default : goal.loop-slot-preserved-in_default
loop-slot-preserved-in_default c = none_more c.loop-slot.invariant c.in_default.ensures.none

pub first_disorder_of-requires-clause-written : goal.first_disorder_of-requires-clause-written
first_disorder_of-requires-clause-written c = c.requires.written c.in-Some.stored c.in-Some.ensures.some

pub loop-slot-preserved : goal.loop-slot-preserved
loop-slot-preserved c = slot_more c.loop-slot.invariant c.in-Some.ensures.some c.in-Some.ensures.same
    (c.in_default-first_disorder_of).ensures

pub returns-in-loop-slot : goal.returns-in-loop-slot
returns-in-loop-slot c = let volume = c.args.volume.now in
    let g = volume.geometry in let image = image_in volume in let stored = c.in-Some.ensures.some in
    let first : IsFirstPlace (IsOrdered g image c.in-Some.stored) image Journals c.in-Some.stored
    (c.in-Some-first_disorder_of).entry
    = (c.in-Some-first_disorder_of).ensures in
    least_place g image (c.requires.met ReserveCells (omega arith)) Journals (IsOrdered g image) stored
    (subst (AreGoodTo g image (IsOrdered g image)) (sym c.in-Some.ensures.same) c.loop-slot.invariant)
    first (inr (in_pool stored first.inside first.cell))
    (λ cell ask. journal_rule volume.is_log c.requires.written cell ask)
    (ordered_so stored first.inside first.cell)

pub returns : goal.returns
returns c = λ cell written. journal_rule c.args.volume.now.is_log c.requires.written cell (λ t is q inside at.
    all_good c.loop-slot.invariant (omega (arith, c.loop-slot-test.false, c.slots-slot-end.ensures.slots)) t is q inside)
