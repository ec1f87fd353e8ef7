-- The changes stay.
use Rattle.std.proofs.Common.{sym, subst, ap, ◌∙◌, drop, vec_len}
use Rattle.worm_memory.specs.Unsure.{unsure_of}
use Rattle.worm_memory.specs.Worlds.{blank, foreign_writes_in, world, AreChanges, HasBecome}
use Rattle.std.specs.List.{list_all}
use Rattle.worm_memory.specs.Device.{memory_of}
use Rattle.worm_memory.specs.Memory.{course_of}
use Rattle.worm_memory.specs.Plans.{stands_if_reached, is_called_for, last_changes, plan_of}
use Rattle.worm_memory.specs.Runs.{HasRun}
use Rattle.worm_memory.proofs.memory_device.MemoryDevice.reserve_changes.Goals as goal

pub invariant_of-self-clause-are_changes : goal.invariant_of-self-clause-are_changes
invariant_of-self-clause-are_changes c =
    let d = c.args.self.now in
    subst (AreChanges (vec_len d.cells) blank) (sym c.reserve.ensures.items) d.are_changes

pub invariant_of-self-clause-holds : goal.invariant_of-self-clause-holds
invariant_of-self-clause-holds c =
    let d = c.args.self.now in
    subst (λ changes. HasBecome d.cells.items (world changes).image) (sym c.reserve.ensures.items) d.holds

pub invariant_of-self-clause-are_unsure : goal.invariant_of-self-clause-are_unsure
invariant_of-self-clause-are_unsure c =
    c.args.self.now.are_unsure ∙ sym (ap unsure_of c.reserve.ensures.items)

pub invariant_of-self-clause-counted : goal.invariant_of-self-clause-counted
invariant_of-self-clause-counted c =
    c.args.self.now.counted ∙ sym (ap foreign_writes_in c.reserve.ensures.items)

pub invariant_of-self-clause-ran : goal.invariant_of-self-clause-ran
invariant_of-self-clause-ran c = λ is.
    let d = c.args.self.now in
    subst (λ changes. ∥ HasRun (plan_of d.schedule) d.marks.items
    (record (course_of (memory_of d)) { changes = changes }) ∥₁) (sym c.reserve.ensures.items) (d.ran is)

pub invariant_of-self-clause-named : goal.invariant_of-self-clause-named
invariant_of-self-clause-named c = λ is.
    let d = c.args.self.now in
    ap (λ l. list_all (is_called_for d.schedule.steps d.schedule.calls d.schedule.foreign.items)
    (drop (last_changes d.marks.items) l)) c.reserve.ensures.items ∙ d.named is

pub invariant_of-self-clause-stands : goal.invariant_of-self-clause-stands
invariant_of-self-clause-stands c = λ is.
    let d = c.args.self.now in
    ap (λ l. list_all (stands_if_reached d.schedule.steps d.schedule.calls (world l).image) d.schedule.foreign.items)
    c.reserve.ensures.items ∙ d.stands is
