-- A sync is a change, the cells hold what they held, and each is sure.
use Rattle.std.proofs.Common.{◌≡◌, ◌++◌, sym, subst, ap, ◌∙◌, ◌∷◌, [], drop, refl, vec_len, arith}
use Rattle.std.specs.List.{list_all}
use Rattle.worm_memory.specs.Unsure.{unsure_of}
use Rattle.worm_memory.specs.Worlds.{blank, foreign_writes_in, world, AreChanges, HasBecome}
use Rattle.worm_memory.specs.declared.change.Change.TheVariants.{Synced}
use Rattle.worm_memory.proofs.Worlds.{changes_append}
use Rattle.worm_memory.proofs.Counted.{in_both}
use Rattle.worm_memory.proofs.Cells.{holds_synced, unsure_synced}
use Rattle.worm_memory.specs.Plans.{stands_if_reached, is_called_for, last_changes, plan_of}
use Rattle.worm_memory.specs.Device.{memory_of}
use Rattle.worm_memory.specs.Memory.{call_of, course_of}
use Rattle.worm_memory.specs.Runs.{Course, HasRun}
use Rattle.worm_memory.specs.declared.mark.CallNumbers.{CallNumbers}
use Rattle.worm_memory.proofs.Running.{synced_in_step}
use Rattle.worm_memory.proofs.Following.{called_append, made_append}
use Rattle.worm_memory.proofs.memory_device.MemoryDevice.record_sync.Goals as goal

pub invariant_of-self-clause-are_changes : goal.invariant_of-self-clause-are_changes
invariant_of-self-clause-are_changes c =
    let device = c.args.self.now in
    subst (AreChanges (vec_len device.cells) blank) (sym c.push_reserved.ensures.items)
    (changes_append (vec_len device.cells) blank device.changes.items (Synced ∷ []) device.are_changes
    (c.requires.unsure, tt))

pub invariant_of-self-clause-holds : goal.invariant_of-self-clause-holds
invariant_of-self-clause-holds c =
    let device = c.args.self.now in
    subst (λ changes. HasBecome device.cells.items (world changes).image) (sym c.push_reserved.ensures.items)
    (holds_synced device.cells.items device.changes.items device.holds)

pub invariant_of-self-clause-are_unsure : goal.invariant_of-self-clause-are_unsure
invariant_of-self-clause-are_unsure c =
    let device = c.args.self.now in
    c.clear.ensures.items ∙ sym (ap unsure_of c.push_reserved.ensures.items ∙ unsure_synced device.changes.items)

pub invariant_of-self-clause-counted : goal.invariant_of-self-clause-counted
invariant_of-self-clause-counted c =
    let device = c.args.self.now in
    let all = ap foreign_writes_in c.push_reserved.ensures.items in
    omega (arith, device.counted, all, in_both device.changes.items (Synced ∷ []))

-- where the command goes by its plan, a step of it has made all sure
pub invariant_of-self-clause-ran : goal.invariant_of-self-clause-ran
invariant_of-self-clause-ran c = λ is.
    let d = c.args.self.now in
    let run = λ (c : Course). ∥ HasRun (plan_of d.schedule) d.marks.items c ∥₁ in
    let made : c.push_reserved-2.new.self.items ≡ d.made_in.items ++ call_of (memory_of d) ∷ [] =
    c.push_reserved-2.ensures.items ∙ ap (λ (n : CallNumbers). d.made_in.items ++ n ∷ []) c.numbers.ensures in
    subst (λ changes. run (record (course_of (memory_of d)) {
      changes = changes;
      made_in = c.push_reserved-2.new.self.items;
    })) (sym c.push_reserved.ensures.items)
    (subst (λ l. run (record (course_of (memory_of d)) { changes = d.changes.items ++ Synced ∷ []; made_in = l }))
    (sym made) (synced_in_step (memory_of d) (c.requires.in_step is)))

-- a sync is nobody else's, and what stands stays
pub invariant_of-self-clause-named : goal.invariant_of-self-clause-named
invariant_of-self-clause-named c = λ is.
    let d = c.args.self.now in
    let called = is_called_for d.schedule.steps d.schedule.calls d.schedule.foreign.items in
    ap (λ l. list_all called (drop (last_changes d.marks.items) l)) c.push_reserved.ensures.items
    ∙ called_append called (last_changes d.marks.items) d.changes.items Synced (omega (arith, d.longer))
    (d.named is) refl

pub invariant_of-self-clause-stands : goal.invariant_of-self-clause-stands
invariant_of-self-clause-stands c = λ is.
    let d = c.args.self.now in
    ap (λ l. list_all (stands_if_reached d.schedule.steps d.schedule.calls (world l).image) d.schedule.foreign.items)
    c.push_reserved.ensures.items
    ∙ made_append d.schedule.steps d.schedule.calls d.schedule.foreign.items d.changes.items Synced tt (d.stands is)
