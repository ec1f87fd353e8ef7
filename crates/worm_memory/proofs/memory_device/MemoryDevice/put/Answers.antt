-- A put is a change, its cell holds the value, and is not sure.
use Rattle.std.proofs.Common.{sym, subst, ap, ◌∙◌, ◌++◌, ◌∷◌, [], ℕ, List, drop, vec_len, set, Some, arith, ◌≡◌, ◌+◌}
use Rattle.std.specs.List.{list_all}
use Rattle.worm_memory.proofs.Blanks.{blanks_set}
use Rattle.worm_memory.specs.Unsure.{blanks}
use Rattle.cell_types.specs.Bytes.{IsCell}
use Rattle.worm_memory.specs.Unsure.{unsure_of}
use Rattle.worm_memory.specs.Worlds.{blank, foreign_writes_in, world, AreChanges, HasBecome}
use Rattle.worm_memory.proofs.Worlds.{changes_append, put_is_change}
use Rattle.worm_memory.proofs.Cells.{holds_put, unsure_put}
use Rattle.worm_memory.specs.Plans.{stands_if_reached, is_called_for, last_changes, plan_of}
use Rattle.worm_memory.specs.Device.{memory_of}
use Rattle.worm_memory.specs.Memory.{call_of, counted_with, course_of}
use Rattle.worm_memory.specs.Runs.{Course, HasRun}
use Rattle.worm_memory.specs.declared.change.Change.{Change}
use Rattle.worm_memory.specs.declared.change.Change.TheVariants.{Wrote}
use Rattle.worm_memory.specs.declared.mark.CallNumbers.{CallNumbers}
use Rattle.worm_memory.proofs.Running.{wrote_in_step}
use Rattle.worm_memory.proofs.Counted.{one_counted}
use Rattle.worm_memory.proofs.Worlds.{Adds}
use Rattle.worm_memory.proofs.Following.{called_append, made_append}
use Rattle.worm_memory.proofs.memory_device.MemoryDevice.put.Goals as goal

pub invariant_of-self-clause-are_changes : goal.invariant_of-self-clause-are_changes
invariant_of-self-clause-are_changes c =
    let device = c.args.self.now in
    let is_cell : IsCell c.args.value = c.bytes-bytes.ensures.cell in
    subst (AreChanges (vec_len device.cells) blank) (sym c.push_reserved.ensures.items)
    (changes_append (vec_len device.cells) blank device.changes.items (c.args.change ∷ []) device.are_changes
    (put_is_change c.requires.is (vec_len device.cells) (world device.changes.items) c.requires.inside c.requires.free
    is_cell))

pub invariant_of-self-clause-holds : goal.invariant_of-self-clause-holds
invariant_of-self-clause-holds c =
    let device = c.args.self.now in
    subst (λ changes. HasBecome (set device.cells.items c.args.at (Some c.args.value)) (world changes).image)
    (sym c.push_reserved.ensures.items)
    (holds_put c.requires.is device.cells.items device.changes.items (omega arith) c.requires.free device.holds)

pub invariant_of-self-clause-are_unsure : goal.invariant_of-self-clause-are_unsure
invariant_of-self-clause-are_unsure c =
    let device = c.args.self.now in
    c.push_reserved-2.ensures.items
    ∙ ap (λ (unsure : List ℕ). unsure ++ c.args.at ∷ []) device.are_unsure
    ∙ sym (ap unsure_of c.push_reserved.ensures.items ∙ unsure_put c.requires.is device.changes.items)

pub invariant_of-self-clause-few : goal.invariant_of-self-clause-few
invariant_of-self-clause-few c =
    let device = c.args.self.now in
    let one : blanks (set device.cells.items c.args.at (Some c.args.value)) + 1 ≡ blanks device.cells.items =
    blanks_set device.cells.items c.args.at c.args.value (omega (arith, c.requires.inside))
    (device.holds c.args.at ∙ c.requires.free) in
    omega (arith, one, device.few, c.push_reserved-2.ensures.len)

pub invariant_of-self-clause-roomy : goal.invariant_of-self-clause-roomy
invariant_of-self-clause-roomy c = λ is.
    let device = c.args.self.now in
    let one : blanks (set device.cells.items c.args.at (Some c.args.value)) + 1 ≡ blanks device.cells.items =
    blanks_set device.cells.items c.args.at c.args.value (omega (arith, c.requires.inside))
    (device.holds c.args.at ∙ c.requires.free) in
    omega (arith, one, device.roomy is, c.requires.room, c.push_reserved-2.ensures.len)

-- the write is counted if it is somebody else's
pub invariant_of-self-clause-counted : goal.invariant_of-self-clause-counted
invariant_of-self-clause-counted c =
    let device = c.args.self.now in
    c.counted_with-self.ensures.counts ∙ ap (counted_with c.args.change) device.counted
    ∙ one_counted device.changes.items c.args.change (omega arith)
    ∙ sym (ap foreign_writes_in c.push_reserved.ensures.items)

-- where the command goes by its plan, a step of it has written
pub invariant_of-self-clause-ran : goal.invariant_of-self-clause-ran
invariant_of-self-clause-ran c = λ is.
    let d = c.args.self.now in
    let course : List Change → List CallNumbers → ℕ → Course = λ changes made_in writes.
    record (course_of (memory_of d)) { changes = changes; made_in = made_in; foreign_writes = writes } in
    let run = λ (c : Course). ∥ HasRun (plan_of d.schedule) d.marks.items c ∥₁ in
    let same : c.counted_with-self.result ≡ d.foreign_writes =
    c.counted_with-self.ensures.counts ∙ ap (λ change. counted_with change d.foreign_writes) (c.requires.ours is) in
    let made : c.push_reserved-3.new.self.items ≡ d.made_in.items ++ call_of (memory_of d) ∷ [] =
    c.push_reserved-3.ensures.items ∙ ap (λ (n : CallNumbers). d.made_in.items ++ n ∷ []) c.numbers.ensures in
    let changes : c.push_reserved.new.self.items ≡ d.changes.items ++ Wrote c.args.at c.args.value ∷ [] =
    c.push_reserved.ensures.items ∙ ap (λ change. d.changes.items ++ change ∷ []) (c.requires.ours is) in
    subst (λ l. run (course l c.push_reserved-3.new.self.items c.counted_with-self.result)) (sym changes)
    (subst (λ l. run (course (d.changes.items ++ Wrote c.args.at c.args.value ∷ []) l c.counted_with-self.result))
    (sym made)
    (subst (λ n. run (course (d.changes.items ++ Wrote c.args.at c.args.value ∷ [])
    (d.made_in.items ++ call_of (memory_of d) ∷ []) n)) (sym same)
    (wrote_in_step (memory_of d) c.args.at c.args.value (c.requires.in_step is))))

-- where the command goes by its plan, it is not
pub invariant_of-self-clause-none_written : goal.invariant_of-self-clause-none_written
invariant_of-self-clause-none_written c = λ is may.
    let device = c.args.self.now in
    c.counted_with-self.ensures.counts ∙ ap (λ change. counted_with change device.foreign_writes) (c.requires.ours is)
    ∙ device.none_written is may

pub invariant_of-self-clause-most_written : goal.invariant_of-self-clause-most_written
invariant_of-self-clause-most_written c = λ is few.
    let device = c.args.self.now in
    let same : c.counted_with-self.result ≡ device.foreign_writes =
    c.counted_with-self.ensures.counts ∙ ap (λ change. counted_with change device.foreign_writes) (c.requires.ours is) in
    omega (arith, same, device.most_written is few)

-- where the command goes by its plan, the write is its own, and not somebody else's
pub invariant_of-self-clause-named : goal.invariant_of-self-clause-named
invariant_of-self-clause-named c = λ is.
    let d = c.args.self.now in
    let called = is_called_for d.schedule.steps d.schedule.calls d.schedule.foreign.items in
    ap (λ l. list_all called (drop (last_changes d.marks.items) l)) c.push_reserved.ensures.items
    ∙ called_append called (last_changes d.marks.items) d.changes.items c.args.change (omega (arith, d.longer))
    (d.named is)
    (ap called (c.requires.ours is))

pub invariant_of-self-clause-stands : goal.invariant_of-self-clause-stands
invariant_of-self-clause-stands c = λ is.
    let d = c.args.self.now in
    ap (λ l. list_all (stands_if_reached d.schedule.steps d.schedule.calls (world l).image) d.schedule.foreign.items)
    c.push_reserved.ensures.items
    ∙ made_append d.schedule.steps d.schedule.calls d.schedule.foreign.items d.changes.items c.args.change
    (subst Adds (sym (c.requires.ours is)) tt) (d.stands is)
