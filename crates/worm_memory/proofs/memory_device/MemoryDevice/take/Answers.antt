-- The unsure cells are cells of the device; and what is left stands as the record says, and is sure.
use Rattle.std.proofs.Common.{◌≡◌, ◌<◌, ◌++◌, ℕ, length, get_or, take, drop, vec_len, ap, sym, subst, ◌∙◌, arith}
use Rattle.std.proofs.Math.Seq.{take-length}
use Rattle.std.proofs.lemmas.List.{take-append-le}
use Rattle.worm_memory.specs.Device.{memory_of}
use Rattle.worm_memory.specs.Losses.{crash_cells, crash_changes}
use Rattle.worm_memory.specs.Proper.{is_device}
use Rattle.worm_memory.specs.Unsure.{blanks, unsure_of}
use Rattle.worm_memory.proofs.Blanks.{blanks_most}
use Rattle.std.proofs.Common.{◌+◌, ◌≤◌}
use Rattle.worm_memory.specs.Worlds.{blank, foreign_writes_in, world, AreChanges, HasBecome}
use Rattle.worm_memory.proofs.Counted.{crash_counted}
use Rattle.worm_memory.proofs.Losing.{crash_follows, crash_leaves, each_inside, unsure_inside, unsure_crashed}
use Rattle.worm_memory.proofs.Unsure.{right_world}
use Rattle.worm_memory.proofs.Worlds.{after_row}
use Rattle.worm_memory.proofs.memory_device.MemoryDevice.take.Goals as goal

pub lose-requires-clause-inside : goal.lose-requires-clause-inside
lose-requires-clause-inside c =
    let device = c.args.self.now in
    let right = right_world (vec_len device.cells) device.changes.items device.are_changes in
    let is = is_device (memory_of device) device.some_cells device.most_cells device.are_changes in
    subst (λ n. (i : ℕ) → i < length c.deref.result.now → get_or c.deref.result.now i 0 < n)
    (sym c.deref_mut.ensures.len)
    (subst (λ unsure. (i : ℕ) → i < length unsure → get_or unsure i 0 < vec_len device.cells)
    (sym (c.deref.ensures.value ∙ device.are_unsure))
    (each_inside (memory_of device) is right))

pub invariant_of-self-clause-are_changes : goal.invariant_of-self-clause-are_changes
invariant_of-self-clause-are_changes c =
    let device = c.args.self.now in
    let right = right_world (vec_len device.cells) device.changes.items device.are_changes in
    let listed = c.deref.ensures.value ∙ device.are_unsure in
    subst (AreChanges (vec_len device.cells) blank)
    (sym (c.lose.ensures.changes ∙ ap (λ l. device.changes.items ++ crash_changes c.args.keep.now l) listed))
    (crash_follows (vec_len device.cells) c.args.keep.now device.changes.items device.are_changes right)

pub invariant_of-self-clause-holds : goal.invariant_of-self-clause-holds
invariant_of-self-clause-holds c =
    let device = c.args.self.now in
    let keep = c.args.keep.now in
    let unsure = unsure_of device.changes.items in
    let listed : c.deref.result.now ≡ unsure = c.deref.ensures.value ∙ device.are_unsure in
    let right = right_world (vec_len device.cells) device.changes.items device.are_changes in
    let is = is_device (memory_of device) device.some_cells device.most_cells device.are_changes in
    let left : c.lose.new.cells ≡ crash_cells keep unsure device.cells.items =
    c.lose.ensures.cells ∙ ap (λ l. crash_cells keep l c.deref_mut.result.now) listed
    ∙ ap (crash_cells keep unsure) c.deref_mut.ensures.value in
    let changes : c.lose.new.changes.items ≡ device.changes.items ++ crash_changes keep unsure =
    c.lose.ensures.changes ∙ ap (λ l. device.changes.items ++ crash_changes keep l) listed in
    let same : length c.lose.new.cells ≡ vec_len device.cells = omega arith in
    let kept = drop (length c.lose.new.cells) device.cells.items in
    let cut : take (vec_len device.cells) (c.lose.new.cells ++ kept) ≡ c.lose.new.cells =
    take-append-le (vec_len device.cells) c.lose.new.cells kept (omega arith)
    ∙ ap (λ n. take n c.lose.new.cells) (sym same) ∙ take-length c.lose.new.cells in
    let holds : HasBecome (crash_cells keep unsure device.cells.items)
    (world (device.changes.items ++ crash_changes keep unsure)).image =
    subst (λ now. HasBecome (crash_cells keep unsure device.cells.items) now.image)
    (sym (after_row blank device.changes.items (crash_changes keep unsure)))
    (crash_leaves keep unsure device.cells.items (world device.changes.items) device.holds
    (λ cell among. let inside = unsure_inside (memory_of device) is right cell among in (omega arith, inside.1))) in
    subst (λ cells. HasBecome cells (world c.lose.new.changes.items).image) (sym (cut ∙ left))
    (subst (λ l. HasBecome (crash_cells keep unsure device.cells.items) (world l).image) (sym changes) holds)

pub invariant_of-self-clause-counted : goal.invariant_of-self-clause-counted
invariant_of-self-clause-counted c =
    let device = c.args.self.now in
    device.counted
    ∙ sym (ap foreign_writes_in c.lose.ensures.changes
    ∙ crash_counted c.args.keep.now c.deref.result.now device.changes.items)

pub invariant_of-self-clause-are_unsure : goal.invariant_of-self-clause-are_unsure
invariant_of-self-clause-are_unsure c =
    c.clear.ensures.items
    ∙ sym (ap unsure_of c.lose.ensures.changes ∙ unsure_crashed c.args.keep.now c.deref.result.now
    c.args.self.now.changes.items)

pub invariant_of-self-clause-few : goal.invariant_of-self-clause-few
invariant_of-self-clause-few c =
    let device = c.args.self.now in
    let same : length c.lose.new.cells ≡ vec_len device.cells = omega arith in
    let kept = drop (length c.lose.new.cells) device.cells.items in
    let cut : take (vec_len device.cells) (c.lose.new.cells ++ kept) ≡ c.lose.new.cells =
    take-append-le (vec_len device.cells) c.lose.new.cells kept (omega arith)
    ∙ ap (λ n. take n c.lose.new.cells) (sym same) ∙ take-length c.lose.new.cells in
    subst (λ cells. blanks cells + vec_len c.clear.new.self ≤ vec_len device.cells) (sym cut)
    (omega (arith, blanks_most c.lose.new.cells, same, c.clear.ensures.len))
