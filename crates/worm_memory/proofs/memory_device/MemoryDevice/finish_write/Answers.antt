-- A write into a cell that was blank, done or failed.
use Rattle.std.proofs.Common.{◌≡◌, Some, None, Ok, Err, sym, subst, rules, ◌∙◌, arith}
use Rattle.worm_device.specs.Calls.{Writes}
use Rattle.worm_device.specs.declared.device.Written.TheVariants.{Done}
use Rattle.worm_memory.specs.Worlds.{world, ours}
use Rattle.worm_memory.specs.Memory.{at_step, device_of}
use Rattle.worm_memory.specs.Device.{memory_of}
use Rattle.worm_memory.proofs.Calls.{writes_done, writes_taken, writes_failed}
use Rattle.worm_memory.proofs.Blanks.{some_blank}
use Rattle.std.proofs.lemmas.Bool.{false_from_ne_true}
use Rattle.worm_memory.proofs.memory_device.MemoryDevice.finish_write.Goals as goal

pub returns-then-room-eq0-clause-writes : goal.returns-then-room-eq0-clause-writes
returns-then-room-eq0-clause-writes c = λ before step.
    let old = memory_of c.args.self.now in
    subst (λ m. Writes c.args.at c.args.value (at_step before (device_of old)) (device_of m) (Err c.fail.result))
    (sym c.fail.ensures.counted.0)
    (writes_failed old before c.args.at c.args.value c.fail.result step c.fail.ensures.fits)

pub returns-clause-writes : goal.returns-clause-writes
returns-clause-writes c = λ before step.
    let old = memory_of c.args.self.now in
    let free : (world old.changes).image c.args.at ≡ None = search rules in
    subst (λ m. Writes c.args.at c.args.value (at_step before (device_of old)) (device_of m) (Ok Done))
    (sym c.put.ensures.records.0) (writes_done old before c.args.at c.args.value
    (omega (arith, c.args.self.now.one_each)) step free)

pub returns-in-Some-clause-writes : goal.returns-in-Some-clause-writes
returns-in-Some-clause-writes c = λ before step.
    let old = memory_of c.args.self.now in
    let stands : (world old.changes).image c.args.at ≡ Some c.in-Some.found = search rules in
    writes_taken old before c.args.at c.args.value c.in-Some.found step stands

-- our own write is a put
pub put-requires-clause-is : goal.put-requires-clause-is
put-requires-clause-is c = ours

-- where the command goes by its plan there is room
pub fail-requires : goal.fail-requires
fail-requires c =
    let device = c.args.self.now in
    record {
      apart = false_from_ne_true device.by_plan (λ is.
          let one = some_blank device.cells.items c.args.at (omega (arith, c.requires.inside))
          (device.holds c.args.at ∙ sym c.found.ensures ∙ c.in_default.is) in
          omega (arith, one, device.roomy (device.backed is), c.if-room-eq0.true, c.room.ensures));
    }
