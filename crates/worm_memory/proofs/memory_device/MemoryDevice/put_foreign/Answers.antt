-- A foreign write into a blank cell, done or failed.
use Rattle.std.proofs.Common.{◌∙◌, sym, subst, arith}
use Rattle.std.proofs.lemmas.Bool.{false_from_ne_true}
use Rattle.worm_memory.specs.Memory.{device_of}
use Rattle.worm_memory.specs.Device.{memory_of, ForeignWrites}
use Rattle.worm_memory.specs.Worlds.{theirs}
use Rattle.worm_memory.proofs.Calls.{foreign_done, foreign_failed}
use Rattle.worm_memory.proofs.Blanks.{some_blank}
use Rattle.worm_memory.proofs.memory_device.MemoryDevice.put_foreign.Goals as goal

pub returns-then-room-eq0-clause-called : goal.returns-then-room-eq0-clause-called
returns-then-room-eq0-clause-called c =
    let old = memory_of c.args.self.now in
    subst (λ m. ForeignWrites (device_of old) (device_of m)) (sym c.fail.ensures.counted.0)
    (foreign_failed old c.fail.ensures.fits)

pub returns-then-room-eq0-clause-room : goal.returns-then-room-eq0-clause-room
returns-then-room-eq0-clause-room c = λ failed.
    let device = c.args.self.now in
    false_from_ne_true device.ample (λ is.
    let one = some_blank device.cells.items c.args.at (omega (arith, c.requires.inside))
    (device.holds c.args.at ∙ c.requires.free) in
    omega (arith, one, device.roomy is, c.if-room-eq0.true, c.room.ensures))

pub returns-clause-called : goal.returns-clause-called
returns-clause-called c =
    let old = memory_of c.args.self.now in
    subst (λ m. ForeignWrites (device_of old) (device_of m)) (sym c.put.ensures.records.0)
    (foreign_done old c.args.at c.args.value c.put.ensures.fits
    (omega (arith, c.args.self.now.one_each)))

-- somebody else's write is a put
pub put-requires-clause-is : goal.put-requires-clause-is
put-requires-clause-is c = theirs
