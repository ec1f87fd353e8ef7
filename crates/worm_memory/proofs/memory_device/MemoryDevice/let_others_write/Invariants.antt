-- What others have written so far, and what is planned yet, is all that was planned.
use Rattle.std.proofs.Common.{◌≡◌, drop, false}
use Rattle.worm_memory.specs.Device.{memory_of, room_of}
use Rattle.worm_memory.specs.Outcomes.{goes_on, after_others}
use Rattle.worm_memory.proofs.memory_device.MemoryDevice.let_others_write.Given as goal

abbrev pub invariant-loop-place : goal.invariant-loop-place
invariant-loop-place l = record {
  others : after_others l.is_step (drop l.place (memory_of l.fn.self).plan.foreign)
      (goes_on (memory_of l.self) (room_of l.self))
      ≡ after_others l.is_step (memory_of l.fn.self).plan.foreign (goes_on (memory_of l.fn.self) (room_of l.fn.self));
  plan : (memory_of l.self).plan ≡ (memory_of l.fn.self).plan;
  cells : (memory_of l.self).cells ≡ (memory_of l.fn.self).cells;
  ample : l.self.ample ≡ l.fn.self.ample;
  apart : l.self.by_plan ≡ false;
}
