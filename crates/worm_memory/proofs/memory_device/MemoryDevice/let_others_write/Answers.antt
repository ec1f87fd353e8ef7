-- One more foreign write, made or failed.
use Rattle.std.proofs.Common.{◌≡◌, ◌+◌, drop, false, Some, None, refl, ap, sym, ◌∙◌}
use Rattle.std.specs.List.{slice_get}
use Rattle.worm_memory.specs.Device.{memory_of, outcome, room_of}
use Rattle.worm_memory.specs.Outcomes.{after_others}
use Rattle.worm_memory.specs.Plans.{CommandPlan}
use Rattle.worm_memory.specs.declared.memory_device.MemoryDevice.{MemoryDevice}
use Rattle.worm_memory.proofs.Others.{next_others, no_others, past_others}
use Rattle.worm_memory.proofs.memory_device.MemoryDevice.let_others_write.Goals as goal
use Rattle.worm_memory.proofs.memory_device.MemoryDevice.let_others_write.Goals.{in-Some+in_ok-write_planned, in_default}

pub returns-in_err-write_planned-clause-others : goal.returns-in_err-write_planned-clause-others
returns-in_err-write_planned-clause-others c =
    let planned = c.args.self.now.schedule.foreign.items in
    let here : slice_get planned c.loop-place.place ≡ Some c.in-Some.timed =
    ap (λ (plan : CommandPlan). slice_get plan.foreign c.loop-place.place) (sym c.loop-place.invariant.plan)
    ∙ sym c.planned.ensures ∙ c.in-Some.is in
    let one = next_others c.args.is_step planned c.loop-place.place c.in-Some.timed (memory_of c.loop-place.self)
    (room_of c.loop-place.self) here in
    let rest = drop (c.loop-place.place + 1) planned in
    ap (λ b. outcome c.write_planned.new.self b) c.from_residual.ensures.0
    ∙ sym (no_others c.args.is_step rest _ refl)
    ∙ ap (after_others c.args.is_step rest) c.in_err-write_planned.ensures.writes
    ∙ sym one ∙ c.loop-place.invariant.others

pub loop-place-preserved : goal.loop-place-preserved
loop-place-preserved c = elim c.match-planned.branch [
  | in-Some+in_ok-write_planned w ↦
      let planned = c.args.self.now.schedule.foreign.items in
      let here : slice_get planned c.loop-place.place ≡ Some w.in-Some.timed =
      ap (λ (plan : CommandPlan). slice_get plan.foreign c.loop-place.place) (sym c.loop-place.invariant.plan)
      ∙ sym c.planned.ensures ∙ w.in-Some.is in
      let one = next_others c.args.is_step planned c.loop-place.place w.in-Some.timed (memory_of c.loop-place.self)
      (room_of c.loop-place.self) here in
      let rest = drop (c.loop-place.place + 1) planned in
      record {
        others = ap (λ (device : MemoryDevice). after_others c.args.is_step rest (outcome device false)) w.self-is
            ∙ ap (after_others c.args.is_step rest) w.in_ok-write_planned.ensures.writes
            ∙ sym one ∙ c.loop-place.invariant.others;
        plan = ap (λ (device : MemoryDevice). (memory_of device).plan) w.self-is ∙ w.write_planned.ensures.plan
            ∙ c.loop-place.invariant.plan;
        cells = ap (λ (device : MemoryDevice). (memory_of device).cells) w.self-is ∙ w.write_planned.ensures.cells
            ∙ c.loop-place.invariant.cells;
        ample = ap (λ (device : MemoryDevice). device.ample) w.self-is ∙ w.write_planned.ensures.ample
            ∙ c.loop-place.invariant.ample;
        apart = ap (λ (device : MemoryDevice). device.by_plan) w.self-is ∙ w.write_planned.ensures.apart;
      }
  | in_default w ↦
      let planned = c.args.self.now.schedule.foreign.items in
      let here : slice_get planned c.loop-place.place ≡ None =
      ap (λ (plan : CommandPlan). slice_get plan.foreign c.loop-place.place) (sym c.loop-place.invariant.plan)
      ∙ sym c.planned.ensures ∙ w.in_default.is in
      record {
        others = ap (λ (device : MemoryDevice). after_others c.args.is_step (drop (c.loop-place.place + 1) planned)
            (outcome device false)) w.self-is
            ∙ past_others c.args.is_step planned c.loop-place.place _ here ∙ c.loop-place.invariant.others;
        plan = ap (λ (device : MemoryDevice). (memory_of device).plan) w.self-is ∙ c.loop-place.invariant.plan;
        cells = ap (λ (device : MemoryDevice). (memory_of device).cells) w.self-is ∙ c.loop-place.invariant.cells;
        ample = ap (λ (device : MemoryDevice). device.ample) w.self-is ∙ c.loop-place.invariant.ample;
        apart = ap (λ (device : MemoryDevice). device.by_plan) w.self-is ∙ c.loop-place.invariant.apart;
      }
]
