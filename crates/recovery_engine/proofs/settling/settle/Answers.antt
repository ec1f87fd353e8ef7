-- Each exit, from the looks before it. The states of the device are s0 at entry, s1 behind the sync, s2 behind the look
-- at cell 0, s3 behind the search for the end of the log, s4 behind the look at the last slot, s5 behind that at its
-- journal, and s6 at the end.
use Rattle.std.proofs.Common.{◌≡◌, ◌≤◌, ◌<◌, ◌+◌, ◌-◌, ℕ, refl, sym, ◌∙◌, subst, arith}
use Rattle.std.specs.Prelude.{IsTrue, IsOk, IfOk, Result, Ok}
use Rattle.worm_device.specs.Counts.{Rose}
use Rattle.commit_record.specs.LogEnds.{IsLogEnd}
use Rattle.volume_meaning.specs.Slots.{IsHorizon}
use Rattle.volume_meaning.proofs.Extending.{horizon_further}
use Rattle.recovery_engine.specs.Settling.{Settles, SettleEnds, LooksBriefly, NamesTarget}
use Rattle.recovery_engine.specs.declared.settling.Ready.{Ready}
use Rattle.recovery_engine.proofs.States.{of_pool}
use Rattle.cell_types.proofs.Passed.{handed}
use Rattle.cell_types.specs.Refusals.{refusal_of_fault}
use Rattle.cell_types.specs.declared.refusal.Refusal.{Refusal}
use Rattle.cell_types.specs.declared.refusal.Refusal.TheVariants.{DeviceFault}
use Rattle.commit_record.specs.Opening.{refusal_of}
use Rattle.cell_types.specs.declared.geometry.TheConstants.{MAX_SLOTS}
use Rattle.worm_device.proofs.Elapsing.{called_then}
use Rattle.worm_device.proofs.Images.{extends_then, unchanged_then}
use Rattle.recovery_engine.proofs.Phasing.{false_true}
use Rattle.recovery_engine.proofs.LastLooked.{LastLooked, ending_of, last_more, none_to_end, told}
use Rattle.recovery_engine.proofs.Looked.{Looked, none_ended, none_is, some_used, looked_sync, looked_more, refused_looked, settled_looked, settled_ended, sync_failed}
use Rattle.recovery_engine.proofs.Settled.{ready, unused_bounds, unused_ready, open_names, open_refused, last_names, last_refused}
use Rattle.recovery_engine.proofs.Licensed.{check_names, check_refused, end_names, end_refused, volume_later}
use Rattle.recovery_engine.specs.Ending.{HasJournal, end_phases, end_plan, step_of}
use Rattle.recovery_engine.specs.Putting.{PutsPhases}
use Rattle.worm_device.proofs.Counting.{still_first, still_second}
use Rattle.recovery_engine.proofs.settling.settle.Given.{Over}
use Rattle.recovery_engine.proofs.settling.settle.Goals.{After-open_device, After-log_end_of_device, After-check_slot, After-end_slot}
use Rattle.recovery_engine.proofs.settling.settle.Goals as goal

-- what has only looked so far, up to cell 0 and up to the end of the log
volume_looked : (g : Over) (c : After-open_device g)
    → Looked (g.D.Device.state c.args.device.now) (g.D.Device.state c.open_device.new.device)
volume_looked g c = looked_more _ _ _ (looked_sync _ _ c.in_ok-sync.ensures) c.open_device.ensures.called
    c.open_device.ensures.quiet

log_looked : (g : Over) (c : After-log_end_of_device g)
    → Looked (g.D.Device.state c.args.device.now) (g.D.Device.state c.log_end_of_device.new.device)
log_looked g c =
    let l1 = looked_sync _ _ c.in_ok-sync.ensures in
    let l2 = looked_more _ _ _ l1 c.open_device.ensures.called c.open_device.ensures.quiet in
    looked_more _ _ _ l2 c.log_end_of_device.ensures.called c.log_end_of_device.ensures.quiet

-- few cells were read until then
few_to_log : (g : Over) (c : After-log_end_of_device g) → (g.D.Device.state c.log_end_of_device.new.device).reads
    ≤ (g.D.Device.state c.args.device.now).reads + 27
few_to_log g c =
    omega (arith, c.in_ok-sync.ensures.count, c.open_device.ensures.reads, c.log_end_of_device.ensures.reads)

-- what is known of the last slot, when it was looked at
last_known : (g : Over) (c : After-check_slot g)
    → LastLooked c.in_ok-volume.volume.geometry (c.in_ok-log.log.horizon - 1) c.in_ok-state.state
    (g.D.Device.state c.args.device.now) (g.D.Device.state c.log_end_of_device.new.device)
    (g.D.Device.state c.last_slot_of_device.new.device)
last_known g c =
    let s0 = g.D.Device.state c.args.device.now in
    let s4 = g.D.Device.state c.last_slot_of_device.new.device in
    let layout = c.in_ok-volume.volume.geometry in
    let l1 = looked_sync _ _ c.in_ok-sync.ensures in
    let l2 = looked_more _ _ _ l1 c.open_device.ensures.called c.open_device.ensures.quiet in
    let l3 = looked_more _ _ _ l2 c.log_end_of_device.ensures.called c.log_end_of_device.ensures.quiet in
    let called = c.last_slot_of_device.ensures.called in
    let some = some_used c.in_ok-log.log.last c.in-Some.reserve c.in_ok-log.log.horizon c.in-Some.is
    c.in_ok-log.ensures.none in
    let next : c.in_ok-log.log.horizon ≡ (c.in_ok-log.log.horizon - 1) + 1 = omega (arith, some) in
    record {
      looked = looked_more _ _ _ l3 called c.last_slot_of_device.ensures.quiet;
      before = l3.called;
      since = called;
      quiet = c.last_slot_of_device.ensures.quiet;
      volume = λ tells. volume_later _ _ layout (called_then c.log_end_of_device.ensures.called called)
          (c.in_ok-volume.ensures.ends.4 (subst IsTrue (sym l1.called.tells) tells));
      horizon = λ tells.
          subst (λ (u : ℕ). IsHorizon layout s0.image s4.image u) next
          (horizon_further l2.called.image called.image
          (c.in_ok-log.ensures.horizon (subst IsTrue (sym l2.called.tells) tells)).horizon);
      last = λ tells. c.in_ok-state.ensures.ends.1 (subst IsTrue called.tells tells);
    }

-- and when its journal was
journal_known : (g : Over) (c : After-check_slot g)
    → LastLooked c.in_ok-volume.volume.geometry (c.in_ok-log.log.horizon - 1) c.in_ok-state.state
    (g.D.Device.state c.args.device.now) (g.D.Device.state c.log_end_of_device.new.device)
    (g.D.Device.state c.check_slot.new.device)
journal_known g c = last_more (last_known g c) _ c.check_slot.ensures.called c.check_slot.ensures.quiet

-- the journal was in order
journal_stands : (g : Over) (c : After-end_slot g) → let s5 = g.D.Device.state c.check_slot.new.device in
    IsTrue s5.tells → HasJournal c.in_ok-volume.volume.geometry c.in_ok-state.state s5.image
journal_stands g c tells = c.in_ok-check_slot.ensures.ends (subst IsTrue c.check_slot.ensures.called.tells tells)

-- few cells were read at the end, where nothing was to be ended
few_to_end : (g : Over) (c : After-end_slot g) → end_phases c.in_ok-state.state ≡ 0
    → (g.D.Device.state c.end_slot.new.device).reads ≤ (g.D.Device.state c.args.device.now).reads + 64
few_to_end g c none = omega (
  arith,
  c.in_ok-sync.ensures.count,
  c.open_device.ensures.reads,
  c.log_end_of_device.ensures.reads,
  c.last_slot_of_device.ensures.reads,
  c.check_slot.ensures.reads none,
  c.end_slot.ensures.reads none,
)

-- what came of ending the slot is what came of settling
slot_ended : (g : Over) (c : After-end_slot g) (result : Result Ready Refusal)
    → let s0 = g.D.Device.state c.args.device.now in
    let s3 = g.D.Device.state c.log_end_of_device.new.device in
    let s5 = g.D.Device.state c.check_slot.new.device in
    let s6 = g.D.Device.state c.end_slot.new.device in
    let n = c.in_ok-log.log.horizon - 1 in
    let state = c.in_ok-state.state in
    LastLooked c.in_ok-volume.volume.geometry n state s0 s3 s5
    → (IsOk result → PutsPhases (end_plan s5.image n state) (end_phases state) s5 s6 (Ok tt))
    → IfOk result (λ r. r.step ≡ step_of n state) → IfOk result (λ r. r.horizon ≡ n + 1)
    → (IsTrue s0.tells → NamesTarget s0 s6 result) → SettleEnds s0 s6 result → LooksBriefly s0 s6 result
    → Settles s0 s6 result
slot_ended g c result known okay step below targets ends reads =
    let s0 = g.D.Device.state c.args.device.now in
    let s5 = g.D.Device.state c.check_slot.new.device in
    let s6 = g.D.Device.state c.end_slot.new.device in
    let unfailed = c.in_ok-check_slot.ensures.unfailed refl ∙ c.in_ok-state.ensures.unfailed refl
    ∙ c.in_ok-log.ensures.unfailed refl ∙ c.in_ok-volume.ensures.ends.3 ∙ c.in_ok-sync.ensures.cause in
    let read : Rose s0.reads s5.reads = omega (
      arith,
      c.in_ok-sync.ensures.count,
      c.open_device.ensures.read,
      c.log_end_of_device.ensures.called.reads,
      known.since.reads,
    ) in
    settled_ended (c.in_ok-log.log.horizon - 1) s0 s5 s6 c.in_ok-state.state _ result known.looked unfailed read
    c.end_slot.ensures.phases (λ tells. ending_of known (journal_stands g c (told known tells)) tells)
    okay step below targets ends reads
    (λ tells settled still. few_to_end g c (none_to_end known tells settled
    (still_first known.looked.called.foreign_writes c.end_slot.ensures.phases.puts.called.foreign_writes still)))

pub returns-in_err-sync : goal.returns-in_err-sync
returns-in_err-sync g c =
    rw (handed c.from_residual.result DeviceFault c.from_residual.ensures.1)
    (sync_failed _ _ c.in_err-sync.field-0.0 c.in_err-sync.ensures)

pub returns-in_err-volume : goal.returns-in_err-volume
returns-in_err-volume g c =
    let s0 = g.D.Device.state c.args.device.now in
    let s1 = g.D.Device.state c.sync.new.self in
    let s2 = g.D.Device.state c.open_device.new.device in
    let fault = c.in_err-volume.field-0.0 in
    let l2 = volume_looked g (goal.at.returns-in_err-volume g c).After-open_device in
    rw (handed c.from_residual-in_err-volume.result (refusal_of fault) c.from_residual-in_err-volume.ensures.1)
    (refused_looked s0 s2 _ l2 (λ tells. open_names s0 s2 fault)
    (open_refused s0 s1 s2 fault (looked_sync s0 s1 c.in_ok-sync.ensures) l2 c.open_device.ensures.called
    c.in_err-volume.ensures.ends)
    (λ tells settled still. omega (arith, c.in_ok-sync.ensures.count, c.open_device.ensures.reads)))

pub returns-in_err-log : goal.returns-in_err-log
returns-in_err-log g c =
    let s2 = g.D.Device.state c.open_device.new.device in
    let s3 = g.D.Device.state c.log_end_of_device.new.device in
    let at = (goal.at.returns-in_err-log g c).After-log_end_of_device in
    let rose : Rose s2.faults s3.faults = c.in_err-log.ensures.cause refl in
    let l2 = volume_looked g (goal.at.returns-in_err-log g c).After-open_device in
    rw (handed c.from_residual-in_err-log.result DeviceFault c.from_residual-in_err-log.ensures.1)
    (refused_looked _ s3 _ (log_looked g at) (λ tells. tt) (omega (arith, rose, l2.called.faults))
    (λ tells settled still. omega (arith, few_to_log g at)))

pub returns-in_default : goal.returns-in_default
returns-in_default g c =
    let s0 = g.D.Device.state c.args.device.now in
    let s2 = g.D.Device.state c.open_device.new.device in
    let s3 = g.D.Device.state c.log_end_of_device.new.device in
    let at = (goal.at.returns-in_default g c).After-log_end_of_device in
    let l2 = volume_looked g (goal.at.returns-in_default g c).After-open_device in
    let l3 = log_looked g at in
    let called = c.log_end_of_device.ensures.called in
    let volume = c.in_ok-volume.volume in
    let opened = c.in_ok-volume.ensures.ends in
    let zero_is : c.in_ok-log.log.horizon ≡ 0 = c.in_ok-log.ensures.none.0 (none_is _ c.in_default.is) in
    subst (λ (r : Ready). Settles s0 s3 (Ok r)) (sym c.unused.ensures) (settled_looked s0 s3 _ l3
    (λ okay. c.in_ok-log.ensures.unfailed refl ∙ opened.3 ∙ c.in_ok-sync.ensures.cause)
    (λ okay. omega (arith, c.in_ok-sync.ensures.count, c.open_device.ensures.read, called.reads)) refl (λ tells. tt) (
      unused_bounds s3 volume opened.0 opened.1 (opened.2 ∙ sym called.cells),
      λ tells. unused_ready s0 s2 s3 volume l2.called called c.log_end_of_device.ensures.quiet
          (volume_later s2 s3 volume.geometry called
          (opened.4 (subst IsTrue (sym c.in_ok-sync.ensures.called.tells) tells)))
          (subst (λ (u : ℕ). IsLogEnd volume.geometry s2.image s3.image u) zero_is
          (c.in_ok-log.ensures.horizon (subst IsTrue (sym l2.called.tells) tells)))
          (l3.synced tells),
    ) (λ nothing. omega (arith, few_to_log g at)) (λ tells settled still. omega (arith, few_to_log g at)))

pub returns-in_err-state : goal.returns-in_err-state
returns-in_err-state g c =
    let s0 = g.D.Device.state c.args.device.now in
    let s3 = g.D.Device.state c.log_end_of_device.new.device in
    let s4 = g.D.Device.state c.last_slot_of_device.new.device in
    let at = (goal.at.returns-in_err-state g c).After-log_end_of_device in
    let l3 = log_looked g at in
    let called = c.last_slot_of_device.ensures.called in
    let l4 = looked_more s0 s3 s4 l3 called c.last_slot_of_device.ensures.quiet in
    let layout = c.in_ok-volume.volume.geometry in
    let n = c.in_ok-log.log.horizon - 1 in
    let fault = c.in_err-state.field-0.0 in
    rw (handed c.from_residual-in_err-state.result (refusal_of_fault fault) c.from_residual-in_err-state.ensures.1)
    (refused_looked s0 s4 _ l4
    (λ tells. last_names layout n s0 s3 s4 fault (subst IsTrue (sym l3.called.tells) tells)
    c.in_err-state.ensures.ends)
    (last_refused layout n s0 s3 s4 fault l3.called called l4.quiet
    (λ tells. volume_later _ s4 layout (called_then c.log_end_of_device.ensures.called called)
    (c.in_ok-volume.ensures.ends.4 (subst IsTrue (sym c.in_ok-sync.ensures.called.tells) tells)))
    c.in_err-state.ensures.ends)
    (λ tells settled still. omega (arith, few_to_log g at, c.last_slot_of_device.ensures.reads)))

pub returns-in_err-check_slot : goal.returns-in_err-check_slot
returns-in_err-check_slot g c =
    let s0 = g.D.Device.state c.args.device.now in
    let s3 = g.D.Device.state c.log_end_of_device.new.device in
    let s4 = g.D.Device.state c.last_slot_of_device.new.device in
    let s5 = g.D.Device.state c.check_slot.new.device in
    let at = goal.at.returns-in_err-check_slot g c in
    let known = last_known g at.After-check_slot in
    let called = c.check_slot.ensures.called in
    let layout = c.in_ok-volume.volume.geometry in
    let n = c.in_ok-log.log.horizon - 1 in
    let state = c.in_ok-state.state in
    let fault = c.in_err-check_slot.field-0.0 in
    rw (handed c.from_residual-in_err-check_slot.result (refusal_of_fault fault)
    c.from_residual-in_err-check_slot.ensures.1)
    (refused_looked s0 s5 _ (journal_known g at.After-check_slot).looked
    (λ tells. check_names layout n s0 s4 s5 state fault (told known tells) c.in_err-check_slot.ensures.ends)
    (check_refused layout n s0 s3 s4 s5 known.before known.since called known.looked.quiet known.quiet state fault
    c.check_slot.ensures.quiet known.volume known.last c.in_err-check_slot.ensures.ends)
    (λ tells settled still. omega (
      arith,
      few_to_log g at.After-log_end_of_device,
      c.last_slot_of_device.ensures.reads,
      c.check_slot.ensures.reads
          (none_to_end known tells settled
          (still_first known.looked.called.foreign_writes called.foreign_writes still)),
    )))

pub returns-in_err-end_slot : goal.returns-in_err-end_slot
returns-in_err-end_slot g c =
    let s0 = g.D.Device.state c.args.device.now in
    let s3 = g.D.Device.state c.log_end_of_device.new.device in
    let s5 = g.D.Device.state c.check_slot.new.device in
    let s6 = g.D.Device.state c.end_slot.new.device in
    let at = goal.at.returns-in_err-end_slot g c in
    let known = journal_known g at.After-check_slot in
    let called = c.end_slot.ensures.phases.puts.called in
    let layout = c.in_ok-volume.volume.geometry in
    let n = c.in_ok-log.log.horizon - 1 in
    let state = c.in_ok-state.state in
    let fault = c.in_err-end_slot.field-0.0 in
    let journal = journal_stands g at.After-end_slot in
    rw (handed c.from_residual-in_err-end_slot.result (refusal_of_fault fault)
    c.from_residual-in_err-end_slot.ensures.1)
    (slot_ended g at.After-end_slot _ known (λ okay. absurd (false_true okay)) tt tt
    (λ tells. end_names layout n s0 s3 s5 s6 known.before known.since called known.looked.quiet known.quiet state fault
    (known.volume tells) (told known tells) (known.last (told known tells)) (journal (told known tells))
    c.in_err-end_slot.ensures.phases)
    (end_refused layout n s0 s3 s5 s6 known.before known.since called known.looked.quiet known.quiet state fault
    known.volume known.last journal c.in_err-end_slot.ensures.phases) tt)

pub returns : goal.returns
returns g c =
    let s0 = g.D.Device.state c.args.device.now in
    let s2 = g.D.Device.state c.open_device.new.device in
    let s3 = g.D.Device.state c.log_end_of_device.new.device in
    let s5 = g.D.Device.state c.check_slot.new.device in
    let s6 = g.D.Device.state c.end_slot.new.device in
    let at = goal.at.returns g c in
    let known = journal_known g at.After-check_slot in
    let l2 = volume_looked g at.After-open_device in
    let c23 = c.log_end_of_device.ensures.called in
    let called = c.end_slot.ensures.phases.puts.called in
    let opened = c.in_ok-volume.ensures.ends in
    let layout = c.in_ok-volume.volume.geometry in
    let state = c.in_ok-state.state in
    let u = c.in_ok-log.log.horizon in
    let n = u - 1 in
    let some = some_used c.in_ok-log.log.last c.in-Some.reserve u c.in-Some.is c.in_ok-log.ensures.none in
    let next : u ≡ n + 1 = omega (arith, some) in
    let small : n < MAX_SLOTS = omega (arith, some, c.in_ok-log.ensures.within, opened.1.slots) in
    let cells_is = sym c.reservation.ensures ∙ c.in-Some-reservation.is in
    let within = of_pool layout state c.in-Some-reservation.cells c.in_ok-state.ensures.ends.0 cells_is in
    slot_ended g at.After-end_slot _ known (λ okay. c.in_ok-end_slot.ensures.phases) c.step_of.ensures next
    (λ tells. tt) (
      record {
        version = opened.0;
        layout = opened.1;
        size = opened.2 ∙ sym (called_then c23 (called_then known.since called)).cells;
        horizon = c.in_ok-log.ensures.within;
        from = omega (arith, within.1, c.end.ensures);
        to = omega (arith, within.2, c.end.ensures);
      },
      λ tells.
          let tells_5 = told known tells in
          ready layout n u c.in-Some-reservation.cells next small s0 s2 s3 s5 s6 l2.called c23 known.since called
          tells_5 _ state tt refl refl c.end.ensures (volume_later s5 s6 layout called (known.volume tells))
          (c.in_ok-log.ensures.horizon (subst IsTrue (sym l2.called.tells) tells)) (known.last tells_5) cells_is
          (journal_stands g at.After-end_slot tells_5)
          c.in_ok-end_slot.ensures.phases c.step_of.ensures
          (extends_then (known.looked.synced tells) called.sure)
          (λ still. unchanged_then
          (c.log_end_of_device.ensures.quiet (still_first c23.foreign_writes known.since.foreign_writes still))
          (known.quiet (still_second c23.foreign_writes known.since.foreign_writes still))),
    ) (λ nothing. few_to_end g at.After-end_slot (none_ended n state (sym c.step_of.ensures ∙ nothing)))
