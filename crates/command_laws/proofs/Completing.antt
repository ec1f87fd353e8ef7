-- Where all is as it is to be, a command over a device ends with no refusal but want of memory, or that no document has
-- the identifier.
use Rattle.std.proofs.Common.{◌≡◌, ◌≤◌, ◌+◌, ℕ, List, length, Option, Err, refl, sym, ap, ◌∙◌, subst, arith}
use Rattle.std.specs.Global.{Vec}
use Rattle.std.specs.Prelude.{IsTrue}
use Rattle.std.proofs.lemmas.Option.{none-some}
use Rattle.cell_types.specs.Image.{Image}
use Rattle.cell_types.specs.Layout.{Layout, reserve_at}
use Rattle.cell_types.specs.declared.refusal.Evidence.{Evidence}
use Rattle.cell_types.specs.declared.refusal.Refusal.{Refusal}
use Rattle.cell_types.specs.declared.refusal.Refusal.TheVariants as refusals
use Rattle.host_ports.specs.Sinks.{SinkState}
use Rattle.volume_meaning.specs.Documents.{Stands}
use Rattle.volume_meaning.specs.Slots.{IsEdge, IsHorizon, IsStampFor}
use Rattle.volume_meaning.specs.Volumes.{IsVolume}
use Rattle.volume_meaning.proofs.Extending.{volume_on, written_on}
use Rattle.tamper_rules.specs.Settling.{IsSettled}
use Rattle.tamper_rules.proofs.GivenUp.{one_layout}
use Rattle.tamper_rules.proofs.Settled.{taken_to}
use Rattle.volume_meaning.specs.Postings.{AreTags}
use Rattle.volume_meaning.proofs.Tags.{tags_one}
use Rattle.ingest_laws.specs.Needs.{IsNeed}
use Rattle.worm_device.specs.Calls.{Called}
use Rattle.worm_device.specs.Counts.{IsStill}
use Rattle.worm_device.specs.State.{DeviceState, IsDevice}
use Rattle.worm_device.proofs.Counting.{rose_or_still, still_first, still_second}
use Rattle.commit_record.specs.Licences.{IsLicensed}
use Rattle.document_store.proofs.Holding.{held_stands}
use Rattle.recovery_engine.specs.Settling.{HasSettled, IsSettlingRule, Settles, SettlesFirst}
use Rattle.recovery_engine.specs.declared.settling.Ready.{Ready}
use Rattle.crash_laws.proofs.SettlingAlarms.{looked_unbroken, settling_named}
use Rattle.crash_laws.proofs.LookedAt.{looked_ends}
use Rattle.crash_laws.proofs.WellPlanned as planned
use Rattle.identifier_lookup.specs.Walks.{IsPassedWhole}
use Rattle.plan_writer.proofs.PutFrom.{volume_2}
use Rattle.ingest_engine.specs.Formats.{FormatEnds}
use Rattle.jump_insertion.specs.Evidence.{IsPastStamps}
use Rattle.ingest_plan.specs.Planning.{IsLater}
use Rattle.ingest_engine.specs.Ingesting.{HasFullPath, HasLaterStamp, HasNoRoom, HasNoSlot, HasFreeSlot, IngestEnds, IsIngestEvidence, IsIdentifierTaken, IsTooMany, CheckStampEnds, TakesNoSuchStamp, among_stamps, behind_path, by_plan, by_settling, on_path}
use Rattle.ingest_engine.specs.Stamps.{IsStampBelow}
use Rattle.ingest_engine.proofs.Named.{is_horizon, slot_still}
use Rattle.ingest_engine.proofs.CrashedIngests.{ready_layout, settled_unused}
use Rattle.record_query.specs.Finding.{FindEnds}
use Rattle.record_query.specs.LookingUp.{LookUpEnds}
use Rattle.record_query.specs.declared.found.Found.{Found}
use Rattle.record_query.specs.declared.found.Match.{Match}
use Rattle.volume_audit.specs.Audits.{SettlesThenAudits}
use Rattle.volume_audit.proofs.Comes.{licensed, refuses, settles_first}
use Rattle.command_laws.specs.Begins.{BeginsSteady}
use Rattle.command_laws.specs.Completing.{BeginsBlank, HasPlaceFor}
use Rattle.command_laws.specs.WholeLogs.{HasSteadyVolume, HasWholeLog}
use Rattle.command_laws.proofs.Alarms.{query_alarms, settling_alarms}
use Rattle.command_laws.proofs.WholeLogs.{no_blank_cell, no_other_cell, no_other_size, settles_whole, settling_steady}

-- where a slot is unused, a settled volume has one
module _ {id : List ℕ} {stamp : Option ℕ} {body : List ℕ} {g : Layout} {slot : ℕ} {old new : DeviceState}
    (begins : BeginsSteady old new) (place : HasPlaceFor id stamp body g slot old) (device : IsDevice old)
    (device_new : IsDevice new) where
  cells_new : {r : Ready} → HasSettled old new r → new.cells ≡ old.cells
  cells_new h = h.looked.cells ∙ h.settles.called.cells

  layout : (r : Ready) → HasSettled old new r → r.volume.geometry ≡ g
  layout r h = (ready_layout old new r g h begins.tells place.volume).0

  -- what stands behind looks is what settling makes of the image
  stands_as : (r : Ready) → HasSettled old new r → new.image ≡ place.sound.after
  stands_as r h = (looked_ends old new r begins.tells h begins.alone device_new.sure
      place.sound).image

  -- the volume takes such a stamp
  takes : (r : Ready) → HasSettled old new r → IsStampFor r.volume.geometry stamp
  takes r h = subst (λ (l : Layout). IsStampFor l stamp) (sym (layout r h)) place.takes

  no_such_stamp : (refusal : Refusal) → TakesNoSuchStamp stamp old new refusal → ⊥
  no_such_stamp refusal h = by_end refusal h.ends (takes h.ready h.settled)
    where
      by_end : (refusal : Refusal) → CheckStampEnds h.ready stamp (Err refusal)
          → IsStampFor h.ready.volume.geometry stamp → ⊥
      by_end refusals.StampNeeded ends takes =
          omega (arith, ends.0, subst (λ (s : Option ℕ). IsStampFor h.ready.volume.geometry s) ends.1 takes)
      by_end refusals.StampUnused ends takes =
          omega (arith, ends.0, subst (λ (s : Option ℕ). IsStampFor h.ready.volume.geometry s) ends.1.1 takes)
      by_end refusal ends takes = ends

  -- and the stamp is past the others
  is_later : (given last : ℕ) → HasLaterStamp stamp given last old new → ⊥
  is_later given last h =
      let has = h.settled.settled in
      let one = layout h.ready has in
      let same = stands_as h.ready has in
      let horizon = is_horizon h.ready has begins.tells begins.alone in
      let later = place.later h.ready.horizon
      (subst (λ (l : Layout). IsHorizon l place.sound.after place.sound.after h.ready.horizon) one
      (subst (λ (i : Image). IsHorizon h.ready.volume.geometry i i h.ready.horizon) same horizon)) in
      let past : IsPastStamps g place.sound.after h.ready.horizon given =
      subst (λ (s : Option ℕ). IsLater g place.sound.after h.ready.horizon s) h.early.given_is later in
      let found : IsStampBelow g place.sound.after h.ready.horizon last =
      subst (λ (l : Layout). IsStampBelow l place.sound.after h.ready.horizon last) one
      (subst (λ (i : Image). IsStampBelow h.ready.volume.geometry i h.ready.horizon last) same
      (h.early.stands (subst IsTrue (sym has.settles.called.tells) begins.tells))) in
      omega (arith, past found.slot last found.below found.done found.stamp, h.early.early)

  not_full : HasNoSlot stamp old new → ⊥
  not_full h =
      let has = h.settled in
      let still = still_first has.settles.called.foreign_writes has.looked.foreign_writes begins.alone in
      let unused = settled_unused g slot old place.volume place.unused has.settles begins.tells still in
      let ends = has.settles.ends.1 begins.tells in
      let full : h.ready.horizon ≡ g.slots = h.taken ∙ ap (λ (l : Layout). l.slots) (layout h.ready has) in
      let after = place.sound.after in
      let same : place.sound.settled.layout ≡ g =
      one_layout {cells = old.cells} {more = new.cells} place.sound.settled.layout
      h.ready.volume.geometry place.sound.settled.volume
      (subst (λ (i : Image). IsVolume new.cells i h.ready.volume.geometry) (stands_as h.ready has)
      (volume_2 h.ready has begins.tells)) ∙ layout h.ready has in
      let whole : IsSettled g new.image = subst (IsSettled g) (sym (stands_as h.ready has))
      (subst (λ (l : Layout). IsSettled l after) same place.sound.settled.settled) in
      let taken = taken_to g new.image whole g.slots (record {
        most = omega arith;
        below = λ m is. written_on has.looked.image (ends.horizon.below m (full ∙ is));
        free = λ less. absurd (omega (arith, less));
      }) slot place.unused.slot in
      let stood = has.quiet (still_second has.settles.called.foreign_writes has.looked.foreign_writes begins.alone)
      (reserve_at slot) in
      none-some taken.found (sym (stood ∙ unused.reserve) ∙ taken.stands)

  -- no document has the identifier
  not_taken : (n : ℕ) → IsIdentifierTaken id stamp n old new → ⊥
  not_taken n h =
      let has = h.settled.settled in
      let held = h.holds begins.tells in
      let stands : Stands new.cells new.image n id held.body =
      held_stands h.ready.volume.geometry new.cells new.image n id held.body
      (volume_2 h.ready has begins.tells) held.holds in
      place.fresh n held.body
      (subst (λ (c : ℕ). Stands c place.sound.after n id held.body) (cells_new has)
      (subst (λ (i : Image). Stands new.cells i n id held.body) (stands_as h.ready has) stands))

  -- its path is not full
  path_open : HasFullPath id stamp old new → ⊥
  path_open h =
      let has = h.settled.settled in
      place.path
      (subst (λ (l : Layout). IsPassedWhole l old.cells place.sound.after id) (layout h.ready has)
      (subst (λ (c : ℕ). IsPassedWhole h.ready.volume.geometry c place.sound.after id) (cells_new has)
      (subst (λ (i : Image). IsPassedWhole h.ready.volume.geometry new.cells i id) (stands_as h.ready has)
      (h.passed begins.tells))))

  -- no list gets too many of the body's tags
  few : (list count : ℕ) → IsTooMany id stamp body list count old new → ⊥
  few list count h =
      let many = h.ends.many in
      let lists = ap (λ (l : Layout). l.lists) (layout h.ready h.settled.settled) in
      let t = place.postings.each list (omega (arith, many.below, lists)) in
      let same : many.tags ≡ t.0 =
      tags_one g body list many.tags t.0
      (subst (λ (l : Layout). AreTags l body list many.tags) (layout h.ready h.settled.settled) many.are) t.1 in
      omega (arith, ap length same, many.number, many.many, t.2)

  -- there is room for the need
  fits : (need free : ℕ) → HasNoRoom id stamp body need free old new → ⊥
  fits need free h =
      let has = h.settled.settled in
      let same = stands_as h.ready has in
      let one = layout h.ready has in
      let horizon = planned.horizon_now old new h.ready begins.tells has begins.alone device
      device_new begins.steady id stamp body h.settled.takes h.index h.settled.slot h.has in
      let edge = planned.edge_now old new h.ready begins.tells has begins.alone device
      device_new begins.steady id stamp body h.settled.takes h.index h.settled.slot h.has in
      let need_now : IsNeed h.ready.volume.geometry new.image h.ready.horizon id body stamp need =
      subst (λ (n : ℕ). IsNeed h.ready.volume.geometry new.image h.ready.horizon id body stamp n) (sym h.need_is)
      (planned.need old new h.ready begins.tells has begins.alone device device_new
      begins.steady id stamp body h.settled.takes h.index h.settled.slot h.has) in
      let room : h.ready.edge + need ≤ g.cells = place.room h.ready.horizon h.ready.edge need
      (subst (λ (l : Layout). IsHorizon l place.sound.after place.sound.after h.ready.horizon) one
      (subst (λ (i : Image). IsHorizon h.ready.volume.geometry i i h.ready.horizon) same horizon))
      (subst (λ (l : Layout). IsEdge l place.sound.after place.sound.after h.ready.edge) one
      (subst (λ (i : Image). IsEdge h.ready.volume.geometry i i h.ready.edge) same edge))
      (subst (λ (l : Layout). IsNeed l place.sound.after h.ready.horizon id body stamp need) one
      (subst (λ (i : Image). IsNeed h.ready.volume.geometry i h.ready.horizon id body stamp need) same need_now)) in
      omega (arith, room, h.free_is, h.less, ap (λ (l : Layout). l.cells) one)

  -- once the volume is settled no rule is broken in what stands
  behind_unbroken : {e : Evidence} (r : Ready) → HasFreeSlot stamp old new r → IsLicensed old new e → ⊥
  behind_unbroken {e} r slot licensed =
      looked_unbroken old new r e.rule e.cell device device_new begins.tells slot.settled
      begins.alone begins.steady (licensed.broken begins.alone)

  -- no tampering is named
  untouched : (e : Evidence) → IsIngestEvidence id stamp body old new e → ⊥
  untouched e (by_settling settles found) = settling_named old new e device begins.tells settles
      begins.alone begins.steady
  untouched e (by_plan way) = behind_unbroken way.ready (slot_still way begins.alone) way.found.licensed
  untouched e (among_stamps r slot given rule licensed) = behind_unbroken r slot licensed
  untouched e (on_path r slot past rule lies licensed) = behind_unbroken r slot licensed
  untouched e (behind_path r slot past growth licensed) = behind_unbroken r slot licensed

  volume_now : (called : Called old new) → IsVolume new.cells new.image g
  volume_now called = subst (λ (c : ℕ). IsVolume c new.image g) (sym called.cells)
      (volume_on called.image place.volume)

  -- the engine ends with no refusal but want of memory
  pub ingests_whole : (called : Called old new) → IsStill old.faults new.faults → (refusal : Refusal)
      → IngestEnds id stamp body old new (Err refusal) → refusal ≡ refusals.NoMemory
  ingests_whole called no_fault refusals.NoMemory ends = refl
  ingests_whole called no_fault refusals.DeviceFault ends = absurd (rose_or_still _ _ ends no_fault)
  ingests_whole called no_fault (refusals.Tampered e) ends = absurd (untouched e (ends begins.tells))
  ingests_whole called no_fault refusals.StampNeeded ends = absurd (no_such_stamp refusals.StampNeeded ends)
  ingests_whole called no_fault refusals.StampUnused ends = absurd (no_such_stamp refusals.StampUnused ends)
  ingests_whole called no_fault (refusals.StampTooEarly given last) ends = absurd (is_later given last ends)
  ingests_whole called no_fault refusals.SlotsFull ends = absurd (not_full ends)
  ingests_whole called no_fault (refusals.Duplicate n) ends = absurd (not_taken n ends)
  ingests_whole called no_fault refusals.PathFull ends = absurd (path_open ends)
  ingests_whole called no_fault (refusals.TooManyTerms list count) ends = absurd (few list count ends)
  ingests_whole called no_fault (refusals.Full need free) ends = absurd (fits need free ends)
  ingests_whole called no_fault refusals.NotFormatted ends =
      absurd (no_blank_cell place.volume (ends begins.tells))
  ingests_whole called no_fault (refusals.NotAVolume found) ends =
      let is = ends begins.tells in absurd (no_other_cell (volume_now called) found is.0 is.1)
  ingests_whole called no_fault (refusals.WrongSize stated real) ends =
      let is = ends.2 begins.tells in
      absurd (ends.1 (no_other_size (volume_now called) is.0 stated is.1 is.2 ∙ sym ends.0))
  ingests_whole called no_fault refusal ends = absurd ends

-- on a steady volume
module _ {g : Layout} {old new : DeviceState} (log : HasSteadyVolume g old new) (device : IsDevice old)
    (device_new : IsDevice new) (called : Called old new) where
  settling : HasWholeLog IsSettlingRule g old new
  settling = settling_steady log

  -- settling ends with no refusal
  pub steady_settles : (refusal : Refusal) → Settles old new (Err refusal) → ⊥
  steady_settles refusal settles = settles_whole settling called refusal
      (λ e same steady. settling_alarms old new device log.tells log.alone steady refusal e settles same) settles.ends

  -- a find with none but want of memory
  pub searches_whole : (terms : List (List ℕ)) (refusal : Refusal) → SettlesFirst (Vec Match) old new (Err refusal)
      → FindEnds terms old new (Err refusal) → refusal ≡ refusals.NoMemory
  searches_whole terms refusals.NoMemory comes ends = refl
  searches_whole terms refusals.DeviceFault comes ends = absurd (rose_or_still _ _ ends log.no_fault)
  searches_whole terms (refusals.Tampered e) comes ends =
      absurd (query_alarms old new device log.tells log.alone log.is device_new comes e refl (ends log.tells))
  searches_whole terms refusals.NotFormatted comes ends =
      absurd (settles_whole settling called refusals.NotFormatted (λ e same. absurd cc) ends)
  searches_whole terms (refusals.NotAVolume found) comes ends =
      absurd (settles_whole settling called (refusals.NotAVolume found) (λ e same. absurd cc) ends)
  searches_whole terms (refusals.WrongSize stated real) comes ends =
      absurd (settles_whole settling called (refusals.WrongSize stated real) (λ e same. absurd cc) ends)
  searches_whole terms refusal comes ends = absurd ends

  -- a look-up with none but that no document has the identifier
  pub looks_whole : (id : List ℕ) (from to : SinkState) (refusal : Refusal) → SettlesFirst Found old new (Err refusal)
      → (refusal ≡ refusals.SinkFault → ⊥) → LookUpEnds id old new from to (Err refusal) → refusal ≡ refusals.Absent
  looks_whole id from to refusals.Absent comes sink ends = refl
  looks_whole id from to refusals.DeviceFault comes sink ends = absurd (rose_or_still _ _ ends.0 log.no_fault)
  looks_whole id from to refusals.SinkFault comes sink ends = absurd (sink refl)
  looks_whole id from to (refusals.Tampered e) comes sink ends =
      absurd (query_alarms old new device log.tells log.alone log.is device_new comes e refl (ends.1 log.tells).1)
  looks_whole id from to refusals.NotFormatted comes sink ends =
      absurd (settles_whole settling called refusals.NotFormatted (λ e same. absurd cc) ends.1)
  looks_whole id from to (refusals.NotAVolume found) comes sink ends =
      absurd (settles_whole settling called (refusals.NotAVolume found) (λ e same. absurd cc) ends.1)
  looks_whole id from to (refusals.WrongSize stated real) comes sink ends =
      absurd (settles_whole settling called (refusals.WrongSize stated real) (λ e same. absurd cc) ends.1)
  looks_whole id from to refusal comes sink ends = absurd ends

  -- an audit with none but want of memory
  pub audits_whole : (refusal : Refusal) → SettlesThenAudits old new (Err refusal) → refusal ≡ refusals.NoMemory
  audits_whole refusals.NoMemory comes = refl
  audits_whole (refusals.Tampered e) comes = absurd (query_alarms old new device log.tells log.alone log.is device_new
      (settles_first comes) e refl (licensed e comes log.tells))
  audits_whole refusals.DeviceFault comes = absurd (refuses refusals.DeviceFault comes
      (λ ends. rose_or_still _ _ ends log.no_fault) (λ ends. rose_or_still _ _ ends log.no_fault))
  audits_whole refusals.NotFormatted comes = absurd (refuses refusals.NotFormatted comes
      (λ ends. settles_whole settling called refusals.NotFormatted (λ e same. absurd cc) ends)
      (λ ends. ends log.tells))
  audits_whole (refusals.NotAVolume found) comes = absurd (refuses (refusals.NotAVolume found) comes
      (λ ends. settles_whole settling called (refusals.NotAVolume found) (λ e same. absurd cc) ends)
      (λ ends. ends log.tells))
  audits_whole (refusals.WrongSize stated real) comes = absurd (refuses (refusals.WrongSize stated real) comes
      (λ ends. settles_whole settling called (refusals.WrongSize stated real) (λ e same. absurd cc) ends)
      (λ ends. ends log.tells))
  audits_whole refusal comes = absurd (refuses refusal comes (λ ends. ends) (λ ends. ends))

-- a format of a blank device with room is not refused
pub formats_whole : (g : Layout) (old new : DeviceState) → BeginsBlank g old new → IsStill old.faults new.faults
    → (refusal : Refusal) → FormatEnds g old new (Err refusal) → ⊥
formats_whole g old new begins no_fault refusals.DeviceFault ends = rose_or_still _ _ ends.1 no_fault
formats_whole g old new begins no_fault refusals.TooSmall ends = ends.0 begins.layout
formats_whole g old new begins no_fault (refusals.NotBlank at) ends =
    let least = ends.1 begins.tells in
    none-some least.found (sym (begins.blank at) ∙ least.stood begins.alone)
formats_whole g old new begins no_fault refusal ends = ends
