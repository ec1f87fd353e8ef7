-- What is known of a volume that was audited, and whose slots were asked.
use Rattle.std.proofs.Common.{◌≡◌, ◌<◌, ◌+◌, ◌⊎◌, ◌∙◌, ℕ, zero, suc, List, [], ◌∷◌, Some, Ok, Err, ⊎_elim, refl, sym, ap, subst, arith}
use Rattle.std.specs.Prelude.{Contains, IsTrue}
use Rattle.std.specs.Global.{Vec}
use Rattle.std.proofs.lemmas.Bool.{cases_order}
use Rattle.std.proofs.lemmas.Option.{none-some}
use Rattle.cell_types.specs.Image.{Extends, Image}
use Rattle.cell_types.specs.Layout.{Layout, reserve_at}
use Rattle.cell_types.specs.declared.refusal.Refusal.{Refusal}
use Rattle.cell_types.specs.declared.refusal.Refusal.TheVariants.{DeviceFault, NoMemory, Tampered}
use Rattle.volume_meaning.specs.Documents.{AreDocuments, Document, IsDocument, Rise, Stands}
use Rattle.volume_meaning.specs.Slots.{IsDoneSlot, IsHorizon, Reserves}
use Rattle.volume_meaning.specs.Volumes.{IsVolume, IsWritten}
use Rattle.volume_meaning.proofs.Extending.{done_slot_on, volume_on}
use Rattle.volume_meaning.proofs.Lists.{Rising, one_list}
use Rattle.tamper_rules.specs.Settling.{IsSettled, Settled, Sound, nothing}
use Rattle.tamper_rules.proofs.DocumentLists.{done_stands}
use Rattle.tamper_rules.proofs.GivenUp.{one_layout}
use Rattle.tamper_rules.proofs.Images.{same_both, same_image}
use Rattle.tamper_rules.proofs.Settled.{taken_below, written}
use Rattle.worm_device.specs.Calls.{Called}
use Rattle.worm_device.specs.Counts.{IsStill}
use Rattle.worm_device.specs.State.{DeviceState, IsDevice}
use Rattle.worm_device.proofs.Counting.{still_first, still_second}
use Rattle.worm_device.proofs.Elapsing.{called_then}
use Rattle.worm_device.proofs.Images.{extends_self, extends_then}
use Rattle.recovery_engine.specs.Settling.{Settles}
use Rattle.recovery_engine.specs.declared.settling.Ready.{Ready}
use Rattle.crash_laws.specs.SettlingSteadiness.{EndsAs}
use Rattle.crash_laws.proofs.EndedAs.{settling_ends}
use Rattle.crash_laws.proofs.LookedAt.{looked_ends}
use Rattle.volume_audit.specs.Audits.{Audits, SettlesThenAudits, settled, settling}
use Rattle.volume_audit.specs.Reports.{IsSound}
use Rattle.volume_audit.specs.declared.report.AuditReport.{AuditReport}
use Rattle.volume_copy.specs.Auditing.{HasAudited, IsWholeVolume, RefusesVolume, by_audit, by_reading, by_settling}
use Rattle.volume_copy.specs.Pairs.{slots_of}
use Rattle.volume_copy.specs.Reading.{IsOnlyRead, ReadingFails, RiseFrom, part_slots}
use Rattle.document_store.specs.declared.part.Part.{Part}
use Rattle.volume_copy.specs.Walking.{AreDoneBelow, RiseBelow, CopyWalkEnds}

-- a document that stands in a settled volume is one of its documents
pub stands_among : (cells : ℕ) (image : Image) → Settled cells image → (documents : List Document)
    → AreDocuments cells image documents → (n : ℕ) (id body : List ℕ) → Stands cells image n id body
    → Contains documents (record { slot = n; id = id; body = body })
stands_among cells image whole documents are n id body stands =
    let one : stands.layout ≡ whole.layout =
    one_layout {cells = cells} {more = cells} stands.layout whole.layout stands.volume whole.volume in
    (are.each (record { slot = n; id = id; body = body })).0 (record {
      stands = stands;
      taken = taken_below whole.layout image whole.settled n
          (subst (λ (h : Layout). n < h.slots) one stands.slot) (written stands.done.commits.reserves);
    })

-- the slots of documents rise
slots_rise : (from : ℕ) (ds : List Document) → Rise from ds → Rising (λ (n : ℕ). n) from (slots_of ds)
slots_rise from [] rise = tt
slots_rise from (d ∷ ds) rise = (rise.0, slots_rise (d.slot + 1) ds rise.1)

numbers_rise : (from : ℕ) (ns : List ℕ) → RiseFrom from ns → Rising (λ (n : ℕ). n) from ns
numbers_rise from [] rise = tt
numbers_rise from (n ∷ ns) rise = (rise.0, numbers_rise (n + 1) ns rise.1)

-- a document has its slot among them
slot_in : (ds : List Document) (d : Document) → Contains ds d → Contains (slots_of ds) d.slot
slot_in [] d (k, low, is) = absurd (omega (arith, low))
slot_in (e ∷ ds) d (zero, low, is) = (zero, omega arith, ap (λ (x : Document). x.slot) is)
slot_in (e ∷ ds) d (suc k, low, is) =
    let rest = slot_in ds d (k, omega (arith, low), is) in (suc rest.0, omega (arith, rest.1), rest.2)

-- and each slot among them is that of a document
of_slot : (ds : List Document) (n : ℕ) → Contains (slots_of ds) n → (d : Document) × Contains ds d × (d.slot ≡ n)
of_slot [] n (k, low, is) = absurd (omega (arith, low))
of_slot (d ∷ ds) n (zero, low, is) = (d, (zero, omega arith, refl), is)
of_slot (d ∷ ds) n (suc k, low, is) =
    let rest = of_slot ds n (k, omega (arith, low), is) in
    (rest.0, ((suc (rest.1).0, omega (arith, (rest.1).1), (rest.1).2)), rest.2)

-- the done slots below the horizon of a settled volume are those of its documents
module _ (cells : ℕ) (image : Image) (g : Layout) (volume : IsVolume cells image g) (whole : Settled cells image) (u : ℕ)
    (horizon : IsHorizon g image image u) (slots : List ℕ) (rise : RiseBelow u slots)
    (are_done : AreDoneBelow g image image u slots) (documents : List Document) (are : AreDocuments cells image documents)
  where
    below_horizon : (n : ℕ) → n < g.slots → ((m : ℕ) → m < n → IsWritten image (reserve_at m))
        → IsWritten image (reserve_at n) → n < u
    below_horizon n inside taken own = ⊎_elim
        (λ (same : n ≡ u). absurd (none-some _
        (sym (horizon.free (omega (arith, same, inside))) ∙ ap (λ (i : ℕ). image (reserve_at i)) (sym same) ∙ own.stands)))
        (λ (differ : (n < u) ⊎ (u < n)). ⊎_elim (λ less. less)
        (λ above. absurd (let w = taken u above in
        none-some _ (sym (horizon.free (omega (arith, above, inside))) ∙ w.stands)))
        differ)
        (cases_order n u)

    there : (n : ℕ) → Contains (slots_of documents) n → Contains slots n
    there n among =
        let d = of_slot documents n among in
        let is : IsDocument cells image (d.0).slot (d.0).id (d.0).body = (are.each d.0).1 d.1 in
        let one : is.stands.layout ≡ g =
        one_layout {cells = cells} {more = cells} is.stands.layout g is.stands.volume volume in
        let done : IsDoneSlot g image (d.0).slot =
        subst (λ (h : Layout). IsDoneSlot h image (d.0).slot) one (record {
          start = is.stands.start;
          length = is.stands.reserved;
          bytes = _;
          journal = is.stands.journal;
          done = is.stands.done;
        }) in
        subst (λ (m : ℕ). Contains slots m) d.2
        (are_done.all (d.0).slot
        (below_horizon (d.0).slot (subst (λ (h : Layout). (d.0).slot < h.slots) one is.stands.slot) is.taken
        (written is.stands.done.commits.reserves)) done)

    here : (n : ℕ) → Contains slots n → Contains (slots_of documents) n
    here n among =
        let v : IsVolume g.cells image g = subst (λ (c : ℕ). IsVolume c image g) (sym volume.size) volume in
        let one : whole.layout ≡ g = one_layout {cells = cells} {more = cells} whole.layout g whole.volume volume in
        let s = subst (λ (h : Layout). IsSettled h image) one whole.settled in
        let found = done_stands v s u horizon (are_done.done n among) in
        slot_in documents _ (stands_among cells image whole documents are n found.0 found.1
        (subst (λ (c : ℕ). Stands c image n found.0 found.1) volume.size found.2))

    pub same_slots : slots_of documents ≡ slots
    same_slots = one_list (λ (n : ℕ). n) 0 (slots_of documents) slots (slots_rise 0 documents are.rise)
        (numbers_rise 0 slots rise.rise) there here

-- why reading was ended, from an earlier state on
pub reading_later : {old mid new : DeviceState} → Called old mid → Called mid new → (refusal : Refusal)
    → ReadingFails mid new refusal → ReadingFails old new refusal
reading_later before after NoMemory fails = tt
reading_later before after DeviceFault fails = omega (arith, before.faults, fails)
reading_later before after (Tampered e) fails = λ tells.
    let l = fails (subst IsTrue (sym before.tells) tells) in
    record {
      stands = l.stands;
      layout = l.layout;
      volume = l.volume;
      place = l.place;
      broken = λ still. l.broken (still_second before.foreign_writes after.foreign_writes still);
    }
reading_later before after refusal fails = absurd fails

-- an audit that ends well has found the volume settled
audit_sound : {old new : DeviceState} {report : AuditReport} → Audits old new (Ok report) → IsTrue old.tells
    → IsStill old.foreign_writes new.foreign_writes → IsSound new.cells new.image report
audit_sound {old} {new} {report} audits tells still = by_case audits.comes
  where
    by_case : Rattle.volume_audit.specs.Audits.SettlesThenAudits old new (Ok report)
        → IsSound new.cells new.image report
    by_case (settling refusal is settles) = absurd (no_error refusal is)
      where
        no_error : (r : Refusal) → Ok report ≡ Err r → ⊥
        no_error r e = cc
    by_case (settled r has ends) = ends tells still

module _ {old a b new : DeviceState} {report : AuditReport} (r : Ready) (audits : Audits old a (Ok report))
    (settles : Settles a b (Ok r)) (read : IsOnlyRead b new) (device_b : IsDevice b) (device : IsDevice new) where
  up_to_b : Called old b
  up_to_b = called_then audits.called settles.called

  all_of_it : Called old new
  all_of_it = called_then up_to_b read.called

  tells_a : IsTrue old.tells → IsTrue a.tells
  tells_a tells = subst IsTrue (sym audits.called.tells) tells

  tells_b : IsTrue old.tells → IsTrue b.tells
  tells_b tells = subst IsTrue (sym up_to_b.tells) tells

  pub volume_b : IsTrue old.tells → IsVolume b.cells b.image r.volume.geometry
  volume_b tells = (settles.ends.1 (tells_a tells)).volume

  volume_new : IsTrue old.tells → IsVolume new.cells new.image r.volume.geometry
  volume_new tells = subst (λ (k : ℕ). IsVolume k new.image r.volume.geometry) (sym read.called.cells)
      (volume_on read.called.image (volume_b tells))

  -- going along the slots was ended
  pub walk_refuses : (refusal : Refusal) → CopyWalkEnds r.volume.geometry r.horizon b new (Err refusal)
      → RefusesVolume old new refusal
  walk_refuses refusal ends = by_reading all_of_it
      (reading_later up_to_b read.called refusal (ends (λ tells.
      volume_b (subst IsTrue up_to_b.tells tells))))

  module _ (tells : IsTrue old.tells) (still : IsStill old.foreign_writes new.foreign_writes) where
    still_a : IsStill old.foreign_writes a.foreign_writes
    still_a = still_first audits.called.foreign_writes
        (called_then settles.called read.called).foreign_writes still

    still_b : IsStill a.foreign_writes b.foreign_writes
    still_b = still_second audits.called.foreign_writes settles.called.foreign_writes
        (still_first up_to_b.foreign_writes read.called.foreign_writes still)

    sound : IsSound a.cells a.image report
    sound = audit_sound audits tells still_a

    settled_a : Settled a.cells a.image
    settled_a = record { layout = sound.layout; volume = sound.volume; settled = sound.settled }

    ends : EndsAs a b a.image r.step
    ends = settling_ends a b r a.image device_b.sure (tells_a tells) settles still_b
        (nothing settled_a (λ cell. refl)) settled_a

    same_new : new.image ≡ b.image
    same_new = same_image (read.only (still_second up_to_b.foreign_writes read.called.foreign_writes still))

    image_a : new.image ≡ a.image
    image_a = same_new ∙ ends.image

    sure_new : new.sure ≡ new.image
    sure_new = same_both
        (subst (λ (i : Image). Extends i new.sure) (ends.sure ∙ sym image_a) read.called.sure) device.sure
        ∙ refl

    pub settled_new : Settled new.cells new.image
    settled_new = subst (λ (k : ℕ). Settled k new.image)
        (sym ((called_then settles.called read.called).cells))
        (subst (λ (i : Image). Settled a.cells i) (sym image_a) settled_a)

    lies_a : Extends a.sure a.image
    lies_a = subst (λ (i : Image). Extends a.sure i) image_a
        (extends_then (called_then settles.called read.called).sure device.sure)

    -- the audit settled it
    settles_as : (sound : Sound old.cells old.image) → new.image ≡ sound.after
    settles_as sound = by_case audits.comes
      where
        no_error : (refusal : Refusal) → Ok report ≡ Err refusal → ⊥
        no_error refusal e = cc

        by_case : SettlesThenAudits old a (Ok report) → new.image ≡ sound.after
        by_case (settling refusal is settles) = absurd (no_error refusal is)
        by_case (settled ready has ends) = image_a ∙ (looked_ends old a ready tells has still_a lies_a sound).image

    horizon : IsHorizon r.volume.geometry new.image new.image r.horizon
    horizon = subst (λ (i : Image). IsHorizon r.volume.geometry i new.image r.horizon) (sym image_a)
        (subst (λ (i : Image). IsHorizon r.volume.geometry a.image i r.horizon) (sym same_new)
        (settles.ends.1 (tells_a tells)).horizon)

  -- a slot that was done at entry lies below the horizon, whoever else writes: each one below it was taken by then
  lies_below : IsTrue old.tells → (n : ℕ) → IsDoneSlot r.volume.geometry old.image n → n < r.horizon
  lies_below tells n done = ⊎_elim
      (λ (same : n ≡ r.horizon). absurd (none-some _
      (sym (horizon_a.free (omega (arith, same, reserves.slot))) ∙ ap (λ (i : ℕ). a.image (reserve_at i)) (sym same)
      ∙ later (reserve_at n) taken.found taken.stands)))
      (λ (differ : (n < r.horizon) ⊎ (r.horizon < n)). ⊎_elim (λ less. less)
      (λ above. absurd (let w = taken_below r.volume.geometry was.0 settled_was n reserves.slot taken r.horizon above in
      none-some _
      (sym (horizon_a.free (omega (arith, above, reserves.slot))) ∙ later (reserve_at r.horizon) w.found w.stands)))
      differ)
      (cases_order n r.horizon)
    where
      was : (image : Image) × Extends old.image image × Extends image a.image × IsSound old.cells image report
      was = audits.was tells

      later : (cell : ℕ) (value : List ℕ) → was.0 cell ≡ Some value → a.image cell ≡ Some value
      later cell value stands = was.2.keeps cell value stands

      horizon_a : IsHorizon r.volume.geometry a.image b.image r.horizon
      horizon_a = (settles.ends.1 (tells_a tells)).horizon

      one : was.3.layout ≡ r.volume.geometry
      one = one_layout {cells = old.cells} {more = b.cells} was.3.layout r.volume.geometry
          (volume_on (extends_then was.2 settles.called.image) was.3.volume) (volume_b tells)

      settled_was : IsSettled r.volume.geometry was.0
      settled_was = subst (λ (g : Layout). IsSettled g was.0) one was.3.settled

      done_was : IsDoneSlot r.volume.geometry was.0 n
      done_was = done_slot_on (extends_self old.image) was.1 done

      reserves : Reserves r.volume.geometry was.0 n done_was.start done_was.length
      reserves = done_was.done.commits.reserves

      taken : IsWritten was.0 (reserve_at n)
      taken = written reserves

  module _ (parts : Vec Part) (walk : CopyWalkEnds r.volume.geometry r.horizon b new (Ok parts)) where
    abbrev slots : List ℕ
    slots = part_slots parts.items

    all : IsTrue old.tells → (n : ℕ) → IsDoneSlot r.volume.geometry old.image n → Contains slots n
    all tells n done = (walk.2 (tells_b tells)).all n (lies_below tells n done)
        (done_slot_on (extends_self old.image) up_to_b.image done)

    whole : IsTrue old.tells → IsStill old.foreign_writes new.foreign_writes → IsWholeVolume new slots
    whole tells still =
        let done_new : AreDoneBelow r.volume.geometry new.image new.image r.horizon slots =
        subst (λ (i : Image). AreDoneBelow r.volume.geometry i new.image r.horizon slots) (sym (same_new tells still))
        (walk.2 (tells_b tells)) in
        record {
          settled = settled_new tells still;
          sure = λ cell. ap (λ (i : Image). i cell) (sure_new tells still);
          slots = λ documents are. same_slots new.cells new.image r.volume.geometry (volume_new tells)
              (settled_new tells still) r.horizon (horizon tells still) slots walk.0 done_new documents are;
        }

    pub has_audited : HasAudited old new (record { volume = r.volume; parts = parts })
    has_audited = record {
      called = all_of_it;
      version = settles.ends.0.version;
      layout = settles.ends.0.layout;
      size = settles.ends.0.size ∙ sym read.called.cells;
      parts = walk.1;
      is_volume = volume_new;
      rise = walk.0.rise;
      all = all;
      whole = whole;
      settles = settles_as;
    }

-- whoever refuses, a row of calls was made
pub refuses_called : {old new : DeviceState} {refusal : Refusal} → RefusesVolume old new refusal → Called old new
refuses_called (by_audit audits) = audits.called
refuses_called (by_settling between report audits settles) = called_then audits.called settles.called
refuses_called (by_reading called fails) = called
