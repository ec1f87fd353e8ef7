-- From what was judged of kept cells to what an audit tells of the device.
use Rattle.std.proofs.Common.{◌≡◌, ◌⊎◌, ⊎_elim, inl, inr, ℕ, Some, Result, Ok, Err, refl, sym, ◌∙◌, subst, ap, arith}
use Rattle.std.specs.Prelude.{IsTrue}
use Rattle.std.proofs.lemmas.Option.{none-some}
use Rattle.cell_types.specs.Image.{Image, IsUnchanged}
use Rattle.cell_types.specs.Layout.{Layout}
use Rattle.cell_types.specs.declared.refusal.Evidence.{Evidence}
use Rattle.cell_types.specs.declared.refusal.Refusal.{Refusal}
use Rattle.cell_types.specs.declared.refusal.Refusal.TheVariants as refusals
use Rattle.cell_types.specs.Records.{IsRecordCell}
use Rattle.cell_types.specs.declared.geometry.Volume.{Volume}
use Rattle.volume_meaning.specs.Volumes.{IsVolume, volume_record}
use Rattle.volume_meaning.proofs.Extending.{volume_on}
use Rattle.tamper_rules.proofs.GivenUp.{one_layout}
use Rattle.tamper_rules.specs.Rules.{IsPlaceOf, ReserveCells}
use Rattle.worm_device.specs.Calls.{Called}
use Rattle.worm_device.specs.Counts.{IsStill}
use Rattle.worm_device.specs.State.{DeviceState, IsDevice}
use Rattle.worm_device.proofs.Counting.{still_first, still_second}
use Rattle.worm_device.proofs.Elapsing.{called_then}
use Rattle.recovery_engine.specs.Settling.{HasSettled, Settles}
use Rattle.recovery_engine.specs.declared.settling.Ready.{Ready}
use Rattle.commit_record.specs.Opening.{StatedBy, refusal_of}
use Rattle.commit_record.specs.declared.opening.OpenRefusal.{OpenRefusal}
use Rattle.commit_record.specs.declared.opening.OpenRefusal.TheVariants as opens
use Rattle.log_audit.specs.Kept.{KeepEnds, IsKeptBetween, image_of_kept, count_of}
use Rattle.log_audit.specs.declared.kept.KeptCells.{KeptCells}
use Rattle.log_audit.specs.Findings.{IsFirstBroken}
use Rattle.log_audit.specs.Logs.{IsUnended}
use Rattle.volume_audit.specs.Audits.{AuditEnds, Audits, WasSound, settled, settling}
use Rattle.tamper_rules.specs.Settling.{IsSettled}
use Rattle.volume_audit.specs.Judging.{Judges}
use Rattle.volume_audit.specs.Reports.{IsReport}
use Rattle.volume_audit.specs.declared.report.AuditReport.{AuditReport}
use Rattle.volume_audit.proofs.Ended.{no_unended}

-- where the evidence lies
place_of : (g : Layout) (image : Image) (e : Evidence) → IsFirstBroken g image e ⊎ IsUnended g image e → IsPlaceOf g e.rule e.cell
place_of g image e named = ⊎_elim
    (λ (f : IsFirstBroken g image e). (f.rule, f.least.number, f.least.place))
    (λ u. (ReserveCells, u.rule, (u.slot, u.inside, u.cell)))
    named

stands_of : (g : Layout) (image : Image) (e : Evidence) → IsFirstBroken g image e ⊎ IsUnended g image e → image e.cell ≡ Some e.found
stands_of g image e named = ⊎_elim (λ (f : IsFirstBroken g image e). f.least.stands) (λ u. u.stands) named

-- the volume that a cell states
pub stated_volume : {image : Image} {cells : ℕ} {volume : Volume} → StatedBy (image 0) cells (Ok volume)
    → IsVolume volume.geometry.cells image volume.geometry
stated_volume stated = record {
  volume = record { cell = stated.3.0; stands = stated.3.1; is = stated.3.2 };
  size = refl;
}

module _ {old mid new : DeviceState} (r : Ready) (settles : Settles old mid (Ok r)) (device : IsDevice mid)
    (called : Called mid new) (unchanged : IsStill mid.foreign_writes new.foreign_writes → IsUnchanged mid.image new.image) where
  -- the volume was settled, and then looked at
  has_settled : HasSettled old new r
  has_settled = record { settled = mid; settles = settles; looked = called; quiet = unchanged }

  audited : {refusal : Refusal} → WasSound old new (Err refusal) → AuditEnds old new (Err refusal)
      → Audits old new (Err refusal)
  audited was ends = record { called = called_then settles.called called; comes = settled r has_settled ends; was = was }

  -- not each cell was read
  pub unkept : (refusal : Refusal) → KeepEnds mid new (Err refusal) → Audits old new (Err refusal)
  unkept refusals.DeviceFault ends = audited tt (omega (arith, settles.called.faults, ends))
  unkept refusals.NoMemory ends = audited tt tt
  unkept refusal ends = absurd ends

  module _ (kept : KeptCells) (ends : KeepEnds mid new (Ok kept)) where
    is_kept : IsTrue old.tells → IsKeptBetween mid new kept
    is_kept tells = ends.2 (subst IsTrue (sym settles.called.tells) tells)

    -- cell 0 states the volume that was settled
    was_volume : IsTrue old.tells → IsVolume mid.cells (image_of_kept kept) r.volume.geometry
    was_volume tells = volume_on (is_kept tells).above (settles.ends.1 tells).volume

    -- so nothing else is read there
    pub no_volume : (why : OpenRefusal) → StatedBy (image_of_kept kept 0) (count_of kept) (Err why) → Audits old new (Err (refusal_of why))
    no_volume opens.NotFormatted stated = audited tt (λ tells. let v = (was_volume tells).volume in
        none-some v.cell (sym stated ∙ v.stands))
    no_volume (opens.NotAVolume found) stated = audited tt (λ tells. let v = (was_volume tells).volume in
        let both : Some found ≡ Some v.cell = sym stated.0 ∙ v.stands in
        let same : v.cell ≡ found = cc in
        stated.1 r.volume.geometry (subst (IsRecordCell (volume_record r.volume.geometry) 0) same v.is))
    no_volume (opens.WrongSize size real) stated = audited tt (λ tells.
        let other : IsVolume size (image_of_kept kept) stated.2 = record {
          volume = record { cell = stated.3.0; stands = stated.3.1; is = stated.3.2 };
          size = stated.4;
        } in
        let one = one_layout {cells = size} {more = mid.cells} stated.2 r.volume.geometry other (was_volume tells) in
        stated.1 (let g_size : stated.2.cells ≡ r.volume.geometry.cells = ap (λ (h : Layout). h.cells) one in
        omega (arith, g_size, stated.4, (was_volume tells).size, stated.0, ends.0, called.cells)))
    no_volume opens.ReadFault stated = absurd stated

    module _ (g : Layout) (volume : IsVolume g.cells (image_of_kept kept) g) where
      -- the volume is the one that was settled
      same_layout : IsTrue old.tells → g ≡ r.volume.geometry
      same_layout tells = one_layout {cells = g.cells} {more = mid.cells} g r.volume.geometry volume (was_volume tells)

      volume_new : IsTrue old.tells → IsVolume new.cells new.image g
      volume_new tells = volume_on (is_kept tells).below (record {
        volume = volume.volume;
        size = ap (λ (h : Layout). h.cells) (same_layout tells) ∙ (was_volume tells).size ∙ sym called.cells;
      })

      same : IsTrue old.tells → IsStill old.foreign_writes new.foreign_writes → image_of_kept kept ≡ new.image
      same tells still = (is_kept tells).quiet (still_second settles.called.foreign_writes called.foreign_writes still)

      -- what is kept stood there once the volume was settled, where nobody else wrote
      settled_same : IsTrue old.tells → IsStill old.foreign_writes new.foreign_writes → image_of_kept kept ≡ mid.image
      settled_same tells still = (is_kept tells).before (still_second settles.called.foreign_writes called.foreign_writes still)

      first_on : (e : Evidence) → IsTrue old.tells → IsStill old.foreign_writes new.foreign_writes
          → IsFirstBroken g (image_of_kept kept) e ⊎ IsUnended g (image_of_kept kept) e → IsFirstBroken g new.image e
      first_on e tells still named = ⊎_elim
          (λ (f : IsFirstBroken g (image_of_kept kept) e). subst (λ (i : Image). IsFirstBroken g i e) (same tells still) f)
          (λ u. absurd (no_unended r e (settles.ends.1 tells) device
          (still_first settles.called.foreign_writes called.foreign_writes still)
          (subst (λ (h : Layout). IsUnended h mid.image e) (same_layout tells)
          (subst (λ (i : Image). IsUnended g i e) (settled_same tells still) u))))
          named

      named_first : (e : Evidence) → IsFirstBroken g (image_of_kept kept) e ⊎ IsUnended g (image_of_kept kept) e
          → AuditEnds old new (Err (refusals.Tampered e))
      named_first e named tells = (
        record {
          stands = (is_kept tells).below.keeps e.cell e.found (stands_of g (image_of_kept kept) e named);
          layout = g;
          volume = volume_new tells;
          place = place_of g (image_of_kept kept) e named;
          broken = λ still. let f = first_on e tells still named in record {
            layout = g;
            volume = volume_new tells;
            rule = f.rule;
            named = f.least.number;
            place = f.least.place;
            written = record { found = e.found; stands = f.least.stands };
            not_met = f.least.not_met;
          };
        },
        λ still. record { layout = g; volume = volume_new tells; first = first_on e tells still named },
      )

      ended : (result : Result AuditReport Refusal) → Judges g (image_of_kept kept) result → AuditEnds old new result
      ended (Ok report) judges = λ tells still. record {
        layout = g;
        volume = volume_new tells;
        settled = subst (λ (i : Image). IsSettled g i) (same tells still) judges.0;
        report = subst (λ (i : Image). IsReport g i report) (same tells still) judges.1;
      }
      ended (Err (refusals.Tampered e)) judges = named_first e judges
      ended (Err refusals.NoMemory) judges = judges
      ended (Err refusal) judges = absurd judges

      was : (result : Result AuditReport Refusal) → Judges g (image_of_kept kept) result → WasSound old new result
      was (Ok report) judges = λ tells. (
        image_of_kept kept,
        record { keeps = λ cell value is. (is_kept tells).above.keeps cell value (settles.called.image.keeps cell value is) },
        (is_kept tells).below,
        record {
          layout = g;
          volume = record {
            volume = volume.volume;
            size = ap (λ (h : Layout). h.cells) (same_layout tells) ∙ (was_volume tells).size ∙ settles.called.cells;
          };
          settled = judges.0;
          report = judges.1;
        },
      )
      was (Err (refusals.Tampered e)) judges = λ tells. inr (record {
        image = image_of_kept kept;
        since = record { keeps = λ cell value is. (is_kept tells).above.keeps cell value (settles.called.image.keeps cell value is) };
        until = (is_kept tells).below;
        layout = g;
        volume = record {
          volume = volume.volume;
          size = ap (λ (h : Layout). h.cells) (same_layout tells) ∙ (was_volume tells).size ∙ settles.called.cells;
        };
        named = judges;
      })
      was (Err refusal) judges = tt

      pub audits : (result : Result AuditReport Refusal) → Judges g (image_of_kept kept) result → Audits old new result
      audits result judges = record {
        called = called_then settles.called called;
        comes = settled r has_settled (ended result judges);
        was = was result judges;
      }

-- settling was ended
by_settling : {old new : DeviceState} (refusal : Refusal) → Settles old new (Err refusal) → WasSound old new (Err refusal)
by_settling (refusals.Tampered e) settles = λ tells. inl settles
by_settling refusal settles = tt

pub unsettled : {old new : DeviceState} (refusal : Refusal) → Settles old new (Err refusal) → Audits old new (Err refusal)
unsettled refusal settles = record {
  called = settles.called;
  comes = settling refusal refl settles;
  was = by_settling refusal settles;
}
