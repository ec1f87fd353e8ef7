-- A plan that is put behind settling: what a crash leaves of it.
use Rattle.std.proofs.Common.{◌≡◌, ◌<◌, ℕ, List, [], ◌∷◌, ◌++◌, Some, None, inl, inr, ⊎_elim, sym, ◌∙◌, subst, arith, Option}
use Rattle.std.specs.Prelude.{IsTrue}
use Rattle.cell_types.specs.Image.{Image, Extends}
use Rattle.cell_types.specs.Layout.{Layout, outcome_at}
use Rattle.volume_meaning.specs.Slots.{IsStampFor, IsStampOf}
use Rattle.volume_meaning.specs.Volumes.{IsVolume}
use Rattle.volume_meaning.proofs.Extending.{volume_on}
use Rattle.volume_meaning.specs.Documents.{AreDocuments, Document}
use Rattle.tamper_rules.specs.Settling.{Held, Sound}
use Rattle.tamper_rules.proofs.GivenUp.{one_layout}
use Rattle.tamper_rules.proofs.Images.{look}
use Rattle.ingest_laws.specs.Filling.{IsWellPlanned}
use Rattle.ingest_laws.proofs.PlanAdds.{adds_one}
use Rattle.ingest_laws.proofs.PlanLeaves.{plan_leaves_sound}
use Rattle.worm_device.specs.Calls.{Called}
use Rattle.worm_device.specs.Counts.{IsStill}
use Rattle.worm_device.specs.State.{DeviceState, IsDevice, LeftSince}
use Rattle.worm_device.proofs.Counting.{still_first, still_second}
use Rattle.worm_device.proofs.Elapsing.{elapses_of}
use Rattle.recovery_engine.specs.Putting.{LeavesPhases}
use Rattle.recovery_engine.specs.Settling.{HasSettled}
use Rattle.recovery_engine.specs.declared.settling.Ready.{Ready}
use Rattle.plan_writer.specs.Planned.{INGEST_PHASES, ingest_phases}
use Rattle.plan_writer.specs.PuttingPlans.{PutsPlan}
use Rattle.plan_writer.specs.declared.plan.Plan.{Plan}
use Rattle.plan_writer.proofs.PutFrom as from
use Rattle.ingest_engine.specs.Ingesting.{IsPlanFor, document_in}
use Rattle.crash_laws.specs.SettlingSteadiness.{EndsAs, IsLeftWhole, IsSteady}
use Rattle.crash_laws.proofs.LeftWhole.{documents_after}
use Rattle.crash_laws.proofs.LookedAt.{crashes_looked}
use Rattle.crash_laws.specs.Steadiness.{CrashesLeaveIngest, IsLeftByIngest}
use Rattle.crash_laws.proofs.LeftByIngest.{of_whole}
use Rattle.crash_laws.proofs.PlanPhases.{left_in}
use Rattle.crash_laws.proofs.StampLeft.{stamp_left}
use Rattle.crash_laws.proofs.WellPlanned.{ends_as, plan_of, was_sound, well_planned}

module _ (id : List ℕ) (stamp : Option ℕ) (body : List ℕ) (old looked new : DeviceState) (r : Ready) (p : Plan)
    (tells : IsTrue old.tells)
    (h : HasSettled old looked r) (device : IsDevice old) (device_looked : IsDevice looked)
    (less : r.horizon < r.volume.geometry.slots) (plans : IsPlanFor r id stamp body h.settled looked p)
    (puts : PutsPlan r.horizon p looked new) (still : IsStill old.foreign_writes new.foreign_writes)
    (steady : IsSteady old) where
  abbrev pub g : Layout
  g = r.volume.geometry

  pub called : Called old looked
  called = from.called r h

  pub tells_looked : IsTrue looked.tells
  tells_looked = subst IsTrue (sym called.tells) tells

  pub still_looked : IsStill old.foreign_writes looked.foreign_writes
  still_looked = still_first called.foreign_writes puts.called.foreign_writes still

  pub still_put : IsStill looked.foreign_writes new.foreign_writes
  still_put = still_second called.foreign_writes puts.called.foreign_writes still

  pub sound : Sound old.cells old.image
  sound = was_sound old looked r tells h still_looked device device_looked steady

  pub ended : EndsAs old looked sound.after r.step
  unfolding sound
  ended = ends_as old looked r tells h still_looked device device_looked steady

  -- all that stood when the plan was put was sure
  pub sure : looked.sure ≡ looked.image
  sure = ended.sure ∙ sym ended.image

  takes : IsStampFor r.volume.geometry stamp
  takes = subst (IsStampFor r.volume.geometry) plans.stamped plans.suits.stamp

  pub well_made : (after : Image) × IsWellPlanned g looked.image after (plan_of r.horizon p id body)
  well_made = well_planned old looked r tells h still_looked device device_looked steady id stamp body takes
      plans.index less plans.has
      p plans.starts plans.suits plans.document plans.stamped plans.blocks plans.journal

  pub cells_are : g.cells ≡ old.cells
  cells_are = (from.volume_2 r h tells).size ∙ called.cells

  -- the volume had the documents then that it held before
  pub documents_now : (documents : List Document) → Held old.cells old.image documents
      → AreDocuments g.cells looked.image documents
  documents_now documents held = subst (λ (k : ℕ). AreDocuments k looked.image documents) (sym cells_are)
      (subst (λ (i : Image). AreDocuments old.cells i documents) (sym ended.image)
      (documents_after sound documents held))

  module _ (image : Image) (l : LeavesPhases (ingest_phases r.horizon p) INGEST_PHASES looked new image) where
    kept : Extends looked.image image
    kept = subst (λ (i : Image). Extends i image) sure l.sure

    -- the layout is that of any volume there, and the stamp the one that was given
    stamp_of_left : IsStampOf g image r.horizon p.stamp → (k : Layout) → IsVolume old.cells image k
        → IsStampOf k image r.horizon stamp
    stamp_of_left is k volume = subst (λ (x : Option ℕ). IsStampOf k image r.horizon x) plans.stamped
        (subst (λ (x : Layout). IsStampOf x image r.horizon p.stamp)
        (one_layout g k (volume_on kept (from.volume_2 r h tells)) volume) is)

    left : IsLeftByIngest id stamp body old image
    left =
        let w = well_made.1 in
        let f = left_in g r.horizon p id body looked.image well_made.0 plans.document plans.suits w image l.phase
        l.begun kept l.all (l.only still_put) in
        let s = plan_leaves_sound w image f.0 f.1 in
        record {
          sound = inr (subst (λ (k : ℕ). Sound k image) cells_are s.sound);
          holds = ⊎_elim
              -- the slot has no outcome
              (λ (blank : image (outcome_at r.horizon) ≡ None).
              inl (inr (λ documents held. subst (λ (k : ℕ). Held k image documents) cells_are
              (s.blank blank documents (documents_now documents held)))))
              -- it is committed
              (λ (x : (v : List ℕ) × (image (outcome_at r.horizon) ≡ Some v)). inr (record {
                slot = r.horizon;
                holds = λ documents held.
                    subst (λ (k : ℕ). Held k image (documents ++ document_in r.horizon id body ∷ [])) cells_are
                    (s.written (record { found = x.0; stands = x.1 }) _
                    (adds_one w documents (documents_now documents held)));
                stamped = λ k volume. stamp_of_left (stamp_left w f.1 x.0 x.1) k volume;
              }))
              (look image (outcome_at r.horizon));
        }

  pub crashes_put : CrashesLeaveIngest id stamp body old new
  crashes_put since image le of = ⊎_elim
      (λ (before : LeftSince looked since image). ⊎_elim inl
      (λ (l : IsLeftWhole old image). inr (of_whole id stamp body old new image l))
      (crashes_looked old looked r tells h still_looked device device_looked steady since image le before))
      (λ (l : LeavesPhases (ingest_phases r.horizon p) INGEST_PHASES looked new image). inr (left image l))
      (puts.crashes tells_looked since image (omega (arith, le, (elapses_of called).later)) of)
