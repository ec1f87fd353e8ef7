-- An ingest that ends well has put all of its plan, and the volume has one document more.
use Rattle.std.proofs.Common.{◌≡◌, ◌≤◌, ◌<◌, ◌+◌, ◌⊎◌, ℕ, List, [], ◌∷◌, ◌++◌, Some, None, Ok, refl, sym, ap, ◌∙◌, inl, inr, ⊎_elim, subst, arith, Option}
use Rattle.std.specs.Prelude.{IsTrue}
use Rattle.std.proofs.lemmas.Option.{none-some}
use Rattle.std.proofs.lemmas.Bool.{cases_lt}
use Rattle.cell_types.specs.Image.{Between, Extends, Image}
use Rattle.cell_types.specs.Layout.{Layout, done_at, outcome_at, reserve_at}
use Rattle.volume_meaning.specs.Documents.{AreDocuments, Stands}
use Rattle.volume_meaning.specs.Slots.{IsStampOf}
use Rattle.volume_meaning.specs.Volumes.{IsVolume}
use Rattle.volume_meaning.proofs.Extending.{volume_on}
use Rattle.tamper_rules.specs.Rules as Rules
use Rattle.tamper_rules.specs.Rules.{DoneRule, OutcomeRule}
use Rattle.tamper_rules.specs.Settling.{IsSettled}
use Rattle.tamper_rules.proofs.GivenUp.{one_layout}
use Rattle.tamper_rules.proofs.Images.{look, same_both}
use Rattle.ingest_laws.specs.Filling.{IsWellPlanned}
use Rattle.ingest_laws.specs.Ingesting.{Phase, Row}
use Rattle.ingest_laws.proofs.PlanAdds.{adds_one}
use Rattle.ingest_laws.proofs.PlanSettled.{plan_is_settled}
use Rattle.worm_device.specs.Counts.{IsStill}
use Rattle.worm_device.specs.State.{DeviceState, IsDevice, LeftSince}
use Rattle.worm_device.proofs.Counting.{still_first, still_second}
use Rattle.worm_device.proofs.Images.{extends_self}
use Rattle.recovery_engine.specs.declared.put.Put.{Put}
use Rattle.recovery_engine.specs.Putting.{AreStanding, IsInFirst, IsPut, LeavesPhases}
use Rattle.recovery_engine.specs.Ending.{done_put}
use Rattle.recovery_engine.specs.Settling.{HasSettled}
use Rattle.recovery_engine.specs.declared.settling.Ready.{Ready}
use Rattle.plan_writer.specs.Planned.{INGEST_PHASES, PlansDocument, Suits, ingest_phases}
use Rattle.plan_writer.specs.PuttingPlans.{PutsPlan}
use Rattle.plan_writer.specs.declared.plan.Plan.{Plan}
use Rattle.plan_writer.proofs.LogCells.{done_in}
use Rattle.plan_writer.proofs.PutFrom as from
use Rattle.ingest_engine.specs.Ingesting as ingesting
use Rattle.ingest_engine.specs.Ingesting.{IngestComesTo, IsIngested, IsPlanFor, document_in}
use Rattle.crash_laws.specs.SettlingSteadiness.{IsSteady}
use Rattle.crash_laws.specs.Steadiness.{HasOneMore}
use Rattle.crash_laws.proofs.PlanPhases.{most_order, put_row, row_put}
use Rattle.crash_laws.proofs.PutPlans.{documents_now, sound, still_looked, still_put, sure, tells_looked, well_made}
use Rattle.crash_laws.proofs.ReserveCells.{one_slot, stood_before}
use Rattle.crash_laws.proofs.WellPlanned.{plan_of}

four : (j : ℕ) → j < 5 → (j < 4) ⊎ (j ≡ 4)
four j less = ⊎_elim inl (λ high. inr (omega (arith, less, high))) (cases_lt j 4)

-- a plan that was put, and its done cell is sure
module _ (g : Layout) (n : ℕ) (p : Plan) (id body : List ℕ) (old new : DeviceState) (after : Image)
    (d : PlansDocument p id body) (suits : Suits g p) (w : IsWellPlanned g old.image after (plan_of n p id body))
    (tells : IsTrue old.tells) (sure_then : old.sure ≡ old.image)
    (still : IsStill old.foreign_writes new.foreign_writes) (puts : PutsPlan n p old new) (device : IsDevice new)
    (stored : Stands new.cells new.sure n id body) where
  -- a slot at the horizon has no done cell
  done_blank : old.image (done_at n) ≡ None
  done_blank = ⊎_elim (λ none. none)
      (λ x. absurd (
      let less = w.filled.reserves.slot in
      let r : DoneRule old.image n =
      w.filled.before.met Rules.DoneCells (done_at n) (record { found = x.0; stands = x.1 }) n less refl in
      let o : OutcomeRule g old.image n = w.filled.before.met Rules.OutcomeCells (outcome_at n)
      (record { found = r.commit.cell; stands = r.commit.stands }) n less refl in
      none-some _ (sym (w.filled.horizon.free less) ∙ o.reserve.stands)))
      (look old.image (done_at n))

  module _ (image : Image) (b : Between new.sure new.image image) where
    done_value : image (done_at n) ≡ Some (done_put n).value
    done_value =
        let h = stored.done.done in
        b.above.keeps (done_at n) h.cell h.stands ∙ ap (λ (x : List ℕ). Some x) h.is.same

    phases : LeavesPhases (ingest_phases n p) INGEST_PHASES old new image
    phases = ⊎_elim
        (λ (left : LeftSince old old.moment image). absurd (⊎_elim
        (λ (c : Between old.sure old.image image).
        none-some _ (sym done_blank ∙ c.below.keeps (done_at n) (done_put n).value done_value))
        (λ (m : (m : ℕ) × (old.moment ≤ m) × (m < old.moment) × Between (old.past m).sure (old.past m).image image).
        omega (arith, m.1, m.2))
        left))
        (λ (l : LeavesPhases (ingest_phases n p) INGEST_PHASES old new image). l)
        (puts.crashes tells old.moment image (omega arith) (inl b))

    kept : Extends old.image image
    kept = subst (λ (i : Image). Extends i image) sure_then phases.sure

    below : Extends image after
    below = record {
      keeps = λ cell value is. ⊎_elim
          (λ (was : old.image cell ≡ Some value). w.filled.rows.keeps.keeps cell value was)
          (λ (q : IsPut (IsInFirst (ingest_phases n p) (phases.phase + 1)) old.image cell value).
          let r = put_row g n p id body old.image after d suits w q.planned.0 q.put q.planned.2 cell value q.here q.is
          in
          w.filled.rows.adds cell value (r.0, r.2))
          (phases.only still cell value is);
    }

    -- the done cell is put in the last phase, so all phases before it are over
    late : 4 ≤ phases.phase
    late = ⊎_elim
        (λ (was : old.image (done_at n) ≡ Some (done_put n).value). absurd (none-some _ (sym done_blank ∙ was)))
        (λ (q : IsPut (IsInFirst (ingest_phases n p) (phases.phase + 1)) old.image (done_at n) (done_put n).value).
        let last = done_in g n p w.filled.reserves.slot suits q.planned.0 q.put q.planned.2 q.here in
        omega (arith, last.0, q.planned.1))
        (phases.only still (done_at n) (done_put n).value done_value)

    all : AreStanding (IsInFirst (ingest_phases n p) 5) image
    all put h = by_order (h.0 < 4) (h.0 ≡ 4)
        (λ less. phases.all put (h.0, omega (arith, less, late), h.2))
        (λ is.
        let same : put ≡ done_put n = subst (λ (j : ℕ). ingest_phases n p j put) is h.2 in
        ap image (ap (λ (x : Put). x.at) same) ∙ done_value ∙ ap (λ (x : Put). Some x.value) (sym same))
        (four h.0 h.1)
      where
        by_order : (A B : Type 0) → (A → image put.at ≡ Some put.value) → (B → image put.at ≡ Some put.value) → A ⊎ B
            → image put.at ≡ Some put.value
        by_order A B f k x = ⊎_elim f k x

    whole : image ≡ after
    whole = same_both (record {
      keeps = λ cell value is. ⊎_elim
          (λ (was : old.image cell ≡ Some value). kept.keeps cell value was)
          (λ (row : (one : Phase) × Row (plan_of n p id body) one cell value).
          row_put g n p id body old.image after d suits w image 5 (omega arith) kept all
          (λ at x here. ⊎_elim inl
          (λ (q : IsPut (IsInFirst (ingest_phases n p) (phases.phase + 1)) old.image at x). inr (record {
            blank = q.blank;
            put = q.put;
            planned = (q.planned.0, omega (arith, q.planned.1, phases.begun), q.planned.2);
            here = q.here;
            is = q.is;
          }))
          (phases.only still at x here))
          row.0 (omega (arith, most_order row.0)) cell value row.1)
          (w.filled.rows.only cell value is);
    }) below

  pub put_whole : (new.image ≡ after) × (new.sure ≡ after)
  put_whole = (
    whole new.image (record { above = device.sure; below = extends_self new.image }),
    whole new.sure (record { above = extends_self new.sure; below = device.sure }),
  )

module _ (id : List ℕ) (stamp : Option ℕ) (body : List ℕ) (old new : DeviceState) (n : ℕ) (device : IsDevice old)
    (device_new : IsDevice new)
    (tells : IsTrue old.tells) (still : IsStill old.foreign_writes new.foreign_writes) (steady : IsSteady old)
    (is : IsIngested id stamp body n old new) where
  -- the slot's reserve cell was blank, and is not
  reserve_stands : (value : List ℕ) × (new.image (reserve_at n) ≡ Some value)
  reserve_stands =
      let h = is.document.done.commits.reserves.reserve in
      (h.cell, device_new.sure.keeps (reserve_at n) h.cell h.stands)

  not_before : (value : List ℕ) → old.image (reserve_at n) ≡ Some value → ⊥
  not_before value stood = none-some _ (sym is.unused.reserve ∙ stood)

  -- nor did it stand behind settling
  module _ (looked : DeviceState) (r : Ready) (h : HasSettled old looked r)
      (still_looks : IsStill old.foreign_writes looked.foreign_writes) (grows : Extends looked.image new.image) where
    inside : n < r.volume.geometry.slots
    inside = subst (λ (k : Layout). n < k.slots)
        (one_layout is.layout r.volume.geometry is.volume (volume_on grows (from.volume_2 r h tells))) is.unused.slot

    not_then : (value : List ℕ) → looked.image (reserve_at n) ≡ Some value → ⊥
    not_then value stood =
        let first = still_first h.settles.called.foreign_writes h.looked.foreign_writes still_looks in
        let second = still_second h.settles.called.foreign_writes h.looked.foreign_writes still_looks in
        not_before value (stood_before old h.settled (Ok r) tells h.settles first r.volume.geometry
        (h.settles.ends.1 tells).volume n inside value (sym (h.quiet second (reserve_at n)) ∙ stood))

  -- the plan was put into this slot
  module _ (looked : DeviceState) (r : Ready) (p : Plan) (h : HasSettled old looked r) (device_looked : IsDevice looked)
      (less : r.horizon < r.volume.geometry.slots) (plans : IsPlanFor r id stamp body h.settled looked p)
      (puts : PutsPlan r.horizon p looked new) where
    abbrev g : Layout
    g = r.volume.geometry

    still_first_looks : IsStill old.foreign_writes looked.foreign_writes
    still_first_looks =
        still_looked id stamp body old looked new r p tells h device device_looked less plans puts still steady

    still_then : IsStill looked.foreign_writes new.foreign_writes
    still_then = still_put id stamp body old looked new r p tells h device device_looked less plans puts still steady

    tells_then : IsTrue looked.tells
    tells_then = tells_looked id stamp body old looked new r p tells h device device_looked less plans puts still steady

    slot_is : n ≡ r.horizon
    slot_is = ⊎_elim
        (λ (was : looked.image (reserve_at n) ≡ Some reserve_stands.0).
        absurd (not_then looked r h still_first_looks puts.called.image reserve_stands.0 was))
        (λ (q : IsPut (IsInFirst (ingest_phases r.horizon p) INGEST_PHASES) looked.image (reserve_at n)
        reserve_stands.0).
        one_slot g r.horizon p less plans.suits q.planned.0 q.put q.planned.2 n
        (inside looked r h still_first_looks puts.called.image) q.here)
        (puts.only tells_then still_then (reserve_at n) reserve_stands.0 reserve_stands.1)

    made : (after : Image) × IsWellPlanned g looked.image after (plan_of r.horizon p id body)
    made = well_made id stamp body old looked new r p tells h device device_looked less plans puts still steady

    ends : (new.image ≡ made.0) × (new.sure ≡ made.0)
    ends = put_whole g r.horizon p id body looked new made.0 plans.document plans.suits made.1 tells_then
        (sure id stamp body old looked new r p tells h device device_looked less plans puts still steady)
        still_then puts
        device_new (subst (λ (m : ℕ). Stands new.cells new.sure m id body) slot_is is.document)

    volume_new : IsVolume new.cells new.image g
    volume_new = subst (λ (k : ℕ). IsVolume k new.image g) (sym puts.called.cells)
        (volume_on puts.called.image (from.volume_2 r h tells))

    added : HasOneMore id stamp body r.horizon old new
    added = record {
      was = sound id stamp body old looked new r p tells h device device_looked less plans puts still steady;
      settled = record {
        layout = g;
        volume = volume_new;
        settled = subst (IsSettled g) (sym ends.0) (plan_is_settled made.1).0;
      };
      sure = λ cell. ap (λ (i : Image). i cell) (ends.1 ∙ sym ends.0);
      documents = λ documents held.
          subst (λ (k : ℕ). AreDocuments k new.sure (documents ++ document_in r.horizon id body ∷ [])) volume_new.size
          (subst (λ (i : Image). AreDocuments g.cells i (documents ++ document_in r.horizon id body ∷ [])) (sym ends.1)
          (adds_one made.1 documents
          (documents_now id stamp body old looked new r p tells h device device_looked less plans puts still
          steady documents
          held)));
      stamped = λ k volume. subst (λ (m : ℕ). IsStampOf k new.sure m stamp) slot_is
          (subst (λ (x : Layout). IsStampOf x new.sure n stamp)
          (one_layout is.layout k is.volume (volume_on device_new.sure volume)) is.stamped);
    }

  pub comes_more : IngestComesTo id stamp body old new → HasOneMore id stamp body n old new
  comes_more (ingesting.nothing same) = absurd (not_before reserve_stands.0
      (subst (λ (s : DeviceState). s.image (reserve_at n) ≡ Some reserve_stands.0) same reserve_stands.1))
  comes_more (ingesting.settling refusal s) = absurd (not_before reserve_stands.0
      (stood_before old new _ tells s still is.layout is.volume n is.unused.slot reserve_stands.0 reserve_stands.1))
  comes_more (ingesting.settled r h) =
      absurd (not_then new r h still (extends_self new.image) reserve_stands.0 reserve_stands.1)
  comes_more (ingesting.put looked r p h device_looked less plans puts) = subst
      (λ (m : ℕ). HasOneMore id stamp body m old new)
      (sym (slot_is looked r p h device_looked less plans puts))
      (added looked r p h device_looked less plans puts)
