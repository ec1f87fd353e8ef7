-- How an ingest that is acknowledged moves the horizon and the edge of a settled volume: by one slot, and by no more cells
-- than the document and its postings can need.
use Rattle.std.proofs.Common.{◌≡◌, ◌≤◌, ◌<◌, ◌+◌, ◌*◌, ⊎_elim, ℕ, List, length, Some, None, Err, refl, sym, ap, ◌∙◌, subst, arith}
use Rattle.std.specs.Prelude.{IsTrue}
use Rattle.std.proofs.lemmas.Option.{none-some}
use Rattle.cell_types.specs.Image.{Image}
use Rattle.cell_types.specs.Layout.{Layout, pool_at, reserve_at}
use Rattle.volume_meaning.specs.Documents.{Document, Stands, stored_bytes}
use Rattle.volume_meaning.specs.Slots.{IsEdge, IsHorizon, cells_for}
use Rattle.volume_meaning.specs.Volumes.{IsVolume}
use Rattle.volume_meaning.proofs.Extending.{volume_on}
use Rattle.tamper_rules.specs.Settling.{Held, IsSettled, Settled, Sound, nothing}
use Rattle.tamper_rules.proofs.GivenUp.{one_layout}
use Rattle.tamper_rules.proofs.Settled.{one_horizon}
use Rattle.volume_meaning.specs.Postings.{ArePostings, ListedPosting}
use Rattle.worm_device.specs.Counts.{IsStill}
use Rattle.worm_device.specs.State.{DeviceState, IsDevice}
use Rattle.recovery_engine.specs.Putting.{IsInFirst, IsPut}
use Rattle.recovery_engine.specs.Settling.{HasSettled}
use Rattle.recovery_engine.specs.declared.settling.Ready.{Ready}
use Rattle.plan_writer.specs.Planned.{INGEST_PHASES, ingest_phases, reserved_by}
use Rattle.plan_writer.specs.PuttingPlans.{PutsPlan}
use Rattle.plan_writer.specs.declared.plan.Plan.{Plan}
use Rattle.plan_writer.proofs.PutFrom as from
use Rattle.ingest_laws.specs.Filling.{IsFilled, IsWellPlanned}
use Rattle.ingest_laws.proofs.Filled.{edge_is, old_edge}
use Rattle.ingest_laws.proofs.Ingests.{next_horizon}
use Rattle.ingest_laws.proofs.PlanSettled.{plan_is_settled}
use Rattle.ingest_engine.specs.Ingesting as ingesting
use Rattle.ingest_engine.specs.Ingesting.{IngestComesTo, IsIngested, IsPlanFor}
use Rattle.ingest_engine.proofs.CrashedIngests.{ready_layout}
use Rattle.crash_laws.specs.SettlingSteadiness.{IsSteady}
use Rattle.crash_laws.proofs.LeftWhole.{held_unmoved, settling_keeps}
use Rattle.crash_laws.proofs.LookedAt.{looked_ends, looking_keeps}
use Rattle.crash_laws.specs.Steadiness.{HasOneMore}
use Rattle.crash_laws.proofs.AddsOne.{put_whole}
use Rattle.crash_laws.proofs.PutPlans.{still_looked, still_put, sure, tells_looked, well_made}
use Rattle.crash_laws.proofs.ReserveCells.{one_slot}
use Rattle.crash_laws.proofs.WellPlanned.{plan_of}
use Rattle.command_laws.specs.Begins.{BeginsSteady}
use Rattle.hostile_replay.proofs.Reading.{not_held}

-- The horizon is one slot further, and the edge by so many cells: those of the document, and at most 258 for each of its
-- postings and 34 for its bucket.
pub record IsOneFurther (g : Layout) (id body : List ℕ) (old new : Image) : Type 0 where
  pub slot : ℕ
  pub was : IsHorizon g old old slot
  pub is : IsHorizon g new new (slot + 1)
  pub start : ℕ
  pub start_is : IsEdge g old old start
  pub size : ℕ
  pub edge : (at : ℕ) → IsEdge g new new at → at ≡ start + size
  pub rows : List ListedPosting
  pub are : ArePostings g None body slot rows
  pub most : size ≤ cells_for (length (stored_bytes id body)) + 258 * length rows + 34

module _ (id body : List ℕ) (old new : DeviceState) (n : ℕ) (device : IsDevice old) (device_new : IsDevice new)
    (tells : IsTrue old.tells) (still : IsStill old.foreign_writes new.foreign_writes) (steady : IsSteady old)
    (is : IsIngested id None body n old new) (whole : Settled old.cells old.image) where
  reserve_stands : (value : List ℕ) × (new.image (reserve_at n) ≡ Some value)
  reserve_stands =
      let h = is.document.done.commits.reserves.reserve in
      (h.cell, device_new.sure.keeps (reserve_at n) h.cell h.stands)

  abbrev sound_old : Sound old.cells old.image
  sound_old = record { after = old.image; is = nothing whole (λ cell. refl); settled = whole }

  module _ (looked : DeviceState) (r : Ready) (p : Plan) (h : HasSettled old looked r) (device_looked : IsDevice looked)
      (less : r.horizon < r.volume.geometry.slots) (plans : IsPlanFor r id None body h.settled looked p)
      (puts : PutsPlan r.horizon p looked new) where
    abbrev g : Layout
    g = r.volume.geometry

    still_first_looks : IsStill old.foreign_writes looked.foreign_writes
    still_first_looks =
        still_looked id None body old looked new r p tells h device device_looked less plans puts still steady

    still_then : IsStill looked.foreign_writes new.foreign_writes
    still_then = still_put id None body old looked new r p tells h device device_looked less plans puts still steady

    tells_then : IsTrue looked.tells
    tells_then = tells_looked id None body old looked new r p tells h device device_looked less plans puts still steady

    same_looked : looked.image ≡ old.image
    same_looked = (looked_ends old looked r tells h still_first_looks device_looked.sure sound_old).image

    inside : n < g.slots
    inside = subst (λ (k : Layout). n < k.slots)
        (one_layout is.layout g is.volume (volume_on puts.called.image (from.volume_2 r h tells))) is.unused.slot

    slot_is : n ≡ r.horizon
    slot_is = ⊎_elim
        (λ (was : looked.image (reserve_at n) ≡ Some reserve_stands.0). absurd (none-some reserve_stands.0
        (sym is.unused.reserve ∙ sym (ap (λ (i : Image). i (reserve_at n)) same_looked) ∙ was)))
        (λ (q : IsPut (IsInFirst (ingest_phases r.horizon p) INGEST_PHASES) looked.image (reserve_at n)
        reserve_stands.0).
        one_slot g r.horizon p less plans.suits q.planned.0 q.put q.planned.2 n inside q.here)
        (puts.only tells_then still_then (reserve_at n) reserve_stands.0 reserve_stands.1)

    made : (after : Image) × IsWellPlanned g looked.image after (plan_of r.horizon p id body)
    made = well_made id None body old looked new r p tells h device device_looked less plans puts still steady

    ends : new.image ≡ made.0
    ends = (put_whole g r.horizon p id body looked new made.0 plans.document plans.suits made.1 tells_then
        (sure id None body old looked new r p tells h device device_looked less plans puts still steady) still_then puts
        device_new (subst (λ (m : ℕ). Stands new.cells new.sure m id body) slot_is is.document)).0

    filled : IsFilled g looked.image made.0 (plan_of r.horizon p id body)
    filled = made.1.filled

    further : IsOneFurther g id body old.image new.image
    further = subst (λ (i : Image). IsOneFurther g id body i new.image) same_looked
        (subst (λ (i : Image). IsOneFurther g id body looked.image i) (sym ends) (record {
          slot = r.horizon;
          was = filled.horizon;
          is = next_horizon (record {
            volume = filled.volume;
            before = filled.before;
            after = (plan_is_settled made.1).0;
            horizon = filled.horizon;
            free = filled.reserves.slot;
            reserve = filled.reserves.reserve;
            commit = filled.commit;
            done = filled.done;
            rows = filled.rows;
          });
          start = p.start;
          start_is = old_edge filled;
          size = (reserved_by p).length;
          edge = λ at e. edge_is filled at e;
          rows = plans.has.planned.rows;
          are = plans.has.planned.are;
          most =
              let count : length p.document.now ≡ cells_for (length (stored_bytes id body)) =
              plans.suits.document ∙ ap cells_for plans.document.bytes in
              omega (
                arith,
                count,
                plans.blocks,
                ap (λ (l : List (List ℕ)). length l) plans.journal,
                plans.has.planned.most,
              );
        }))

  module _ (begins : BeginsSteady old new) (more : HasOneMore id None body n old new) (documents : List Document)
      (held : Held old.cells old.image documents) (g : Layout) (volume : IsVolume old.cells old.image g) where
    -- it was put: else just the documents that stood would stand
    not_so : Held new.cells new.image documents → ⊥
    not_so now = not_held old new device device_new begins id None body n more documents held now

    pub one_further : IngestComesTo id None body old new → IsOneFurther g id body old.image new.image
    one_further (ingesting.nothing same) = absurd (not_so (held_unmoved same documents held))
    one_further (ingesting.settling refusal settles) = absurd (not_so
        (subst (λ (k : ℕ). Held k new.image documents) (sym settles.called.cells)
        (settling_keeps old new (Err refusal) device device_new tells settles still steady documents held)))
    one_further (ingesting.settled r h) = absurd (not_so
        (looking_keeps old new r tells h still device device_new steady documents held))
    one_further (ingesting.put looked r p h device_looked less plans puts) =
        subst (λ (l : Layout). IsOneFurther l id body old.image new.image)
        (ready_layout old looked r g h tells volume).0 (further looked r p h device_looked less plans puts)

-- a settled volume of which so many slots are taken, and at most so many cells for each
pub record IsStocked (g : Layout) (taken : ℕ) (s : DeviceState) : Type 0 where
  pub volume : IsVolume s.cells s.image g
  pub settled : Settled s.cells s.image
  pub horizon : IsHorizon g s.image s.image taken
  pub edge : (at : ℕ) → IsEdge g s.image s.image at → at ≤ pool_at g + 5202 * taken

pub settled_by : (g : Layout) (s : DeviceState) → IsVolume s.cells s.image g → Settled s.cells s.image
    → IsSettled g s.image
settled_by g s volume whole = subst (λ (l : Layout). IsSettled l s.image)
    (one_layout {cells = s.cells} {more = s.cells} whole.layout g whole.volume volume) whole.settled

-- one more
pub stocked_more : (g : Layout) (k : ℕ) (id body : List ℕ) (s t : DeviceState) → IsStocked g k s
    → IsVolume t.cells t.image g → Settled t.cells t.image → (f : IsOneFurther g id body s.image t.image)
    → cells_for (length (stored_bytes id body)) ≤ 8 → length f.rows ≤ 20 → IsStocked g (k + 1) t
stocked_more g k id body s t stocked volume whole f short few =
    let one : f.slot ≡ k = one_horizon g s.image (settled_by g s stocked.volume stocked.settled) f.slot k f.was
    stocked.horizon in
    let low = stocked.edge f.start f.start_is in
    record {
      volume = volume;
      settled = whole;
      horizon = subst (λ (n : ℕ). IsHorizon g t.image t.image (n + 1)) one f.is;
      edge = λ at e. omega (arith, f.edge at e, low, f.most, short, few);
    }
