-- What it means that a plan is put onto a volume that was settled, or that this was ended.
use Rattle.std.specs.Prelude.{◌≡◌, ◌<◌, ◌⊎◌, ℕ, List, length, slice_get, Some, None, Result, Ok, Err, IsTrue}
use Rattle.cell_types.specs.Image.{Image, Extends, IsUnchanged}
use Rattle.cell_types.specs.Layout.{Layout, spare_at}
use Rattle.cell_types.specs.declared.refusal.Evidence.{Evidence}
use Rattle.cell_types.specs.declared.refusal.Fault.{Fault}
use Rattle.cell_types.specs.declared.refusal.Fault.TheVariants.{Tampered, Failed}
use Rattle.volume_meaning.specs.Documents.{Stands}
use Rattle.volume_meaning.specs.Slots.{IsDone, IsStampOf, IsUnused}
use Rattle.tamper_rules.specs.Rules.{IsBroken}
use Rattle.tamper_rules.specs.declared.numbers.TheConstants.{DONE_CELL, OTHER_TARGET, OUTCOME_CELL, RESERVE_CELL, STRAY_CELL}
use Rattle.worm_device.specs.Calls.{Called}
use Rattle.worm_device.specs.Counts.{Rose, IsStill}
use Rattle.worm_device.specs.State.{DeviceState}
use Rattle.recovery_engine.specs.Putting.{ChangesBy, CrashesLeavePhases, IsInFirst}
use Rattle.commit_record.specs.Licences.{IsLicensed}
use Rattle.recovery_engine.specs.Entries.{target_of}
use Rattle.plan_writer.specs.Blank.{AreBlank, IsOfNewSlot}
use Rattle.plan_writer.specs.Planned.{INGEST_PHASES, PlansDocument, ingest_phases, reserved_by}
use Rattle.plan_writer.specs.declared.plan.Plan.{Plan}

-- What putting a plan into slot n does, whatever it answers: where nobody else writes it puts no other cells, and a
-- crash leaves phases of it.
pub record PutsPlan (n : ℕ) (p : Plan) (old new : DeviceState) : Type 0 where
  pub called : Called old new
  pub only : IsTrue old.tells → IsStill old.foreign_writes new.foreign_writes
      → ChangesBy (IsInFirst (ingest_phases n p) INGEST_PHASES) old.image new.image
  pub crashes : CrashesLeavePhases (ingest_phases n p) INGEST_PHASES old new

-- A plan is carried out: slot n, which was unused, is done with the plan's cells, which were blank, as was the slot's
-- spare cell; its stamp is the plan's; its document stands; each cell of its journal stands at its target; and all that
-- stood is sure, before the volume was settled and at the call's entry, which saw what settling and others had written
-- by then.
pub record IsCarriedOut (g : Layout) (p : Plan) (n cells : ℕ) (old entry sure : Image) : Type 0 where
  pub unused : IsUnused g old n
  pub spare : old (spare_at n) ≡ None
  pub blank : AreBlank old (reserved_by p)
  pub done : IsDone g sure n p.start (reserved_by p).length p.bytes (length p.journal.now)
  pub stamp : IsStampOf g sure n p.stamp
  pub document : (id body : List ℕ) → PlansDocument p id body → Stands cells sure n id body
  pub journal : (k : ℕ) (value : List ℕ) → slice_get p.journal.now k ≡ Some value
      → sure (target_of value) ≡ Some value
  pub synced : Extends old sure
  pub stood : Extends entry sure

-- the cells that the plan's journal asks for before its own are blank
abbrev pub AsksForBlank : Plan → Image → Type 0
AsksForBlank p image =
    (k : ℕ) (value : List ℕ) → slice_get p.journal.now k ≡ Some value → target_of value < p.start
    → image (target_of value) ≡ None

-- the rules that are named while a plan is put
abbrev pub IsPlanRule : ℕ → Type 0
IsPlanRule number =
    (number ≡ RESERVE_CELL) ⊎ (number ≡ OUTCOME_CELL) ⊎ (number ≡ DONE_CELL) ⊎ (number ≡ OTHER_TARGET)
    ⊎ (number ≡ STRAY_CELL)

-- Evidence that was found while a plan was put into slot n, from entry on, seen from before the volume was settled: it
-- names one of these rules at a cell of the slot or of its reservation, and may be named; and where nobody else wrote,
-- and the journal asked for cells that were blank at entry, its rule was broken at entry, and before settling, too, and
-- nothing of the plan is put. (Cells that were blank before settling would not do: it may have carried another journal
-- out into them.)
pub record IsFoundByPlan (n : ℕ) (p : Plan) (old entry new : DeviceState) (e : Evidence) : Type 0 where
  pub rule : IsPlanRule e.rule
  pub own : IsOfNewSlot n (reserved_by p) e.cell
  pub licensed : IsLicensed old new e
  pub at_entry : IsStill old.foreign_writes new.foreign_writes → AsksForBlank p entry.image
      → IsBroken entry.cells entry.image e.rule e.cell
  pub before : IsStill old.foreign_writes new.foreign_writes → AsksForBlank p entry.image
      → IsBroken old.cells old.image e.rule e.cell
  pub unput : IsStill old.foreign_writes new.foreign_writes → AsksForBlank p entry.image
      → IsUnchanged entry.image new.image

-- how putting a plan may end, and why: from before the volume was settled, and from the call's entry
abbrev pub PutPlanEnds : Layout → Plan → ℕ → DeviceState → DeviceState → DeviceState → Result ℕ Fault → Type 0
PutPlanEnds g p n old entry new (Ok slot) =
    (slot ≡ n) × (IsTrue old.tells → IsCarriedOut g p n new.cells old.image entry.image new.sure)
PutPlanEnds g p n old entry new (Err Failed) = Rose old.faults new.faults
PutPlanEnds g p n old entry new (Err (Tampered e)) = IsTrue old.tells → IsFoundByPlan n p old entry new e
