-- A plan that is cut short leaves a sound volume.
use Rattle.cell_types.specs.Image.{Image}
use Rattle.cell_types.specs.Layout.{Layout}
use Rattle.ingest_laws.specs.Filling.{IsWellPlanned}
use Rattle.ingest_laws.specs.Ingesting.{Plan, Phase, IsIngest, IsLeftIn, LeavesSound}
use Rattle.ingest_laws.proofs.InPhase.{left_sound}
use Rattle.ingest_laws.proofs.PlanSettled.{plan_is_settled}

pub plan_ingests : {g : Layout} {old new : Image} {p : Plan} → IsWellPlanned g old new p → IsIngest g old new p
plan_ingests w = record {
  volume = w.filled.volume;
  before = w.filled.before;
  after = (plan_is_settled w).0;
  horizon = w.filled.horizon;
  free = w.filled.reserves.slot;
  reserve = w.filled.reserves.reserve;
  commit = w.filled.commit;
  done = w.filled.done;
  rows = w.filled.rows;
}

pub plan_leaves_sound : {g : Layout} {old new : Image} {p : Plan} → IsWellPlanned g old new p
    → (image : Image) (phase : Phase) → IsLeftIn p old image phase → LeavesSound g.cells old new p.slot image
plan_leaves_sound w image phase l = left_sound (plan_ingests w) image phase l
