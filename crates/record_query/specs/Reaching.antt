-- What of a settled volume a query by the index reaches.
use Rattle.std.specs.Prelude.{◌≤◌, ◌+◌, ℕ, List, Result}
use Rattle.cell_types.specs.Layout.{Layout, pool_at}
use Rattle.cell_types.specs.declared.refusal.Fault.{Fault}
use Rattle.host_ports.specs.Sinks.{SinkState}
use Rattle.worm_device.specs.State.{DeviceState}
use Rattle.worm_device.specs.Views.{Viewed, seen_directly}
use Rattle.volume_meaning.specs.Slots.{cells_for}
use Rattle.document_store.specs.Looks.{BodyEnds}
use Rattle.document_store.specs.declared.part.Part.{Part}
use Rattle.document_store.specs.declared.body.BodyFault.{BodyFault}
use Rattle.identifier_lookup.specs.Costs.{WalkCosts}
use Rattle.identifier_lookup.specs.Walks.{WalkEnds, WalkNames}
use Rattle.identifier_lookup.specs.declared.answers.Walk.{Walk}
use Rattle.recovery_engine.specs.declared.settling.Ready.{Ready}
use Rattle.posting_list.specs.declared.reach.Reach.{Reach}

-- the slots below the horizon, and the cells from the pool's start up to the edge
abbrev pub reach_of : Ready → Reach
reach_of r = record {
  volume = r.volume;
  horizon = r.horizon;
  bounds = record { pool = pool_at r.volume.geometry; edge = r.edge };
}

-- a walk along the identifier's path on the device looks alone
pub record WalksOnDevice (r : Ready) (id : List ℕ) (old new : DeviceState) (result : Result Walk Fault) : Type 0 where
  pub viewed : Viewed (seen_directly old 0) (seen_directly new 0)
  pub costs : WalkCosts r.volume.geometry id (seen_directly old 0) (seen_directly new 0)
  pub ends : WalkEnds r.volume.geometry r.horizon r.edge id (seen_directly old 0) (seen_directly new 0) result
  pub named : WalkNames r.volume.geometry id (seen_directly old 0) (seen_directly new 0) result

-- so does putting the body of a part's document, of which each cell is read once at most
pub record PutsFromDevice (g : Layout) (part : Part) (old new : DeviceState) (from to : SinkState)
    (result : Result ℕ BodyFault) : Type 0 where
  pub viewed : Viewed (seen_directly old 0) (seen_directly new 0)
  pub reads : new.reads ≤ old.reads + cells_for part.bytes
  pub ends : BodyEnds g part.slot (seen_directly old 0) (seen_directly new 0) from to result
