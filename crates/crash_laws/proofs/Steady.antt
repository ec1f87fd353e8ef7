-- An ingest leaves whole volumes, and a steady device, however far it has come.
use Rattle.std.proofs.Common.{ℕ, List, ◌∙◌, Option}
use Rattle.std.specs.Prelude.{IsTrue}
use Rattle.worm_device.specs.Counts.{IsStill}
use Rattle.worm_device.specs.State.{DeviceState, IsDevice}
use Rattle.ingest_engine.specs.Ingesting.{IngestComesTo, nothing, put, settled, settling}
use Rattle.plan_writer.proofs.PutFrom as from
use Rattle.crash_laws.specs.SettlingSteadiness.{IsSteady}
use Rattle.crash_laws.proofs.LeftWhole.{settling_left, stays_steady}
use Rattle.crash_laws.proofs.LookedAt.{looking_steady}
use Rattle.crash_laws.specs.Steadiness.{StaysSteadyBy}
use Rattle.crash_laws.proofs.LeftByIngest.{by_whole, nothing_done, stays_by}
use Rattle.crash_laws.proofs.PutPlans.{crashes_put}

module _ (id : List ℕ) (stamp : Option ℕ) (body : List ℕ) (old new : DeviceState) (device : IsDevice old)
    (device_new : IsDevice new)
    (tells : IsTrue old.tells) (still : IsStill old.foreign_writes new.foreign_writes) (steady : IsSteady old) where
  pub comes_steady : IngestComesTo id stamp body old new → StaysSteadyBy id stamp body old new
  comes_steady (nothing same) = nothing_done id stamp body old new same steady
  comes_steady (settling refusal s) = by_whole id stamp body old new (stays_steady old new device steady s.called.cells
      (settling_left old new _ device tells s still steady))
  comes_steady (settled r h) = by_whole id stamp body old new
      (looking_steady old new r tells h still device device_new steady)
  comes_steady (put looked r p h device_looked less plans puts) = stays_by id stamp body old new steady
      (crashes_put id stamp body old looked new r p tells h device device_looked less plans puts still steady)
      (puts.called.cells ∙ (from.called r h).cells)
