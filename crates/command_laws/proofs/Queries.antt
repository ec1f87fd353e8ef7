-- What a crash leaves of settling, and of calls that settle first and then look alone, from a steady device on, where
-- nobody else writes.
use Rattle.std.proofs.Common.{ℕ, Result, Err, sym, subst}
use Rattle.cell_types.specs.declared.refusal.Refusal.{Refusal}
use Rattle.tamper_rules.specs.Settling.{Held}
use Rattle.worm_device.specs.State.{DeviceState, IsDevice}
use Rattle.recovery_engine.specs.Settling.{Settles, SettlesFirst, settled, settling}
use Rattle.recovery_engine.specs.declared.settling.Ready.{Ready}
use Rattle.crash_laws.proofs.LeftWhole.{settling_keeps, settling_left, stays_steady}
use Rattle.crash_laws.proofs.LookedAt.{looking_keeps, looking_steady}
use Rattle.command_laws.specs.Begins.{BeginsSteady}
use Rattle.command_laws.specs.Telling.{LeavesHeld}

module _ (old new : DeviceState) (device : IsDevice old) (device_new : IsDevice new)
    (begins : BeginsSteady old new) where
  -- settling, whatever it answers
  pub settling_leaves : (answer : Result Ready Refusal) → Settles old new answer → LeavesHeld old new
  settling_leaves answer settles = record {
    stays = stays_steady old new device begins.steady settles.called.cells
        (settling_left old new answer device begins.tells settles begins.alone begins.steady);
    keeps = λ documents held. subst (λ (k : ℕ). Held k new.image documents) (sym settles.called.cells)
        (settling_keeps old new answer device device_new begins.tells settles begins.alone begins.steady
        documents held);
  }

  -- queries settle, and then look alone
  pub query_leaves : {X : Type 0} {answer : Result X Refusal} → SettlesFirst X old new answer → LeavesHeld old new
  query_leaves (settling refusal is settles) = settling_leaves (Err refusal) settles
  query_leaves (settled r has) = record {
    stays = looking_steady old new r begins.tells has begins.alone device device_new begins.steady;
    keeps = λ documents held.
        looking_keeps old new r begins.tells has begins.alone device device_new begins.steady documents held;
  }
