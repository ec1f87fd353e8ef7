-- A look-up into memory that was refused.
use Rattle.std.proofs.Common.{◌≡◌, ◌⊎◌, inl, inr, ℕ, List, Err, refl, sym, subst}
use Rattle.cell_types.specs.declared.refusal.Refusal.{Refusal}
use Rattle.cell_types.specs.declared.refusal.Refusal.TheVariants as refusals
use Rattle.host_ports.specs.Sinks.{SinkState}
use Rattle.worm_device.specs.State.{DeviceState}
use Rattle.record_query.specs.LookingUp.{LooksUp}
use Rattle.hostile_replay.specs.Turns.{LookUpRefused}
use Rattle.hostile_replay.specs.Sinks.{without_sink}

told_of : (refused : Refusal) → ((without_sink refused ≡ refused) × (refused ≡ refusals.SinkFault → ⊥))
    ⊎ ((refused ≡ refusals.SinkFault) × (without_sink refused ≡ refusals.NoMemory))
told_of refusals.SinkFault = inr (refl, refl)
told_of refused = inl (refl, λ p. absurd cc)

pub look_up_refused : (id : List ℕ) (old new : DeviceState) (from to : SinkState) (refused refusal : Refusal)
    → LooksUp id old new from to (Err refused) → refusal ≡ without_sink refused → LookUpRefused id old new refusal
look_up_refused id old new from to refused refusal looks is = subst (LookUpRefused id old new) (sym is)
    (record { from = from; to = to; refused = refused; looks = looks; told = told_of refused })
