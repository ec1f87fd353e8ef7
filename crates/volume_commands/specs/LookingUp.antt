-- The command `lookup`: it puts out the body of the document with this identifier.
use Rattle.std.specs.Prelude.{◌≡◌, ℕ, List, Result, Ok, Err}
use Rattle.cell_types.specs.Layout.{Layout}
use Rattle.cell_types.specs.declared.refusal.Refusal.{Refusal}
use Rattle.cell_types.specs.declared.refusal.Refusal.TheVariants.{BadIdentifier}
use Rattle.volume_meaning.specs.Documents.{IsIdentifier}
use Rattle.worm_device.specs.Counts.{IsStill}
use Rattle.record_query.specs.LookingUp.{LooksUp}
use Rattle.record_query.specs.declared.found.Found.{Found}
use Rattle.volume_commands.specs.Ports.{Ports}
use Rattle.command_laws.specs.WholeLogs.{HasSteadyVolume}

-- the command answers as the engine did, which has put the body out itself
abbrev pub Answers : Result Found Refusal → Result Unit Refusal → Type 0
Answers (Ok found) result = result ≡ Ok tt
Answers (Err refusal) result = result ≡ Err refusal

-- What the command does, by how far it comes. It takes no memory.
pub data DoesLookUp (id : List ℕ) (old new : Ports) (result : Result Unit Refusal) : Type 0 where
  -- the word is no identifier, and nothing is done
  misnamed : (IsIdentifier id → ⊥) → result ≡ Err BadIdentifier → new ≡ old → DoesLookUp id old new result
  -- the document is looked up, as the engine says
  looked : (answer : Result Found Refusal) → IsIdentifier id
      → LooksUp id old.device new.device old.sink new.sink answer → new.source ≡ old.source → Answers answer result
      → DoesLookUp id old new result

-- all is as the command wants it
pub record IsReadyToLookUp (id : List ℕ) (g : Layout) (old new : Ports) : Type 0 where
  pub identifier : IsIdentifier id
  pub log : HasSteadyVolume g old.device new.device
  pub no_sink_fault : IsStill old.sink.faults new.sink.faults
