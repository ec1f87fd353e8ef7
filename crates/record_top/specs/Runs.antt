-- What a call does that carries out the command its words ask for.
use Rattle.std.specs.Prelude.{◌≡◌, ◌↔◌, ℕ, List, Result, Err}
use Rattle.cell_types.specs.declared.refusal.Refusal.{Refusal}
use Rattle.cell_types.specs.declared.refusal.Refusal.TheVariants.{Usage}
use Rattle.worm_device.specs.Calls.{Called}
use Rattle.command_laws.specs.Begins.{BeginsSteady}
use Rattle.command_line.specs.Requests.{Asks, AsksNothing, Request}
use Rattle.volume_commands.specs.Ports.{Ports}
use Rattle.volume_commands.specs.Steadiness.{LeavesWhole}
use Rattle.record_top.specs.Commands.{Does, IsAnswered, IsUnhindered}

-- What a call with these words does to its device, source and sink, and how it ends.
pub record Runs (words : List (List ℕ)) (old new : Ports) (result : Result Unit Refusal) : Type 0 where
  -- Whatever the words are, what is written on the device stays, and what is sure.
  pub called : Called old.device new.device
  -- Usage comes exactly where the words ask for nothing, and then nothing is done.
  pub usage : (result ≡ Err Usage) ↔ AsksNothing words
  pub unused : result ≡ Err Usage
      → (new.device ≡ old.device) × (new.source ≡ old.source) × (new.sink ≡ old.sink)
  -- Whatever the words ask for is done, and ends for a cause that is named.
  pub does : (request : Request) → Asks words request → Does request old new result
  -- Where nothing hinders what they ask for, it is done; or no memory was to be had, no document has the identifier, or
  -- its receipt would have too many cells.
  pub complete : (request : Request) → Asks words request → IsUnhindered request old new → IsAnswered request result
  -- From a steady device on, where nobody else writes, a crash leaves at every moment what settling makes whole; and
  -- behind the command just the documents stand that should, of which the queries tell.
  pub steady : (request : Request) → Asks words request → BeginsSteady old.device new.device
      → LeavesWhole request old new result
