-- What a command from a steady device on leaves, where nobody else writes, and what a query tells.
use Rattle.std.specs.Prelude.{◌≡◌, ℕ, List, [], length, Contains}
use Rattle.volume_meaning.specs.Documents.{AreDocuments, Document}
use Rattle.tamper_rules.specs.Settling.{Held, Settled}
use Rattle.worm_device.specs.State.{DeviceState}
use Rattle.crash_laws.specs.SettlingSteadiness.{StaysSteady}
use Rattle.record_query.specs.Finding.{HasMatch, HasTerms, MatchesRise}
use Rattle.record_query.specs.declared.found.Match.{Match}

-- A crash in the command leaves an image that is blank or sound, with the documents that were sure at entry or those
-- that stood there. Behind it, whatever it answers, the device is steady and holds the documents that stood at entry.
pub record LeavesHeld (old new : DeviceState) : Type 0 where
  pub stays : StaysSteady old new
  pub keeps : (documents : List Document) → Held old.cells old.image documents
      → Held new.cells new.image documents

-- These are the matches of just those documents that have the terms, by the rule of words of the volume that stands
-- there, and by rising slot.
pub record AreMatchesOf (s : DeviceState) (terms : List (List ℕ)) (documents : List Document) (matches : List Match)
    : Type 0 where
  pub all : (d : Document) → Contains documents d → HasTerms s.cells s.image d.body terms
      → HasMatch matches d.slot d.id d.body
  pub only : (found : Match) → Contains matches found → (body : List ℕ)
      × Contains documents (record { slot = found.slot; id = found.identifier; body = body })
      × (found.bytes ≡ length body) × HasTerms s.cells s.image body terms
  pub rise : MatchesRise 0 matches

-- the device is a settled volume without documents
pub record IsFormatted (s : DeviceState) : Type 0 where
  pub settled : Settled s.cells s.image
  pub none : AreDocuments s.cells s.image []
