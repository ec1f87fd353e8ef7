-- What is promised of every list of commands, crashes at any moment and foreign writes into blank cells:
--
--     a query that completes returns every acknowledged document that matches, or names a written cell as evidence of
--     tampering; every document returned stands on the device and matches; without foreign writes no cell is named, and
--     the answers are those over the ingests in order, acknowledged ones whole and those cut short whole or absent.
--
-- Turns that follow one another (`AreInTurn`) are the events with their replies and the device's states between them.
-- Each sentence is said of one turn `t` of them, with those before and after it. `Headline`, at the end, is all of it.
use Rattle.std.specs.Prelude.{◌≡◌, ◌⊎◌, ℕ, List, [], ◌∷◌, ◌++◌, length, Contains, Option, Some, ⊤}
use Rattle.cell_types.specs.Layout.{Layout}
use Rattle.cell_types.specs.declared.refusal.Evidence.{Evidence}
use Rattle.cell_types.specs.declared.refusal.Refusal.TheVariants as refusals
use Rattle.volume_meaning.specs.Documents.{AreDocuments, Document, Stands}
use Rattle.volume_meaning.specs.Volumes.{IsVolume}
use Rattle.tamper_rules.specs.Rules.{IsBroken, IsPlaceOf}
use Rattle.tamper_rules.specs.Settling.{Held}
use Rattle.worm_device.specs.Counts.{Rose}
use Rattle.worm_device.specs.State.{DeviceState, IsDevice}
use Rattle.worm_memory.specs.Memory.{Memory, device_of}
use Rattle.ingest_engine.specs.Ingesting.{document_in}
use Rattle.record_query.specs.Finding.{HasMatch, HasTerms, MatchesRise}
use Rattle.record_query.specs.declared.found.Match.{Match}
use Rattle.script_events.specs.declared.event.Event.{Event}
use Rattle.script_events.specs.declared.event.Event.TheVariants as event
use Rattle.script_events.specs.declared.event.Schedule.{Schedule}
use Rattle.script_replies.specs.declared.reply.Reply.{Reply}
use Rattle.script_replies.specs.declared.reply.Reply.TheVariants as reply
use Rattle.command_laws.specs.Telling.{AreMatchesOf}
use Rattle.hostile_replay.specs.Worlds.{AreInTurn, Turn, acknowledged}

-- A query that completes returns every acknowledged document that matches, or names a cell. A find that is done tells
-- of each of these documents that has the terms, by the rule of words of the volume that stands. A look-up of the
-- identifier of one of them answers just this one; never is it absent. What else a query may answer is that it names a
-- cell, or that it was not completed.
abbrev pub Returns : List Document → Event → Reply → DeviceState → Type 0
Returns documents (event.Find terms plan) (reply.Found matches) s =
    (d : Document) → Contains documents d → HasTerms s.cells s.image d.body terms → HasMatch matches d.slot d.id d.body
Returns documents (event.Lookup id plan) (reply.Body slot body) s =
    (d : Document) → Contains documents d → d.id ≡ id → (slot ≡ d.slot) × (body ≡ d.body)
Returns documents (event.Lookup id plan) (reply.Refused refusals.Absent) s =
    (d : Document) → Contains documents d → d.id ≡ id → ⊥
Returns documents e r s = ⊤

-- whoever writes in the meantime, and whatever crashes fall, each document that was acknowledged before is returned
abbrev pub AcknowledgedAreReturned : Type 0
AcknowledgedAreReturned =
    (from to : Memory) (before after : List Turn) (t : Turn) → IsDevice (device_of from)
    → AreInTurn from (before ++ t ∷ after) to → Returns (acknowledged before) t.event t.reply (device_of t.old)

-- the match is of a document that stands in the image, and that has the terms by the volume's rule of words
pub record StandsAndMatches (s : DeviceState) (terms : List (List ℕ)) (found : Match) : Type 0 where
  pub body : List ℕ
  pub stands : Stands s.cells s.image found.slot found.identifier body
  pub bytes_is : found.bytes ≡ length body
  pub has : HasTerms s.cells s.image body terms

-- Every document that is returned stands on the device and matches; slots rise.
abbrev pub ReturnsStanding : Event → Reply → DeviceState → Type 0
ReturnsStanding (event.Find terms plan) (reply.Found matches) s =
    ((found : Match) → Contains matches found → StandsAndMatches s terms found) × MatchesRise 0 matches
ReturnsStanding (event.Lookup id plan) (reply.Body slot body) s = Stands s.cells s.image slot id body
ReturnsStanding e r s = ⊤

abbrev pub ReturnedStand : Type 0
ReturnedStand =
    (from to : Memory) (before after : List Turn) (t : Turn) → AreInTurn from (before ++ t ∷ after) to
    → ReturnsStanding t.event t.reply (device_of t.new)

-- The cell that is named is written, with the value that is told. It is a place of its rule, by the layout of cell 0;
-- and the rule is broken there, or somebody else wrote in this event.
pub record IsEvident (e : Evidence) (old new : DeviceState) : Type 0 where
  pub stands : new.image e.cell ≡ Some e.found
  pub layout : Layout
  pub volume : IsVolume new.cells new.image layout
  pub place : IsPlaceOf layout e.rule e.cell
  pub broken : IsBroken new.cells new.image e.rule e.cell ⊎ Rose old.foreign_writes new.foreign_writes

-- whatever is refused as tampered with is evident
abbrev pub TamperingIsEvident : Type 0
TamperingIsEvident =
    (from to : Memory) (before after : List Turn) (t : Turn) (e : Evidence)
    → AreInTurn from (before ++ t ∷ after) to
    → t.reply ≡ reply.Refused (refusals.Tampered e) → IsEvident e (device_of t.old) (device_of t.new)

-- a new device: nothing is recorded, so all cells are blank; and nobody else has written
pub record IsNew (m : Memory) : Type 0 where
  pub changes : m.changes ≡ []
  pub undisturbed : m.foreign_writes ≡ 0

-- without foreign writes, up to now
abbrev pub IsUndisturbed : Memory → Type 0
IsUndisturbed m = m.foreign_writes ≡ 0

-- the event is a query, and it is done
abbrev pub IsDoneQuery : Event → Reply → Type 0
IsDoneQuery (event.Find terms plan) (reply.Found matches) = ⊤
IsDoneQuery (event.Lookup id plan) (reply.Body slot body) = ⊤
IsDoneQuery (event.Lookup id plan) (reply.Refused refusals.Absent) = ⊤
IsDoneQuery e r = ⊥

-- The answer is the one over these documents: the matches of just those that have the terms, a document with the
-- identifier, or that there is none.
abbrev pub TellsExactly : List Document → Event → Reply → DeviceState → Type 0
TellsExactly documents (event.Find terms plan) (reply.Found matches) s = AreMatchesOf s terms documents matches
TellsExactly documents (event.Lookup id plan) (reply.Body slot body) s =
    Contains documents (record { slot = slot; id = id; body = body })
TellsExactly documents (event.Lookup id plan) (reply.Refused refusals.Absent) s =
    (d : Document) → Contains documents d → d.id ≡ id → ⊥
TellsExactly documents e r s = ⊤

-- Without foreign writes no cell is named, and a query that is done answers over just the documents that were held
-- before it, which stand behind it.
pub record ToldIsExact : Type 0 where
  pub unnamed : (from to : Memory) (before after : List Turn) (t : Turn) (e : Evidence) → IsDevice (device_of from)
      → IsNew from → AreInTurn from (before ++ t ∷ after) to → IsUndisturbed t.new
      → t.reply ≡ reply.Refused (refusals.Tampered e) → ⊥
  pub exact : (from to : Memory) (before after : List Turn) (t : Turn) → IsDevice (device_of from)
      → IsNew from → AreInTurn from (before ++ t ∷ after) to → IsUndisturbed t.new → IsDoneQuery t.event t.reply
      → (documents : List Document) × Held t.old.cells (device_of t.old).image documents
      × AreDocuments t.new.cells (device_of t.new).image documents
      × TellsExactly documents t.event t.reply (device_of t.new)

-- an event gives no document, unless it is an ingest that was acknowledged
abbrev pub MayGiveNone : Event → Reply → Type 0
MayGiveNone (event.Ingest id stamp body plan) (reply.Acknowledged n) = ⊥
MayGiveNone e r = ⊤

-- Which documents an event may have given, by its answer: an ingest gives its own whole, in the slot that it was
-- acknowledged in; where it was cut short, its own whole in some slot, or none; and nothing else gives any.
pub data MayGive : Event → Reply → List Document → Type 0 where
  stored : (id : List ℕ) (stamp : Option ℕ) (body : List ℕ) (plan : Schedule) (n : ℕ)
      → MayGive (event.Ingest id stamp body plan) (reply.Acknowledged n) (document_in n id body ∷ [])
  cut_short : (id : List ℕ) (stamp : Option ℕ) (body : List ℕ) (plan : Schedule) (n : ℕ)
      → MayGive (event.Ingest id stamp body plan) (reply.Refused refusals.DeviceFault) (document_in n id body ∷ [])
  none : (e : Event) (r : Reply) → MayGiveNone e r → MayGive e r []

-- these documents come from these turns, in their order
pub data ComeFrom : List Turn → List Document → Type 0 where
  nothing_came : ComeFrom [] []
  followed : (turns : List Turn) (documents : List Document) (t : Turn) (given : List Document)
      → ComeFrom turns documents
      → MayGive t.event t.reply given → ComeFrom (turns ++ t ∷ []) (documents ++ given)

-- what is held comes from the ingests
pub record HoldsIngests (turns : List Turn) (s : DeviceState) : Type 0 where
  pub documents : List Document
  pub held : Held s.cells s.image documents
  pub come : ComeFrom turns documents

-- Without foreign writes what is held are the documents of the ingests in order, acknowledged ones whole and those cut
-- short whole or absent; and each document that was sure is held from then on, whatever crashes fall.
pub record IngestsAreHeld : Type 0 where
  pub held : (from : Memory) (before : List Turn) (mid : Memory) → IsDevice (device_of from) → IsNew from
      → AreInTurn from before mid → IsUndisturbed mid → HoldsIngests before (device_of mid)
  pub stay : (from to : Memory) (before after : List Turn) (mid : Memory) → IsDevice (device_of from) → IsNew from
      → AreInTurn from before mid → AreInTurn mid after to → IsUndisturbed to
      → (sure documents : List Document) → Held mid.cells (device_of mid).sure sure
      → Held to.cells (device_of to).image documents → (d : Document) → Contains sure d → Contains documents d

-- For every list of commands, crashes at any moment and foreign writes into blank cells:
pub record Headline : Type 0 where
  -- a query that completes returns every acknowledged document that matches,
  pub returned : AcknowledgedAreReturned
  -- or names a written cell as evidence of tampering;
  pub evident : TamperingIsEvident
  -- every document returned stands on the device and matches;
  pub stand : ReturnedStand
  -- without foreign writes no cell is named, and the answers are those over what is held,
  pub exact : ToldIsExact
  -- which are the ingests in order, acknowledged ones whole and those cut short whole or absent.
  pub held : IngestsAreHeld
