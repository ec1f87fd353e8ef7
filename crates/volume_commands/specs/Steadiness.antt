-- A command from a steady device on, where nobody else writes: what a crash leaves of it, at whichever moment; which
-- documents stand behind it; and that a query tells of just those.
use Rattle.std.specs.Prelude.{◌≡◌, ◌<◌, ◌≤◌, ◌-◌, ℕ, List, length, Contains, Option, Result, Ok, Err, ⊤}
use Rattle.cell_types.specs.Layout.{Layout}
use Rattle.cell_types.specs.declared.refusal.Evidence.{Evidence}
use Rattle.cell_types.specs.declared.refusal.Refusal.{Refusal}
use Rattle.cell_types.specs.declared.refusal.Refusal.TheVariants.{Absent, Full, SinkFault, Tampered}
use Rattle.host_ports.specs.Sources.{Gives}
use Rattle.volume_meaning.specs.Documents.{Document}
use Rattle.volume_meaning.specs.Slots.{IsEdge, IsHorizon}
use Rattle.volume_meaning.specs.Volumes.{IsVolume}
use Rattle.volume_meaning.specs.declared.word_rules.WordRule.{WordRule}
use Rattle.tamper_rules.specs.Settling.{Held, Sound}
use Rattle.ingest_laws.specs.Needs.{IsNeed}
use Rattle.worm_device.specs.State.{DeviceState}
use Rattle.crash_laws.specs.SettlingSteadiness.{StaysSteady}
use Rattle.crash_laws.specs.Steadiness.{HasOneMore, StaysSteadyBy}
use Rattle.record_query.specs.declared.found.Match.{Match}
use Rattle.receipt_text.specs.Form.{text_of_receipt}
use Rattle.receipt_text.specs.declared.receipt.Receipt.{Receipt}
use Rattle.receipt_check.specs.Checks.{ShowsDocument}
use Rattle.command_laws.specs.Telling.{AreMatchesOf, IsFormatted}
use Rattle.command_line.specs.Requests.{Request, ToAudit, ToCheck, ToExercise, ToFind, ToFindBetween, ToFormat, ToIngest, ToLookUp, ToMakeReceipt, ToRecover, ToReplay}
use Rattle.volume_commands.specs.Ingesting.{HasRefused, WasStored, acknowledgement}
use Rattle.volume_commands.specs.Finding.{AreTermsOf, find_text}
use Rattle.volume_commands.specs.Ports.{Ports, PutsOut, Tells}
use Rattle.volume_commands.specs.Ruling.{HasRule}
use Rattle.volume_commands.specs.Spanning.{span_text}
use Rattle.time_index.specs.Spans.{FindsSpanOf, IsStampedSlot, SlotsRise}
use Rattle.time_index.specs.declared.found.TimeMatch.{TimeMatch}

-- A crash in the command leaves an image that is blank or sound, with the documents that were sure at entry or those
-- that stood there. Behind it, whatever it answers, the device is steady and holds the documents that stood at entry;
-- and no tampering is named.
pub record AddsNone (old new : Ports) (result : Result Unit Refusal) : Type 0 where
  pub stays : StaysSteady old.device new.device
  pub keeps : (documents : List Document) → Held old.device.cells old.device.image documents
      → Held new.device.cells new.device.image documents
  pub no_alarm : (e : Evidence) → result ≡ Err (Tampered e) → ⊥

-- A find that is done has told of just those documents that the volume held at entry and that have the words, by the
-- volume's rule.
abbrev pub FindsHeld : List (List ℕ) → Ports → Ports → Result Unit Refusal → Type 0
FindsHeld asked old new (Ok u) =
    (documents : List Document) → Held old.device.cells old.device.image documents
    → (rule : WordRule) × (terms : List (List ℕ)) × (matches : List Match)
    × HasRule new.device.cells new.device.image rule × AreTermsOf rule asked terms
    × AreMatchesOf new.device terms documents matches × PutsOut (find_text matches) old new
FindsHeld asked old new (Err refusal) = ⊤

-- A look-up that is done has put out the body of a document that the volume held at entry, with the identifier; and
-- where it answers that there is none, none had it.
abbrev pub LooksUpHeld : List ℕ → Ports → Ports → Result Unit Refusal → Type 0
LooksUpHeld id old new (Ok u) =
    (documents : List Document) → Held old.device.cells old.device.image documents
    → (n : ℕ) × (body : List ℕ) × Contains documents (record { slot = n; id = id; body = body }) × PutsOut body old new
LooksUpHeld id old new (Err Absent) =
    (documents : List Document) → Held old.device.cells old.device.image documents
    → (d : Document) → Contains documents d → d.id ≡ id → ⊥
LooksUpHeld id old new (Err refusal) = ⊤

-- A receipt that is put out is of a document that the volume held at entry, with the identifier: its cells alone keep
-- it. Where it answers that there is none, none had the identifier.
abbrev pub ShowsHeld : List ℕ → Ports → Ports → Result Unit Refusal → Type 0
ShowsHeld id old new (Ok u) =
    (documents : List Document) → Held old.device.cells old.device.image documents
    → (r : Receipt) × (body : List ℕ) × Contains documents (record { slot = r.slot; id = id; body = body })
    × ShowsDocument new.device.cells r body × PutsOut (text_of_receipt r) old new
ShowsHeld id old new (Err Absent) =
    (documents : List Document) → Held old.device.cells old.device.image documents
    → (d : Document) → Contains documents d → d.id ≡ id → ⊥
ShowsHeld id old new (Err refusal) = ⊤

-- These are the matches of just those of the documents whose stamps lie from one time to another, by rising slot.
pub record AreTimeMatchesOf (s : DeviceState) (from to : ℕ) (documents : List Document) (matches : List TimeMatch)
    : Type 0 where
  pub all : FindsSpanOf s.cells s.image from to matches documents
  pub only : (found : TimeMatch) → Contains matches found → (body : List ℕ)
      × Contains documents (record { slot = found.slot; id = found.identifier; body = body })
      × (found.bytes ≡ length body) × IsStampedSlot s.cells s.image found.slot found.seconds × (from ≤ found.seconds)
      × (found.seconds ≤ to)
  pub rise : SlotsRise 0 matches

-- A search by time that is done has told of just those documents that the volume held at entry and whose stamps lie in
-- the span.
abbrev pub FindsHeldBetween : ℕ → ℕ → Ports → Ports → Result Unit Refusal → Type 0
FindsHeldBetween from to old new (Ok u) =
    (documents : List Document) → Held old.device.cells old.device.image documents
    → (matches : List TimeMatch) × AreTimeMatchesOf new.device from to documents matches
    × PutsOut (span_text matches) old new
FindsHeldBetween from to old new (Err refusal) = ⊤

-- a format that is done leaves a settled volume without documents, also where it could not be told
abbrev pub LeavesFormatted : Ports → Result Unit Refusal → Type 0
LeavesFormatted new (Ok u) = IsFormatted new.device
LeavesFormatted new (Err SinkFault) = IsFormatted new.device
LeavesFormatted new (Err refusal) = ⊤

-- So much was needed of the sound volume that stood, once it is settled, for the document in its first free slot, with
-- this stamp; and so many cells are free behind its edge, which are fewer.
pub record IsExactlyTooMany (id : List ℕ) (stamp : Option ℕ) (body : List ℕ) (need free : ℕ) (old : DeviceState)
    : Type 0 where
  pub sound : Sound old.cells old.image
  pub layout : Layout
  pub volume : IsVolume old.cells sound.after layout
  pub slot : ℕ
  pub horizon : IsHorizon layout sound.after sound.after slot
  pub edge : ℕ
  pub is_edge : IsEdge layout sound.after sound.after edge
  pub need_is : IsNeed layout sound.after slot id body stamp need
  pub free_is : free ≡ layout.cells - edge
  pub less : free < need

-- A crash in an ingest leaves an image that is blank or sound, with the documents that were sure at entry, those that
-- stood there, or these and the new one behind them with its stamp; the device is steady behind it, and no tampering is
-- named. Where the document is stored, the volume is settled, all of it sure, and has it behind the documents that it
-- held, with its stamp, in the slot that is acknowledged; any refusal but a fault of the device leaves the documents as
-- they were; and where there was no room, the need is exact. The body is what the source gave.
pub record AddsOne (id : List ℕ) (stamp : Option ℕ) (old new : Ports) (result : Result Unit Refusal) : Type 0 where
  pub body : List ℕ
  pub gives : Gives old.source.left new.source.left body
  pub stays : StaysSteadyBy id stamp body old.device new.device
  pub no_alarm : (e : Evidence) → result ≡ Err (Tampered e) → ⊥
  pub adds : WasStored result
      → (n : ℕ) × HasOneMore id stamp body n old.device new.device × Tells acknowledgement (Ok n) old new result
  pub keeps : HasRefused result → (documents : List Document)
      → Held old.device.cells old.device.image documents → Held new.device.cells new.device.image documents
  pub needs : (need free : ℕ) → result ≡ Err (Full need free) → IsExactlyTooMany id stamp body need free old.device

-- What a command leaves, and of a query what it tells, by what was asked for. A replay and an exercise leave the device
-- alone; what is left on their own is said elsewhere.
abbrev pub LeavesWhole : Request → Ports → Ports → Result Unit Refusal → Type 0
LeavesWhole (ToFormat slots lists version) old new result = AddsNone old new result × LeavesFormatted new result
LeavesWhole (ToIngest id stamp) old new result = AddsOne id stamp old new result
LeavesWhole (ToFind asked) old new result = AddsNone old new result × FindsHeld asked old new result
LeavesWhole (ToLookUp id) old new result = AddsNone old new result × LooksUpHeld id old new result
LeavesWhole ToRecover old new result = AddsNone old new result
LeavesWhole ToAudit old new result = AddsNone old new result
LeavesWhole ToReplay old new result = AddsNone old new result
LeavesWhole (ToExercise documents) old new result = AddsNone old new result
LeavesWhole ToCheck old new result = AddsNone old new result
LeavesWhole (ToMakeReceipt id) old new result = AddsNone old new result × ShowsHeld id old new result
LeavesWhole (ToFindBetween from to) old new result = AddsNone old new result × FindsHeldBetween from to old new result
