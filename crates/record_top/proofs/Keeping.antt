-- From what a command does to the cells of a device to what it does to the bytes of the file below.
use Rattle.std.specs.Prelude.{◌≡◌, ℕ, List, [], Option, Some, None, Result, Ok, Err, IsTrue, is_some, true, false}
use Rattle.std.proofs.Common.{refl, sym, subst, arith, inl, ⊎_elim}
use Rattle.cell_types.specs.Image.{Image, Between, Extends}
use Rattle.cell_types.specs.declared.refusal.Refusal.{Refusal}
use Rattle.cell_types.specs.declared.refusal.Refusal.TheVariants.{SinkFault}
use Rattle.host_files.specs.Cells.{image_of_bytes}
use Rattle.host_files.specs.Crashes.{CrashesAreSeen}
use Rattle.host_files.specs.Device.{device_at}
use Rattle.host_files.specs.File.{Told}
use Rattle.host_ports.specs.Sinks.{SinkState}
use Rattle.host_ports.specs.Sources.{Gives, SourceState}
use Rattle.ingest_engine.specs.Ingesting.{IngestEnds, Ingests, IsIngested}
use Rattle.volume_commands.specs.Ingesting.{DoesIngest, WasStored, acknowledgement, misnamed, untaken, taken}
use Rattle.volume_commands.specs.Ports.{Ports, Tells, ports_of}
use Rattle.volume_commands.specs.Taking.{refusal_of_body_fault}
use Rattle.volume_commands.specs.declared.body.BodyFault.{BodyFault}
use Rattle.volume_commands.specs.declared.body.BodyFault.TheVariants as faults
use Rattle.volume_commands.proofs.Pieces.{gives_nothing}
use Rattle.volume_meaning.specs.Documents.{Document, Stands}
use Rattle.volume_meaning.specs.Slots.{HasStamp, IsStampOf}
use Rattle.volume_meaning.specs.Keeping.{Kept}
use Rattle.volume_meaning.proofs.KeepingLaws.{kept_on}
use Rattle.volume_meaning.proofs.Extending.{holds_on, stands_on}
use Rattle.worm_device.specs.Calls.{Called}
use Rattle.worm_device.specs.State.{DeviceState, LeftSince}
use Rattle.record_top.specs.Files.{Acknowledges, IsKeptIn, IsLedToIn, IsStampedIn, IsDocumentStored, KeepsAllOfFile, KeepsIn, WhereTold, file_ports}

-- what a crash from now on leaves has what is sure
left_now : (s : DeviceState) (image : Image) → LeftSince s s.moment image → Between s.sure s.image image
left_now s image left = ⊎_elim (λ now. now) (λ past. absurd (omega (arith, past.1, past.2))) left

-- a document of the sure image is kept
kept_told : (cells reads faults parts : ℕ) (told : Told)
    → CrashesAreSeen (device_at cells reads faults parts (Some told)) (Some told)
    → (n : ℕ) (id body : List ℕ) → Stands cells (image_of_bytes cells told.now.sure) n id body
    → IsKeptIn cells told n id body
kept_told cells reads faults parts told seen n id body stands = record {
  sure = stands;
  left = λ bytes leaves.
      let now = left_now (device_at cells reads faults parts (Some told)) (image_of_bytes cells bytes)
      (seen told told.moment bytes refl (inl leaves)) in
      stands_on now.above stands;
}

-- and so is a stamp
stamp_told : (cells reads faults parts : ℕ) (told : Told)
    → CrashesAreSeen (device_at cells reads faults parts (Some told)) (Some told) → (n seconds : ℕ)
    → HasStamp (image_of_bytes cells told.now.sure) n seconds → IsStampedIn cells told n seconds
stamp_told cells reads faults parts told seen n seconds has = record {
  sure = has;
  left = λ bytes leaves.
      let now = left_now (device_at cells reads faults parts (Some told)) (image_of_bytes cells bytes)
      (seen told told.moment bytes refl (inl leaves)) in
      holds_on now.above has;
}

-- what the index leads to in the sure image it goes on leading to
led_told : (cells reads faults parts : ℕ) (told : Told)
    → CrashesAreSeen (device_at cells reads faults parts (Some told)) (Some told) → {documents : List Document}
    → Kept cells (image_of_bytes cells told.now.sure) documents → IsLedToIn cells told documents
led_told cells reads faults parts told seen kept = record {
  sure = kept;
  left = λ bytes leaves.
      let now = left_now (device_at cells reads faults parts (Some told)) (image_of_bytes cells bytes)
      (seen told told.moment bytes refl (inl leaves)) in
      kept_on now.above kept;
}

-- what stands in these bytes is sure, and so each of their documents is kept
keeps_all : (before cells reads faults parts : ℕ) (bytes : List ℕ) (told : Told) → before ≡ cells
    → CrashesAreSeen (device_at cells reads faults parts (Some told)) (Some told)
    → Extends (image_of_bytes before bytes) (image_of_bytes cells told.now.sure) → KeepsAllOfFile cells bytes told
keeps_all before cells reads faults parts bytes told same seen extends n id body stands =
    kept_told cells reads faults parts told seen n id body
    (stands_on (subst (λ (k : ℕ). Extends (image_of_bytes k bytes) (image_of_bytes cells told.now.sure)) same extends)
    stands)

-- a device that tells goes on telling
one_tells : true ≡ false → ⊥
one_tells e = absurd cc

-- whatever was sure is kept
pub stays : (b r f p cells reads faults parts : ℕ) (old new : Option Told)
    → Called (device_at b r f p old) (device_at cells reads faults parts new)
    → CrashesAreSeen (device_at cells reads faults parts new) new
    → WhereTold old new (λ before after. KeepsAllOfFile cells before.now.sure after)
stays b r f p cells reads faults parts None None called seen = tt
stays b r f p cells reads faults parts None (Some u) called seen = one_tells called.tells
stays b r f p cells reads faults parts (Some t) None called seen = one_tells (sym called.tells)
stays b r f p cells reads faults parts (Some t) (Some u) called seen =
    keeps_all b cells reads faults parts t.now.sure u (sym called.cells) seen called.sure

-- where the document was stored, it and each that stood is kept
stored : (b r f p cells reads faults parts : ℕ) (old new : Option Told) (id : List ℕ) (stamp : Option ℕ)
    (body : List ℕ) (slot : ℕ) (sink sink' : SinkState)
    (result : Result Unit Refusal) → Called (device_at b r f p old) (device_at cells reads faults parts new)
    → CrashesAreSeen (device_at cells reads faults parts new) new
    → (IsTrue (is_some old) → IsIngested id stamp body slot (device_at b r f p old)
    (device_at cells reads faults parts new))
    → Acknowledges result slot sink sink'
    → WhereTold old new (λ before after.
    IsDocumentStored cells id stamp body before after sink sink' result × KeepsAllOfFile cells before.now.bytes after)
stored b r f p cells reads faults parts None None id stamp body slot sink sink' result called seen ingested named = tt
stored b r f p cells reads faults parts None (Some u) id stamp body slot sink sink' result called seen ingested named =
    one_tells called.tells
stored b r f p cells reads faults parts (Some t) None id stamp body slot sink sink' result called seen ingested named =
    one_tells (sym called.tells)
stored b r f p cells reads faults parts (Some t) (Some u) id stamp body slot sink sink' result called
    seen ingested named =
    let is = ingested refl in (
      record {
        slot = slot;
        kept = kept_told cells reads faults parts u seen slot id body is.document;
        stamped = λ seconds given. stamp_told cells reads faults parts u seen slot seconds
            (subst (λ (s : Option ℕ). IsStampOf is.layout (image_of_bytes cells u.now.sure) slot s) given is.stamped).1;
        led = λ documents before. led_told cells reads faults parts u seen
            (is.keeps documents (subst (λ (k : ℕ). Kept k (image_of_bytes k t.now.bytes) documents)
            called.cells before));
        named = named;
      },
      keeps_all b cells reads faults parts t.now.bytes u (sym called.cells) seen is.synced,
    )

not_stored : (fault : BodyFault) → WasStored (Err (refusal_of_body_fault fault)) → ⊥
not_stored faults.TooLong h = h
not_stored faults.SourceFailed h = h
not_stored (faults.NoMemory lack) h = h

module _ (b r f p cells reads faults parts : ℕ) (told told' : Option Told) (id : List ℕ) (stamp : Option ℕ)
    (source source' : SourceState) (sink sink' : SinkState)
    (seen : CrashesAreSeen (device_at cells reads faults parts told') told') where
  abbrev device : DeviceState
  device = device_at b r f p told

  abbrev later : DeviceState
  later = device_at cells reads faults parts told'

  told_of : (result : Result Unit Refusal) (given : List ℕ) (answer : Result ℕ Refusal)
      → Ingests id stamp given device later answer
      → Tells acknowledgement answer (ports_of device source sink) (ports_of later source' sink') result
      → WasStored result
      → WhereTold told told' (λ before after.
      IsDocumentStored cells id stamp given before after sink sink' result
      × KeepsAllOfFile cells before.now.bytes after)
  told_of (Ok u) given (Ok slot) ingests tells has =
      stored b r f p cells reads faults parts told told' id stamp given slot sink sink' (Ok u) ingests.called seen
      ingests.ends tells
  told_of (Ok u) given (Err refused) ingests tells has = absurd tells
  told_of (Err SinkFault) given (Ok slot) ingests tells has =
      stored b r f p cells reads faults parts told told' id stamp given slot sink sink' (Err SinkFault) ingests.called
      seen ingests.ends tt
  told_of (Err SinkFault) given (Err refused) ingests tells has =
      absurd (subst (λ (refusal : Refusal). IngestEnds id stamp given device later (Err refusal))
      (sym tells.0) ingests.ends)
  told_of (Err refusal) given answer ingests tells has = absurd has

  -- where `ingest` has stored its document
  pub keeps : (result : Result Unit Refusal)
      → DoesIngest id stamp (ports_of device source sink) (ports_of later source' sink') result
      → KeepsIn cells id stamp (file_ports told source sink) (file_ports told' source' sink') result
  keeps result (misnamed bad is same) = record {
    given = [];
    gives = subst (λ (s : Ports). Gives source.left s.source.left []) (sym same) (gives_nothing source.left);
    kept = λ has. absurd (subst WasStored is has);
  }
  keeps result (untaken given fault name gives fails is same held) = record {
    given = given;
    gives = gives;
    kept = λ has. absurd (not_stored fault (subst WasStored is has));
  }
  keeps result (taken body answer name is gives end ingests tells) = record {
    given = body;
    gives = gives;
    kept = told_of result body answer ingests tells;
  }
