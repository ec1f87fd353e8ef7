-- What it means that a document is looked up by its identifier.
use Rattle.std.specs.Prelude.{◌≡◌, ◌<◌, ◌≤◌, ◌+◌, ◌*◌, ◌⊎◌, ℕ, List, length, take, Contains, Result, Ok, Err, IsTrue, ⊤}
use Rattle.cell_types.specs.Layout.{Layout}
use Rattle.cell_types.specs.declared.geometry.TheConstants.{MAX_SLOTS}
use Rattle.cell_types.specs.declared.refusal.Evidence.{Evidence}
use Rattle.cell_types.specs.declared.refusal.Refusal.{Refusal}
use Rattle.cell_types.specs.declared.refusal.Refusal.TheVariants.{Absent, DeviceFault, NotAVolume, NotFormatted, SinkFault, Tampered, WrongSize}
use Rattle.commit_record.specs.Licences.{IsLicensed}
use Rattle.volume_meaning.specs.Documents.{Document, Stands}
use Rattle.volume_meaning.specs.Volumes.{IsVolume}
use Rattle.volume_meaning.specs.Keeping.{Kept}
use Rattle.tamper_rules.specs.Settling.{Settled}
use Rattle.host_ports.specs.Sinks.{Gets, SinkState}
use Rattle.worm_device.specs.Calls.{Called}
use Rattle.worm_device.specs.Counts.{IsStill, Rose}
use Rattle.worm_device.specs.State.{DeviceState}
use Rattle.recovery_engine.specs.Settling.{IsSettlingRule, SettleEnds, Settles, SettlesFirst}
use Rattle.document_store.specs.declared.body.BodyFault.{BodyFault}
use Rattle.document_store.specs.declared.body.BodyFault.TheVariants as bodies
use Rattle.hash_tree.specs.declared.level.Level.{Level}
use Rattle.hash_tree.specs.declared.path.Open.{Open}
use Rattle.identifier_lookup.specs.Costs.{HaveMates, Mate, mate_cells}
use Rattle.identifier_lookup.specs.Walks.{IsBlankIn, IsFirstOnPath, IsPassedUpToPlace, IsPassedWhole, IsWalkRule, LiesOnPath}
use Rattle.record_query.specs.declared.found.Found.{Found}

-- slot n stands with this identifier and body, and is the first on the identifier's path: each bucket above is passed
pub record IsFirstOfPath (id body : List ℕ) (n : ℕ) (new : DeviceState) : Type 0 where
  pub layout : Layout
  pub volume : IsVolume new.cells new.image layout
  pub stands : Stands new.cells new.image n id body
  pub first : IsFirstOnPath layout new.cells new.image id n

-- where one of these documents has the identifier, it is the one in slot n with this body
abbrev pub IsThatOf : List ℕ → List ℕ → ℕ → List Document → Type 0
IsThatOf id body n documents = (d : Document) → Contains documents d → d.id ≡ id → (d.slot ≡ n) × (d.body ≡ body)

-- The document was looked up: it stands, the first on its path; and where a document that was kept at entry has the
-- identifier, it is that one; so it is, where nobody else wrote, of those that are kept at exit.
pub record IsLookedUp (id body : List ℕ) (n : ℕ) (old new : DeviceState) : Type 0 where
  pub first : IsFirstOfPath id body n new
  pub before : (documents : List Document) → Kept old.cells old.image documents → IsThatOf id body n documents
  pub alone : IsStill old.foreign_writes new.foreign_writes
      → (documents : List Document) → Kept new.cells new.image documents → IsThatOf id body n documents

-- none of these documents has the identifier
abbrev pub NoneHas : List ℕ → List Document → Type 0
NoneHas id documents = (d : Document) → Contains documents d → d.id ≡ id → ⊥

-- the identifier's path ends: at a place that is blank, all buckets up to which are passed; or each of its 64 buckets is
-- passed
pub data PathEnds (g : Layout) (id : List ℕ) (new : DeviceState) : Type 0 where
  at_place : (place : Open) (level : Level) → IsPassedUpToPlace g new.cells new.image id place level
      → IsBlankIn new.image place.bucket place.child → PathEnds g id new
  behind_all : IsPassedWhole g new.cells new.image id → PathEnds g id new

-- No document has the identifier: its path ends, all buckets up to there passed; none that was kept at entry has it, and
-- where nobody else wrote none that is kept at exit.
pub record IsAbsent (id : List ℕ) (old new : DeviceState) : Type 0 where
  pub layout : Layout
  pub volume : IsVolume new.cells new.image layout
  pub ends : PathEnds layout id new
  pub before : (documents : List Document) → Kept old.cells old.image documents → NoneHas id documents
  pub alone : IsStill old.foreign_writes new.foreign_writes
      → (documents : List Document) → Kept new.cells new.image documents → NoneHas id documents

-- The sink got the body of the document, whole, and the answer names its slot, which is one that a volume may have, and
-- how many bytes the body has.
pub record PutsBody (id : List ℕ) (old new : DeviceState) (from to : SinkState) (found : Found) : Type 0 where
  pub body : List ℕ
  pub first : IsTrue old.tells → IsLookedUp id body found.slot old new
  pub below : found.slot < MAX_SLOTS
  pub bytes_is : found.bytes ≡ length body
  pub gets : Gets from.held to.held body
  pub faults : to.faults ≡ from.faults

-- The sink got some first bytes of this body.
pub record PutsFront (id : List ℕ) (old new : DeviceState) (from to : SinkState) : Type 0 where
  pub body : List ℕ
  pub slot : ℕ
  pub count : ℕ
  pub first : IsTrue old.tells → IsLookedUp id body slot old new
  pub most : count ≤ length body
  pub gets : Gets from.held to.held (take count body)

-- the sink got nothing, or some first bytes of the body
abbrev pub PutsNoMore : List ℕ → DeviceState → DeviceState → SinkState → SinkState → Type 0
PutsNoMore id old new from to = (to.faults ≡ from.faults) × ((to ≡ from) ⊎ PutsFront id old new from to)

-- How a look-up may end, and why. Memory is not taken, so it never lacks. No byte of a body goes out before the whole
-- document was checked, so where the device tells what it holds evidence comes before the first byte.
abbrev pub LookUpEnds
    : List ℕ → DeviceState → DeviceState → SinkState → SinkState → Result Found Refusal → Type 0
LookUpEnds id old new from to (Ok found) = PutsBody id old new from to found
LookUpEnds id old new from to (Err Absent) = (to ≡ from) × (IsTrue old.tells → IsAbsent id old new)
LookUpEnds id old new from to (Err (Tampered e)) =
    PutsNoMore id old new from to × (IsTrue old.tells → (to ≡ from) × IsLicensed old new e)
LookUpEnds id old new from to (Err DeviceFault) = Rose old.faults new.faults × PutsNoMore id old new from to
LookUpEnds id old new from to (Err SinkFault) = Rose from.faults to.faults × PutsFront id old new from to
LookUpEnds id old new from to (Err NotFormatted) = (to ≡ from) × SettleEnds old new (Err NotFormatted)
LookUpEnds id old new from to (Err (NotAVolume found)) = (to ≡ from) × SettleEnds old new (Err (NotAVolume found))
LookUpEnds id old new from to (Err (WrongSize stated real)) =
    (to ≡ from) × SettleEnds old new (Err (WrongSize stated real))
LookUpEnds id old new from to (Err refusal) = ⊥

-- the rules that a look-up names: those of settling, and those of a walk, by which a document is whole, too
abbrev pub IsLookUpRule : ℕ → Type 0
IsLookUpRule number = IsSettlingRule number ⊎ IsWalkRule number

-- where a look-up ends with evidence, this is by one of these rules
abbrev pub NamesLookUpRule : DeviceState → Result Found Refusal → Type 0
NamesLookUpRule old (Ok found) = ⊤
NamesLookUpRule old (Err (Tampered e)) = IsTrue old.tells → IsLookUpRule e.rule
NamesLookUpRule old (Err refusal) = ⊤

-- How a look-up names tampering: settling the volume was ended with it; or, by the layout that cell 0 states, it lies
-- on the path of the identifier, as this stands at exit.
pub data IsLookUpEvidence (id : List ℕ) (old new : DeviceState) (e : Evidence) : Type 0 where
  by_settling : Settles old new (Err (Tampered e)) → IsLookUpEvidence id old new e
  on_path : (layout : Layout) → IsVolume new.cells new.image layout → LiesOnPath layout new.cells new.image id e
      → IsLookUpEvidence id old new e

-- where a look-up ends with evidence, this is so named
abbrev pub NamesLookUpEvidence : List ℕ → DeviceState → DeviceState → Result Found Refusal → Type 0
NamesLookUpEvidence id old new (Ok found) = ⊤
NamesLookUpEvidence id old new (Err (Tampered e)) = IsTrue old.tells → IsLookUpEvidence id old new e
NamesLookUpEvidence id old new (Err refusal) = ⊤

-- the reads of a look-up: so many, and so many more for each cell of the documents that it may have to read
abbrev pub LOOK_UP_READS : ℕ
LOOK_UP_READS = 1024

abbrev pub LOOK_UP_READS_A_CELL : ℕ
LOOK_UP_READS_A_CELL = 2

-- Where the volume was settled at entry and nobody else wrote, so many are enough, whatever is answered. The documents
-- are those that buckets with the identifier's fingerprint name on its path, each once for each bucket that names it.
abbrev pub LooksUpBriefly : List ℕ → DeviceState → DeviceState → Type 0
LooksUpBriefly id old new =
    (settled : Settled old.cells old.image) → IsStill old.foreign_writes new.foreign_writes → (mates : List Mate)
    → HaveMates settled.layout old.image id mates
    → new.reads ≤ old.reads + LOOK_UP_READS + LOOK_UP_READS_A_CELL * mate_cells mates

-- what it means that a document is looked up, or that this was ended
pub record LooksUp (id : List ℕ) (old new : DeviceState) (from to : SinkState) (result : Result Found Refusal)
    : Type 0 where
  pub called : Called old new
  pub comes : SettlesFirst Found old new result
  pub ends : LookUpEnds id old new from to result
  pub rule : NamesLookUpRule old result
  pub named : NamesLookUpEvidence id old new result
  pub briefly : IsTrue old.tells → LooksUpBriefly id old new

-- The document in slot n was looked up, and its body was not put out; where the device tells it is this one.
pub record IsLocated (id : List ℕ) (old new : DeviceState) (n : ℕ) : Type 0 where
  pub called : Called old new
  pub comes : SettlesFirst ℕ old new (Ok n)
  pub below : n < MAX_SLOTS
  pub body : List ℕ
  pub first : IsTrue old.tells → IsLookedUp id body n old new
  pub briefly : IsTrue old.tells → LooksUpBriefly id old new

-- what it means that a document is located; it is refused as a look-up is that puts nothing out, into whatever sink
abbrev pub Locates : List ℕ → DeviceState → DeviceState → Result ℕ Refusal → Type 0
Locates id old new (Ok n) = IsLocated id old new n
Locates id old new (Err refusal) = (sink : SinkState) → LooksUp id old new sink sink (Err refusal)

-- a fault of putting a body, as a command refuses
abbrev pub refusal_of_body : BodyFault → Refusal
refusal_of_body (bodies.Tampered evidence) = Tampered evidence
refusal_of_body bodies.ReadFault = DeviceFault
refusal_of_body bodies.SinkFault = SinkFault
