-- What it means that a volume is searched for the documents of a span of time.
use Rattle.std.specs.Prelude.{◌≡◌, ◌<◌, ◌≤◌, ◌+◌, ◌*◌, ◌^◌, ◌⊎◌, ℕ, List, [], ◌∷◌, length, Contains, Some, Result, Ok, Err, IsTrue, ⊤}
use Rattle.std.specs.Global.{Vec}
use Rattle.cell_types.specs.Image.{Image}
use Rattle.cell_types.specs.Layout.{Layout, list_at, pool_at}
use Rattle.cell_types.specs.declared.refusal.Refusal.{Refusal}
use Rattle.cell_types.specs.declared.refusal.Refusal.TheVariants.{DeviceFault, NoMemory, NoStamps, NotAVolume, NotFormatted, Tampered, WrongSize}
use Rattle.commit_record.specs.Licences.{IsLicensed}
use Rattle.volume_meaning.specs.Blocks.{Trail}
use Rattle.volume_meaning.specs.Keeping.{Kept}
use Rattle.volume_meaning.specs.Documents.{Document, Stands}
use Rattle.volume_meaning.specs.Postings.{time_posting}
use Rattle.volume_meaning.specs.Slots.{IsHorizon, IsStampOf}
use Rattle.volume_meaning.specs.Volumes.{IsVolume}
use Rattle.tamper_rules.specs.Settling.{Settled}
use Rattle.worm_device.specs.Calls.{Called}
use Rattle.worm_device.specs.Counts.{IsStill, Rose}
use Rattle.worm_device.specs.State.{DeviceState}
use Rattle.recovery_engine.specs.Settling.{HasSettled, IsSettlingRule, SettleEnds, SettlesFirst}
use Rattle.recovery_engine.specs.declared.settling.Ready.{Ready}
use Rattle.time_index.specs.Asking.{AsksStamps, IsWithoutStamps}
use Rattle.time_index.specs.Matching.{IsTimeRule, cells_of}
use Rattle.time_index.specs.declared.span.TheConstants.{CELL_READS, SPAN_READS, TURN_READS}
use Rattle.time_index.specs.declared.found.TimeMatch.{TimeMatch}

-- the slot has this stamp, in the volume that the image holds
pub record IsStampedSlot (cells : ℕ) (image : Image) (n seconds : ℕ) : Type 0 where
  pub layout : Layout
  pub volume : IsVolume cells image layout
  pub stamp : IsStampOf layout image n (Some seconds)

-- one of the matches tells of this document and its stamp
pub record HasTimeMatch (matches : List TimeMatch) (n : ℕ) (id body : List ℕ) (seconds : ℕ) : Type 0 where
  pub found : TimeMatch
  pub among : Contains matches found
  pub slot_is : found.slot ≡ n
  pub identifier_is : found.identifier ≡ id
  pub bytes_is : found.bytes ≡ length body
  pub seconds_is : found.seconds ≡ seconds

-- one of the matches tells of this slot and this stamp
pub record TellsSlot (matches : List TimeMatch) (n seconds : ℕ) : Type 0 where
  pub found : TimeMatch
  pub among : Contains matches found
  pub slot_is : found.slot ≡ n
  pub seconds_is : found.seconds ≡ seconds

-- the volume's time list leads to the slot with this stamp: its time posting has a trail
pub record IsTimeListed (cells : ℕ) (image : Image) (n seconds : ℕ) : Type 0 where
  pub layout : Layout
  pub volume : IsVolume cells image layout
  pub at : ℕ
  pub trail : Trail image (pool_at layout) cells at (time_posting n seconds) (list_at layout layout.lists)

-- Each slot to which the time list leads with a stamp from one time to another has its match: none is passed whose
-- document is broken. A time posting has room for 32 bits of a slot's number.
abbrev pub TellsListed : ℕ → Image → ℕ → ℕ → List TimeMatch → Type 0
TellsListed cells image from to matches =
    (n seconds : ℕ) → n < 2 ^ 32 → IsTimeListed cells image n seconds → from ≤ seconds → seconds ≤ to
    → TellsSlot matches n seconds

-- the match tells of a document that stands, and of its stamp, which lies from one time to another
pub record IsTimeMatch (cells : ℕ) (image : Image) (from to : ℕ) (found : TimeMatch) : Type 0 where
  pub body : List ℕ
  pub stands : Stands cells image found.slot found.identifier body
  pub bytes_is : found.bytes ≡ length body
  pub stamp : IsStampedSlot cells image found.slot found.seconds
  pub from_is : from ≤ found.seconds
  pub to_is : found.seconds ≤ to

-- The slots of the matches lie below the horizon to which settling came, which is one of the image at exit where nobody
-- else wrote. Each slot that is done lies below some horizon of a hostile image, so it is said of that one.
pub record LieInLog (old new : DeviceState) (matches : List TimeMatch) : Type 0 where
  pub ready : Ready
  pub settled : HasSettled old new ready
  pub horizon : IsStill old.foreign_writes new.foreign_writes
      → IsHorizon ready.volume.geometry new.image new.image ready.horizon
  pub below : (found : TimeMatch) → Contains matches found → found.slot < ready.horizon

-- memory was wanted for this match, which tells of a document of the span, as one that is answered does
pub record WantsMatch (from to : ℕ) (old new : DeviceState) : Type 0 where
  pub wanted : TimeMatch
  pub is : IsTimeMatch new.cells new.image from to wanted
  pub log : LieInLog old new (wanted ∷ [])

-- the slots of the matches rise, from this one on
abbrev pub SlotsRise : ℕ → List TimeMatch → Type 0
SlotsRise from [] = ⊤
SlotsRise from (found ∷ matches) = (from ≤ found.slot) × SlotsRise (found.slot + 1) matches

-- each document of this list whose stamp lies from one time to another has its match
abbrev pub FindsSpanOf : ℕ → Image → ℕ → ℕ → List TimeMatch → List Document → Type 0
FindsSpanOf cells image from to matches documents =
    (d : Document) (seconds : ℕ) → Contains documents d → IsStampedSlot cells image d.slot seconds → from ≤ seconds
    → seconds ≤ to → HasTimeMatch matches d.slot d.id d.body seconds

-- What was found: of each list of documents that was kept at entry those whose stamps lie in the span; and where nobody
-- else wrote, of each that is kept at exit. Each slot to which the time list led at entry with a stamp of the span, and
-- where nobody else wrote, each to which it leads at exit. Each match tells of a document that stands at exit with its
-- stamp, in a slot of the log; and slots rise.
pub record FindsSpan (from to : ℕ) (old new : DeviceState) (matches : List TimeMatch) : Type 0 where
  pub all : (documents : List Document) → Kept old.cells old.image documents
      → FindsSpanOf old.cells old.image from to matches documents
  pub alone : IsStill old.foreign_writes new.foreign_writes
      → (documents : List Document) → Kept new.cells new.image documents
      → FindsSpanOf new.cells new.image from to matches documents
  pub listed : TellsListed old.cells old.image from to matches
  pub listed_alone : IsStill old.foreign_writes new.foreign_writes
      → TellsListed new.cells new.image from to matches
  pub only : (found : TimeMatch) → Contains matches found → IsTimeMatch new.cells new.image from to found
  pub log : LieInLog old new matches
  pub rise : SlotsRise 0 matches

-- how a search of a volume of stamped documents may end, and why
abbrev pub SpanEnds : ℕ → ℕ → DeviceState → DeviceState → Result (Vec TimeMatch) Refusal → Type 0
SpanEnds from to old new (Ok matches) = IsTrue old.tells → FindsSpan from to old new matches.items
SpanEnds from to old new (Err NoMemory) = IsTrue old.tells → WantsMatch from to old new
SpanEnds from to old new (Err NoStamps) = IsTrue old.tells → IsWithoutStamps new.cells new.image
SpanEnds from to old new (Err DeviceFault) = Rose old.faults new.faults
SpanEnds from to old new (Err (Tampered e)) = IsTrue old.tells → IsLicensed old new e
SpanEnds from to old new (Err NotFormatted) = SettleEnds old new (Err NotFormatted)
SpanEnds from to old new (Err (NotAVolume found)) = SettleEnds old new (Err (NotAVolume found))
SpanEnds from to old new (Err (WrongSize stated real)) = SettleEnds old new (Err (WrongSize stated real))
SpanEnds from to old new (Err refusal) = ⊥

-- where a search ends with evidence, this is by a rule of settling or of a search by time
abbrev pub NamesTimeRule : DeviceState → Result (Vec TimeMatch) Refusal → Type 0
NamesTimeRule old (Ok matches) = ⊤
NamesTimeRule old (Err (Tampered e)) = IsTrue old.tells → IsSettlingRule e.rule ⊎ IsTimeRule e.rule
NamesTimeRule old (Err refusal) = ⊤

-- how many cells the documents of the matches have together
abbrev pub all_cells_of : List TimeMatch → ℕ
all_cells_of [] = 0
all_cells_of (found ∷ matches) = cells_of found + all_cells_of matches

-- Where the volume was settled before, and nobody else wrote, a search that is done has read no more than so much: so
-- much for each match and one more, and for the cells of their documents, besides what any search may.
abbrev pub ReadsBriefly : ℕ → DeviceState → DeviceState → Result (Vec TimeMatch) Refusal → Type 0
ReadsBriefly besides old new (Ok matches) =
    IsTrue old.tells → IsStill old.foreign_writes new.foreign_writes → Settled old.cells old.image
    → new.reads ≤ old.reads + besides + TURN_READS * (length matches.items + 1)
    + CELL_READS * all_cells_of matches.items
ReadsBriefly besides old new (Err refusal) = ⊤

-- what it means that the time list of a volume of stamped documents is searched, or that this was ended
pub record SearchesTimes (from to : ℕ) (old new : DeviceState) (result : Result (Vec TimeMatch) Refusal) : Type 0 where
  pub called : Called old new
  pub comes : SettlesFirst (Vec TimeMatch) old new result
  pub ends : SpanEnds from to old new result
  pub rule : NamesTimeRule old result
  pub reads : ReadsBriefly 64 old new result

-- What a search does, by how far it comes: cell 0 is read first, since it tells whether documents are stamped.
pub data SearchesByTime (from to : ℕ) (old new : DeviceState) (result : Result (Vec TimeMatch) Refusal) : Type 0 where
  -- no volume stands there, its documents are not stamped, or cell 0 was not read
  unstamped : (refusal : Refusal) → AsksStamps old new (Err refusal) → result ≡ Err refusal
      → SearchesByTime from to old new result
  -- the volume is settled, and its time list searched
  searched : (mid : DeviceState) → AsksStamps old mid (Ok tt) → SearchesTimes from to mid new result
      → SearchesByTime from to old new result

-- each document that was kept at entry and whose stamp lies in the span has its match, where the search is done
abbrev pub FindsKeptSpan : ℕ → ℕ → DeviceState → Result (Vec TimeMatch) Refusal → Type 0
FindsKeptSpan from to old (Ok matches) = IsTrue old.tells → (documents : List Document)
    → Kept old.cells old.image documents → FindsSpanOf old.cells old.image from to matches.items documents
FindsKeptSpan from to old (Err refusal) = ⊤

-- what it means that the documents of a span of time are asked for
pub record FindsBetween (from to : ℕ) (old new : DeviceState) (result : Result (Vec TimeMatch) Refusal) : Type 0 where
  pub called : Called old new
  pub does : SearchesByTime from to old new result
  pub kept : FindsKeptSpan from to old result
  pub reads : ReadsBriefly SPAN_READS old new result
