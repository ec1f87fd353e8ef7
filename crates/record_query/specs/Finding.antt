-- What it means that the documents of a volume are searched for words.
use Rattle.std.specs.Prelude.{◌≡◌, ◌≤◌, ◌+◌, ◌*◌, ◌⊎◌, ℕ, List, [], ◌∷◌, length, Contains, Result, Ok, Err, IsTrue, ⊤}
use Rattle.std.specs.Global.{Vec}
use Rattle.cell_types.specs.Image.{Image}
use Rattle.cell_types.specs.Layout.{Layout, list_at, pool_at}
use Rattle.cell_types.specs.declared.refusal.Refusal.{Refusal}
use Rattle.cell_types.specs.declared.refusal.Refusal.TheVariants.{DeviceFault, NoMemory, NotAVolume, NotFormatted, Tampered, WrongSize}
use Rattle.commit_record.specs.Licences.{IsLicensed}
use Rattle.volume_meaning.specs.Blocks.{PostingFields, Trail}
use Rattle.volume_meaning.specs.Keeping.{Kept}
use Rattle.volume_meaning.specs.Nearness.{IsCandidate, IsNear}
use Rattle.volume_meaning.specs.Documents.{AreDocuments, Document, Stands, stored_bytes}
use Rattle.volume_meaning.specs.Postings.{HasPostings, HasTag, IsWordPosting, list_of, tag_of}
use Rattle.volume_meaning.specs.Slots.{cells_for}
use Rattle.volume_meaning.specs.Volumes.{IsVolume}
use Rattle.volume_meaning.specs.Words.{Matches, rule_of}
use Rattle.tamper_rules.specs.Settling.{Settled}
use Rattle.tamper_rules.specs.declared.numbers.TheConstants.{BROKEN_DOCUMENT}
use Rattle.worm_device.specs.Calls.{Called}
use Rattle.worm_device.specs.Counts.{Rose, IsStill}
use Rattle.worm_device.specs.State.{DeviceState}
use Rattle.recovery_engine.specs.Settling.{IsSettlingRule, SettleEnds, SettlesFirst}
use Rattle.posting_list.specs.Naming.{IsListRule}
use Rattle.record_query.specs.declared.finding.TheConstants.{CELL_READS, FIND_READS, TERM_READS}
use Rattle.record_query.specs.declared.found.Match.{Match}

-- one of the matches tells of this document
pub record HasMatch (matches : List Match) (n : ℕ) (id body : List ℕ) : Type 0 where
  pub found : Match
  pub among : Contains matches found
  pub slot_is : found.slot ≡ n
  pub identifier_is : found.identifier ≡ id
  pub bytes_is : found.bytes ≡ length body

-- each of the terms is a word of the body, by the rule of words of the volume that the image holds
pub record HasTerms (cells : ℕ) (image : Image) (body : List ℕ) (terms : List (List ℕ)) : Type 0 where
  pub layout : Layout
  pub volume : IsVolume cells image layout
  pub matches : Matches (rule_of layout.version) body terms

-- the match tells of a document that stands and that has the terms
pub record IsMatch (cells : ℕ) (image : Image) (terms : List (List ℕ)) (found : Match) : Type 0 where
  pub body : List ℕ
  pub stands : Stands cells image found.slot found.identifier body
  pub bytes_is : found.bytes ≡ length body
  pub has : HasTerms cells image body terms

-- the slots of the matches rise, from this one on
abbrev pub MatchesRise : ℕ → List Match → Type 0
MatchesRise from [] = ⊤
MatchesRise from (found ∷ matches) = (from ≤ found.slot) × MatchesRise (found.slot + 1) matches

-- each document of this list that has the terms, by the rule of words of this volume, has its match
abbrev pub FindsAllOf : ℕ → Image → List (List ℕ) → List Match → List Document → Type 0
FindsAllOf cells image terms matches documents =
    (d : Document) → Contains documents d → HasTerms cells image d.body terms → HasMatch matches d.slot d.id d.body

-- The list of the word leads to the slot: of some body that has the word's tag the postings exist, and those that it
-- has in this list, under the slot, have trails. Whether such a document stands in the slot is not asked.
pub record IsListed (cells : ℕ) (image : Image) (g : Layout) (word : List ℕ) (slot : ℕ) : Type 0 where
  pub body : List ℕ
  pub postings : HasPostings g body
  pub tagged : HasTag g body (list_of g.lists word) (tag_of word)
  pub trails : (p : PostingFields) → IsWordPosting g body slot (list_of g.lists word) p
      → (at : ℕ) × Trail image (pool_at g) cells at p (list_at g (list_of g.lists word))

-- the list of each of the terms leads to the slot, in the volume that the image holds
pub record IsLedTo (cells : ℕ) (image : Image) (terms : List (List ℕ)) (slot : ℕ) : Type 0 where
  pub layout : Layout
  pub volume : IsVolume cells image layout
  pub each : (word : List ℕ) → Contains terms word → IsListed cells image layout word slot

-- one of the matches is of this slot
pub record HasMatchAt (matches : List Match) (slot : ℕ) : Type 0 where
  pub found : Match
  pub among : Contains matches found
  pub slot_is : found.slot ≡ slot

-- the slot's document stands, and lacks one of the terms
pub record StandsWithout (cells : ℕ) (image : Image) (terms : List (List ℕ)) (slot : ℕ) : Type 0 where
  pub id : List ℕ
  pub body : List ℕ
  pub stands : Stands cells image slot id body
  pub lacks : HasTerms cells image body terms → ⊥

-- the slot has its match, or its document stands and lacks one of the terms: none is passed whose document is broken
abbrev pub IsJudged : ℕ → Image → List (List ℕ) → List Match → ℕ → Type 0
IsJudged cells image terms matches slot = HasMatchAt matches slot ⊎ StandsWithout cells image terms slot

-- What was found: of each list of documents that was kept at entry those that have the terms; and where nobody else
-- wrote, of each that is kept at exit. Each slot to which the lists of all terms led at entry is judged, and where
-- nobody else wrote, each to which they lead at exit. Each match tells of a document that stands at exit; and slots
-- rise.
pub record Finds (terms : List (List ℕ)) (old new : DeviceState) (matches : List Match) : Type 0 where
  pub all : (documents : List Document) → Kept old.cells old.image documents
      → FindsAllOf old.cells old.image terms matches documents
  pub alone : IsStill old.foreign_writes new.foreign_writes
      → (documents : List Document) → Kept new.cells new.image documents
      → FindsAllOf new.cells new.image terms matches documents
  pub judged : (slot : ℕ) → IsLedTo old.cells old.image terms slot
      → IsJudged new.cells new.image terms matches slot
  pub judged_alone : IsStill old.foreign_writes new.foreign_writes
      → (slot : ℕ) → IsLedTo new.cells new.image terms slot → IsJudged new.cells new.image terms matches slot
  pub only : (found : Match) → Contains matches found → IsMatch new.cells new.image terms found
  pub rise : MatchesRise 0 matches

-- how a search may end, and why
abbrev pub FindEnds : List (List ℕ) → DeviceState → DeviceState → Result (Vec Match) Refusal → Type 0
FindEnds terms old new (Ok matches) = IsTrue old.tells → Finds terms old new matches.items
FindEnds terms old new (Err NoMemory) = ⊤
FindEnds terms old new (Err DeviceFault) = Rose old.faults new.faults
FindEnds terms old new (Err (Tampered e)) = IsTrue old.tells → IsLicensed old new e
FindEnds terms old new (Err NotFormatted) = SettleEnds old new (Err NotFormatted)
FindEnds terms old new (Err (NotAVolume found)) = SettleEnds old new (Err (NotAVolume found))
FindEnds terms old new (Err (WrongSize stated real)) = SettleEnds old new (Err (WrongSize stated real))
FindEnds terms old new (Err refusal) = ⊥

-- the rules that a search names: those of settling, those of lists of terms, and that a document is whole
abbrev pub IsFindRule : ℕ → Type 0
IsFindRule number = IsSettlingRule number ⊎ IsListRule number ⊎ (number ≡ BROKEN_DOCUMENT)

-- where a search ends with evidence, this is by one of these rules
abbrev pub NamesFindRule : DeviceState → Result (Vec Match) Refusal → Type 0
NamesFindRule old (Ok matches) = ⊤
NamesFindRule old (Err (Tampered e)) = IsTrue old.tells → IsFindRule e.rule
NamesFindRule old (Err refusal) = ⊤

-- those of the documents that are such have so many cells together
abbrev pub HaveCells : (Document → Type 0) → List Document → ℕ → Type 0
HaveCells IsSuch [] cells = cells ≡ 0
HaveCells IsSuch (d ∷ documents) cells =
    (IsSuch d × ((rest : ℕ) × (cells ≡ cells_for (length (stored_bytes d.id d.body)) + rest)
    × HaveCells IsSuch documents rest))
    ⊎ ((IsSuch d → ⊥) × HaveCells IsSuch documents cells)

-- Where the volume was settled before, and nobody else wrote, a search reads no more than its terms, Near and its
-- candidates ask for, whatever it answers.
abbrev pub FindsBriefly : List (List ℕ) → DeviceState → DeviceState → Type 0
FindsBriefly terms old new =
    IsTrue old.tells → IsStill old.foreign_writes new.foreign_writes → (volume : Settled old.cells old.image)
    → (documents : List Document) → AreDocuments old.cells old.image documents → (near cells : ℕ)
    → IsNear volume.layout documents terms near → HaveCells (IsCandidate volume.layout terms) documents cells
    → new.reads ≤ old.reads + FIND_READS + TERM_READS * (length terms * (near + 1)) + CELL_READS * cells

-- what it means that the documents of a volume are searched for these terms, or that this was ended
pub record Searches (terms : List (List ℕ)) (old new : DeviceState) (result : Result (Vec Match) Refusal) : Type 0 where
  pub called : Called old new
  pub comes : SettlesFirst (Vec Match) old new result
  pub ends : FindEnds terms old new result
  pub rule : NamesFindRule old result
  pub reads : FindsBriefly terms old new
