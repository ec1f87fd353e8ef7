-- What comparing the document of a candidate's slot with an identifier answers.
use Rattle.std.specs.Prelude.{◌≡◌, ◌≤◌, ◌<◌, ◌⊎◌, ℕ, true, false, List, Option, Some, None, Result, Ok, Err, IsTrue}
use Rattle.cell_types.specs.Image.{Image}
use Rattle.cell_types.specs.Layout.{Layout}
use Rattle.cell_types.specs.Records.{record_bytes}
use Rattle.cell_types.specs.declared.record_cell.RecordCell.TheVariants.{Bucket}
use Rattle.cell_types.specs.declared.refusal.Evidence.{Evidence}
use Rattle.cell_types.specs.declared.refusal.Fault.{Fault}
use Rattle.cell_types.specs.declared.refusal.Fault.TheVariants.{Tampered, Failed}
use Rattle.volume_meaning.specs.HashPaths.{fingerprint_of}
use Rattle.volume_meaning.specs.Slots.{IsDoneSlot}
use Rattle.volume_meaning.specs.Volumes.{Holds}
use Rattle.tamper_rules.specs.declared.numbers.TheConstants.{FAKE_BUCKET}
use Rattle.worm_device.specs.Counts.{Rose}
use Rattle.worm_device.specs.Views.{ViewState, Viewed}
use Rattle.document_store.specs.Looks.{HasPart, IsSame, LookFails}
use Rattle.document_store.specs.declared.part.Part.{Part}
use Rattle.identifier_lookup.specs.Costs.{CompareCosts}
use Rattle.identifier_lookup.specs.declared.candidates.Named.{Named}

-- the bucket stands, and names the slot with the fingerprint of the digest
abbrev pub HoldsNamed : Image → Named → Type 0
HoldsNamed image named = Holds image named.bucket (Bucket named.slot (fingerprint_of named.digest))

-- these are the bucket's bytes
abbrev pub IsNamedCell : Named → List ℕ → Type 0
IsNamedCell named found = found ≡ record_bytes (Bucket named.slot (fingerprint_of named.digest)) named.bucket

-- The bucket stands and is no true one: the slot that it names is at or past the horizon, or was not done.
pub record IsFake (g : Layout) (horizon : ℕ) (named : Named) (before after : Image) (e : Evidence) : Type 0 where
  pub found : after named.bucket ≡ Some e.found
  pub holds : HoldsNamed after named
  pub why : (horizon ≤ named.slot) ⊎ (IsDoneSlot g before named.slot → ⊥)

-- the evidence is the bucket
abbrev pub NamesBucket : Layout → ℕ → Named → ViewState → ViewState → Evidence → Type 0
NamesBucket g horizon named old new e =
    (e.rule ≡ FAKE_BUCKET) × (e.cell ≡ named.bucket) × (new.base.faults ≡ old.base.faults)
    × (IsTrue old.base.tells → IsFake g horizon named old.image new.image e)

-- How comparing the document of the slot that a bucket names may end, and why.
abbrev pub CompareEnds : Layout → ℕ → Named → List ℕ → ViewState → ViewState → Result (Option Part) Fault → Type 0
CompareEnds g horizon named id old new (Ok (Some part)) =
    (named.slot < horizon) × (new.base.faults ≡ old.base.faults)
    × (IsTrue old.base.tells → IsSame g new.image named.slot id true)
    × (part.slot ≡ named.slot) × HasPart g new part
CompareEnds g horizon named id old new (Ok None) =
    (named.slot < horizon) × (new.base.faults ≡ old.base.faults)
    × (IsTrue old.base.tells → IsSame g new.image named.slot id false)
CompareEnds g horizon named id old new (Err Failed) = Rose old.base.faults new.base.faults
CompareEnds g horizon named id old new (Err (Tampered e)) =
    NamesBucket g horizon named old new e ⊎ LookFails g named.slot old new (Tampered e)

-- what comparing does
pub record Compares (g : Layout) (horizon : ℕ) (named : Named) (id : List ℕ) (old new : ViewState)
    (result : Result (Option Part) Fault) : Type 0 where
  pub viewed : Viewed old new
  pub costs : CompareCosts g named.slot old new
  pub ends : CompareEnds g horizon named id old new result
