-- When a document can be stored, and a device formatted.
use Rattle.std.specs.Prelude.{None, Option, ◌≡◌, ◌≤◌, ◌+◌, ℕ, List, IsTrue}
use Rattle.cell_types.specs.Layout.{IsLayout, Layout}
use Rattle.volume_meaning.specs.Documents.{Stands}
use Rattle.volume_meaning.specs.Slots.{IsEdge, IsHorizon, IsStampFor, IsUnused}
use Rattle.volume_meaning.specs.Volumes.{IsVolume}
use Rattle.volume_meaning.specs.Postings.{HasPostings}
use Rattle.tamper_rules.specs.Settling.{Sound}
use Rattle.ingest_laws.specs.Needs.{IsNeed}
use Rattle.ingest_plan.specs.Planning.{IsLater}
use Rattle.worm_device.specs.Counts.{IsStill}
use Rattle.worm_device.specs.State.{DeviceState}
use Rattle.identifier_lookup.specs.Walks.{IsPassedWhole}

-- What stands is a sound volume, and a stamp is given exactly where its documents are stamped. In what settling makes
-- of it the stamp is past those of the done slots, no document has the identifier, and its path is not full. No list
-- gets more than 256 tags of the body; a slot is unused, and behind the edge is room for the document's need.
pub record HasPlaceFor (id : List ℕ) (stamp : Option ℕ) (body : List ℕ) (g : Layout) (slot : ℕ) (old : DeviceState)
    : Type 0 where
  pub volume : IsVolume old.cells old.image g
  pub sound : Sound old.cells old.image
  pub takes : IsStampFor g stamp
  pub unused : IsUnused g old.image slot
  pub later : (n : ℕ) → IsHorizon g sound.after sound.after n → IsLater g sound.after n stamp
  pub fresh : (n : ℕ) (other : List ℕ) → Stands old.cells sound.after n id other → ⊥
  pub path : IsPassedWhole g old.cells sound.after id → ⊥
  pub postings : HasPostings g body
  pub room : (n at need : ℕ) → IsHorizon g sound.after sound.after n → IsEdge g sound.after sound.after at
      → IsNeed g sound.after n id body stamp need → at + need ≤ g.cells

-- The layout may be, each cell of the device is blank, and nobody else writes.
pub record BeginsBlank (g : Layout) (old new : DeviceState) : Type 0 where
  pub layout : IsLayout g
  pub tells : IsTrue old.tells
  pub blank : (cell : ℕ) → old.image cell ≡ None
  pub alone : IsStill old.foreign_writes new.foreign_writes
