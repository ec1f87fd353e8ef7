-- What lists of terms may name as evidence, and what they show.
use Rattle.std.specs.Prelude.{◌≡◌, ◌⊎◌, ℕ, Some, IsTrue}
use Rattle.cell_types.specs.Image.{Image}
use Rattle.cell_types.specs.Layout.{pool_at}
use Rattle.cell_types.specs.declared.refusal.Evidence.{Evidence}
use Rattle.cell_types.specs.declared.refusal.Fault.{Fault}
use Rattle.cell_types.specs.declared.refusal.Fault.TheVariants.{Tampered, Failed}
use Rattle.volume_meaning.specs.Slots.{EndsBelow, IsHorizon}
use Rattle.volume_meaning.specs.Volumes.{IsVolume}
use Rattle.tamper_rules.specs.Rules.{IsBroken, IsPlaceOf}
use Rattle.tamper_rules.specs.declared.numbers.TheConstants.{DONE_CELL, FAKE_POSTING, OUTCOME_CELL, RESERVE_CELL}
use Rattle.worm_device.specs.Counts.{Rose, IsStill}
use Rattle.worm_device.specs.Views.{ViewState}
use Rattle.jump_index.specs.Evidence.{IsSearchRule}
use Rattle.posting_list.specs.declared.reach.Reach.{Reach}

-- the rules that lists of terms name: those of a slot's cells, that a posting is one of its document, and those of a
-- search
abbrev pub IsListRule : ℕ → Type 0
IsListRule number =
    (number ≡ RESERVE_CELL) ⊎ (number ≡ OUTCOME_CELL) ⊎ (number ≡ DONE_CELL) ⊎ (number ≡ FAKE_POSTING)
    ⊎ IsSearchRule number

-- this is how far the image is filled: the horizon is one of its own, and the bounds are from the pool's start up to
-- the edge of that horizon
pub record IsReachOf (r : Reach) (image : Image) : Type 0 where
  pub horizon : IsHorizon r.volume.geometry image image r.horizon
  pub edge : EndsBelow r.volume.geometry image r.horizon r.bounds.edge
  pub pool : r.bounds.pool ≡ pool_at r.volume.geometry

-- the evidence is by a rule of lists and stands there, and where the bounds begin at the pool's start, in a place of
-- its rule
pub record IsListEvidence (r : Reach) (image : Image) (e : Evidence) : Type 0 where
  pub rule : IsListRule e.rule
  pub stands : image e.cell ≡ Some e.found
  pub place : r.bounds.pool ≡ pool_at r.volume.geometry → IsPlaceOf r.volume.geometry e.rule e.cell

-- The evidence stands there, and where the volume is the one in cell 0, and this is how far the image is filled, its
-- rule is broken there.
pub record IsShownEvidence (r : Reach) (s : ViewState) (e : Evidence) : Type 0 where
  pub stands : s.image e.cell ≡ Some e.found
  pub broken : IsVolume s.cells s.image r.volume.geometry → IsReachOf r s.image
      → IsBroken s.cells s.image e.rule e.cell

-- the evidence may be named
abbrev pub MayName : Reach → ViewState → Evidence → Type 0
MayName r s e = IsTrue s.base.tells → IsListEvidence r s.image e

-- the evidence is shown
abbrev pub ShowsListEvidence : Reach → ViewState → Evidence → Type 0
ShowsListEvidence r s e = IsTrue s.base.tells → IsShownEvidence r s e

-- Why there is no answer: a read failed, or this is evidence that may be named, and that is shown where nobody else
-- wrote.
abbrev pub FaultSays : Reach → ViewState → ViewState → Fault → Type 0
FaultSays r old new Failed = Rose old.base.faults new.base.faults
FaultSays r old new (Tampered e) =
    MayName r new e × (IsStill old.base.foreign_writes new.base.foreign_writes → ShowsListEvidence r new e)
