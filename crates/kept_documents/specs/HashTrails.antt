-- Whether a slot has a hash trail as that of an identifier, as a call over a view answers it.
use Rattle.std.specs.Prelude.{◌≢◌, ◌⊎◌, ℕ, Bool, true, false, List, Result, Ok, Err, IsTrue}
use Rattle.sha2.specs.Sha256.{sha256}
use Rattle.cell_types.specs.Layout.{Layout}
use Rattle.volume_meaning.specs.Documents.{Stands}
use Rattle.volume_meaning.specs.Volumes.{IsVolume}
use Rattle.volume_meaning.specs.HashPaths.{HashTrail, fingerprint_of}
use Rattle.volume_meaning.specs.Keeping.{sought_in}
use Rattle.volume_meaning.specs.declared.held_bucket.HeldBucket.{HeldBucket}
use Rattle.worm_device.specs.Counts.{Rose}
use Rattle.worm_device.specs.Views.{ViewState, Viewed}
use Rattle.worm_device.specs.declared.device.Failed.{Failed}

-- slot n has a hash trail from the node of this level
abbrev pub HasHashTrail : Layout → ViewState → List ℕ → ℕ → ℕ → ℕ → Type 0
HasHashTrail g s id n node level = HashTrail s.image (sought_in s.cells g id) n node level

-- Yes: it has one at exit. No: it had none at entry. Both are said where cell 0 stated this volume at entry.
abbrev pub PathAnswer : Layout → List ℕ → ℕ → ℕ → ℕ → ViewState → ViewState → Result Bool Failed → Type 0
PathAnswer g id n node level old new (Ok true) =
    IsTrue old.base.tells → IsVolume old.cells old.image g → HasHashTrail g new id n node level
PathAnswer g id n node level old new (Ok false) =
    IsTrue old.base.tells → IsVolume old.cells old.image g → HasHashTrail g old id n node level → ⊥
PathAnswer g id n node level old new (Err failed) = Rose old.base.faults new.base.faults

-- what asking does
pub record AsksPath (g : Layout) (id : List ℕ) (n node level : ℕ) (old new : ViewState) (result : Result Bool Failed)
    : Type 0 where
  pub viewed : Viewed old new
  pub ends : PathAnswer g id n node level old new result

-- a bucket is passed: it has another fingerprint, or its slot stands with another identifier
abbrev pub IsOtherBucket : Layout → ViewState → List ℕ → HeldBucket → Type 0
IsOtherBucket g s id b =
    (b.fingerprint ≢ fingerprint_of (sha256 id))
    ⊎ ((own : List ℕ) × (body : List ℕ) × Stands s.cells s.image b.slot own body × (own ≢ id))

abbrev pub PassedAnswer : Layout → List ℕ → HeldBucket → ViewState → ViewState → Result Bool Failed → Type 0
PassedAnswer g id b old new (Ok true) =
    IsTrue old.base.tells → IsVolume old.cells old.image g → IsOtherBucket g new id b
PassedAnswer g id b old new (Ok false) =
    IsTrue old.base.tells → IsVolume old.cells old.image g → IsOtherBucket g old id b → ⊥
PassedAnswer g id b old new (Err failed) = Rose old.base.faults new.base.faults

pub record AsksPassed (g : Layout) (id : List ℕ) (b : HeldBucket) (old new : ViewState) (result : Result Bool Failed)
    : Type 0 where
  pub viewed : Viewed old new
  pub ends : PassedAnswer g id b old new result
