-- Hash trails from one state of a device to a later one.
use Rattle.std.proofs.Common.{ℕ, List, sym, subst}
use Rattle.cell_types.specs.Layout.{Layout}
use Rattle.volume_meaning.proofs.Extending.{stands_on}
use Rattle.volume_meaning.proofs.HashTrails.{hash_trail_on}
use Rattle.worm_device.specs.Calls.{Called}
use Rattle.worm_device.specs.State.{DeviceState}
use Rattle.identifier_lookup.specs.Walks.{HasIdentifierTrail, NoneHasTrail}

-- what had a hash trail has it still
pub has_trail_on : {g : Layout} {a b : DeviceState} {id : List ℕ} {m : ℕ} → Called a b
    → HasIdentifierTrail g a.cells a.image id m
    → HasIdentifierTrail g b.cells b.image id m
has_trail_on {g} {a} {b} {id} {m} called h =
    subst (λ (cells : ℕ). HasIdentifierTrail g cells b.image id m) (sym called.cells)
    (record { body = h.body; stands = stands_on called.image h.stands; trail = hash_trail_on called.image h.trail })

-- so if none has one now, none had one before
pub none_before : {g : Layout} {a b : DeviceState} {id : List ℕ} → Called a b → NoneHasTrail g b.cells b.image id
    → NoneHasTrail g a.cells a.image id
none_before called none = λ m h. none m (has_trail_on called h)
