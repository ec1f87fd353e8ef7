-- What a copy answers that nothing hinders.
use Rattle.std.specs.Prelude.{◌≡◌, Result, Ok, Err, ⊤}
use Rattle.cell_types.specs.Image.{Image}
use Rattle.cell_types.specs.Layout.{Layout}
use Rattle.cell_types.specs.declared.refusal.CopyRefusal.{CopyRefusal}
use Rattle.cell_types.specs.declared.refusal.CopyRefusal.TheVariants.{NoMemory, OtherVolume, To}
use Rattle.cell_types.specs.declared.refusal.Refusal.TheVariants.{Full, PathFull, SlotsFull, TooManyTerms, TooSmall}
use Rattle.volume_meaning.specs.Volumes.{IsVolume}
use Rattle.tamper_rules.specs.Settling.{Sound}
use Rattle.worm_device.specs.State.{DeviceState}
use Rattle.crash_laws.specs.SettlingSteadiness.{IsSteady}
use Rattle.volume_copy.specs.Alone.{AreAlone, AreUnfailed}
use Rattle.volume_copy.specs.First.{HoldsFirst, IsSourceImage}

-- Nobody else writes on either device, and no call of them fails. The source is a sound volume, the target has no written
-- cell or holds the first documents of the source, and whatever a crash leaves of either is blank or sound.
pub record IsCopyUnhindered (from from' to to' : DeviceState) : Type 0 where
  pub alone : AreAlone from from' to to'
  pub unfailed : AreUnfailed from from' to to'
  pub from_sound : Sound from.cells from.image
  pub from_steady : IsSteady from
  pub to_steady : IsSteady to
  pub source : Image
  pub is_source : IsSourceImage from from' source
  pub to_first : HoldsFirst from'.cells source to.cells to.image

-- Why such a copy is refused: want of memory, a target that is another volume, or one that lacks the room.
abbrev pub IsForRoom : CopyRefusal → Type 0
IsForRoom NoMemory = ⊤
IsForRoom (OtherVolume cell) = ⊤
IsForRoom (To TooSmall) = ⊤
IsForRoom (To SlotsFull) = ⊤
IsForRoom (To (Full need free)) = ⊤
IsForRoom (To PathFull) = ⊤
IsForRoom (To (TooManyTerms list count)) = ⊤
IsForRoom refusal = ⊥

-- it is done, or refused for that
abbrev pub EndsUnhindered : {X : Type 0} → Result X CopyRefusal → Type 0
EndsUnhindered (Ok x) = ⊤
EndsUnhindered (Err refusal) = IsForRoom refusal

-- the volumes of the devices have one version
abbrev pub AreOfOneVersion : DeviceState → DeviceState → Type 0
AreOfOneVersion from to =
    (g h : Layout) → IsVolume from.cells from.image g → IsVolume to.cells to.image h → h.version ≡ g.version
