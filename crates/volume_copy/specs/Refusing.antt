-- Whose refusal ends a copy.
use Rattle.std.specs.Prelude.{ℕ, List}
use Rattle.cell_types.specs.declared.refusal.CopyRefusal.{CopyRefusal}
use Rattle.cell_types.specs.declared.refusal.CopyRefusal.TheVariants.{From, NoMemory, OtherVolume, To}
use Rattle.cell_types.specs.declared.refusal.Refusal.{Refusal}
use Rattle.cell_types.specs.declared.refusal.Refusal.TheVariants as refusals

-- that of the source; want of memory is nobody's
abbrev pub refusal_from : Refusal → CopyRefusal
refusal_from refusals.NoMemory = NoMemory
refusal_from refusal = From refusal

-- that of the target
abbrev pub refusal_to : Refusal → CopyRefusal
refusal_to refusals.NoMemory = NoMemory
refusal_to refusal = To refusal

-- that of a target that is another volume
abbrev pub other_volume : List ℕ → CopyRefusal
other_volume cell = OtherVolume cell
