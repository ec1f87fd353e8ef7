-- The rule of words of the volume that a device holds, which cell 0 tells before words are read.
use Rattle.std.specs.Prelude.{◌≡◌, ℕ, Result, Ok, Err, IsTrue}
use Rattle.cell_types.specs.Image.{Image, IsUnchanged}
use Rattle.cell_types.specs.Layout.{Layout}
use Rattle.cell_types.specs.declared.refusal.Refusal.{Refusal}
use Rattle.cell_types.specs.declared.refusal.Refusal.TheVariants.{DeviceFault, NotAVolume, NotFormatted, WrongSize}
use Rattle.volume_meaning.specs.Volumes.{IsVolume}
use Rattle.volume_meaning.specs.Words.{rule_of}
use Rattle.volume_meaning.specs.declared.word_rules.WordRule.{WordRule}
use Rattle.worm_device.specs.Calls.{Called}
use Rattle.worm_device.specs.Counts.{IsStill, next_count}
use Rattle.worm_device.specs.State.{DeviceState, IsDevice}
use Rattle.recovery_engine.specs.Settling.{SettleEnds}

-- a volume stands there, and this is the rule of its words
abbrev pub HasRule : ℕ → Image → WordRule → Type 0
HasRule cells image rule = (g : Layout) × IsVolume cells image g × (rule ≡ rule_of g.version)

-- How asking for it may end, and why: where there is no volume, as settling ends for that.
abbrev pub RuleEnds : DeviceState → DeviceState → Result WordRule Refusal → Type 0
RuleEnds old new (Ok rule) = (new.faults ≡ old.faults) × (IsTrue old.tells → HasRule new.cells new.image rule)
RuleEnds old new (Err DeviceFault) = SettleEnds old new (Err DeviceFault)
RuleEnds old new (Err NotFormatted) = SettleEnds old new (Err NotFormatted)
RuleEnds old new (Err (NotAVolume found)) = SettleEnds old new (Err (NotAVolume found))
RuleEnds old new (Err (WrongSize stated real)) = SettleEnds old new (Err (WrongSize stated real))
RuleEnds old new (Err refusal) = ⊥

-- asking for it is one read, and writes nothing
pub record AsksRule (old new : DeviceState) (result : Result WordRule Refusal) : Type 0 where
  pub device : IsDevice new
  pub called : Called old new
  pub reads : new.reads ≡ next_count old.reads
  pub quiet : IsStill old.foreign_writes new.foreign_writes → IsUnchanged old.image new.image
  pub ends : RuleEnds old new result
