-- What each command does, and when nothing hinders it. A further command is one more case in each of these.
use Rattle.std.specs.Prelude.{ℕ, List, Result}
use Rattle.cell_types.specs.Layout.{Layout}
use Rattle.cell_types.specs.declared.refusal.Refusal.{Refusal}
use Rattle.receipt_text.specs.declared.receipt.Receipt.{Receipt}
use Rattle.script_events.specs.declared.event.Script.{Script}
use Rattle.command_line.specs.Requests.{Request, ToAudit, ToCheck, ToExercise, ToFind, ToFindBetween, ToFormat, ToIngest, ToLookUp, ToMakeReceipt, ToRecover, ToReplay}
use Rattle.volume_commands.specs.Auditing.{DoesAudit, IsReadyToAudit}
use Rattle.volume_commands.specs.Checking.{DoesCheck, IsReadyToCheck}
use Rattle.record_top.specs.Exercising.{DoesExercise, IsOkOrOfExercise, IsReadyToExercise}
use Rattle.volume_commands.specs.Finding.{DoesFind, IsReadyToFind}
use Rattle.volume_commands.specs.Formatting.{DoesFormat, IsReadyToFormat}
use Rattle.volume_commands.specs.Ingesting.{DoesIngest, IsReadyToIngest}
use Rattle.volume_commands.specs.LookingUp.{DoesLookUp, IsReadyToLookUp}
use Rattle.volume_commands.specs.Ports.{IsOkAlone, IsOkOrAbsent, IsOkOrNoMemory, Ports}
use Rattle.volume_commands.specs.Receipting.{DoesReceipt, IsOkOrNoReceipt, IsReadyForReceipt}
use Rattle.volume_commands.specs.Recovering.{DoesRecover, IsReadyToRecover}
use Rattle.record_top.specs.Replaying.{DoesReplay, IsReadyToReplay}
use Rattle.volume_commands.specs.Spanning.{DoesBetween, IsReadyBetween}

-- the layout of so many slots and lists on the whole device, of this version
abbrev pub layout_on : Ports → ℕ → ℕ → ℕ → Layout
layout_on ports slots lists version =
    record { slots = slots; lists = lists; cells = ports.device.cells; version = version }

-- this is done, and ends for a cause that is named
abbrev pub Does : Request → Ports → Ports → Result Unit Refusal → Type 0
Does (ToFormat slots lists version) old new result = DoesFormat (layout_on old slots lists version) old new result
Does (ToIngest id stamp) old new result = DoesIngest id stamp old new result
Does (ToFind asked) old new result = DoesFind asked old new result
Does (ToLookUp id) old new result = DoesLookUp id old new result
Does ToRecover old new result = DoesRecover old new result
Does ToAudit old new result = DoesAudit old new result
Does ToReplay old new result = DoesReplay old new result
Does (ToExercise documents) old new result = DoesExercise documents old new result
Does ToCheck old new result = DoesCheck old new result
Does (ToMakeReceipt id) old new result = DoesReceipt id old new result
Does (ToFindBetween from to) old new result = DoesBetween from to old new result

-- nothing hinders this
abbrev pub IsUnhindered : Request → Ports → Ports → Type 0
IsUnhindered (ToFormat slots lists version) old new = IsReadyToFormat (layout_on old slots lists version) old new
IsUnhindered (ToIngest id stamp) old new =
    (body : List ℕ) × (g : Layout) × (slot : ℕ) × IsReadyToIngest id stamp body g slot old new
IsUnhindered (ToFind asked) old new = (g : Layout) × IsReadyToFind asked g old new
IsUnhindered (ToLookUp id) old new = (g : Layout) × IsReadyToLookUp id g old new
IsUnhindered ToRecover old new = (g : Layout) × IsReadyToRecover g old new
IsUnhindered ToAudit old new = (g : Layout) × IsReadyToAudit g old new
IsUnhindered ToReplay old new = (text : List ℕ) × (script : Script) × IsReadyToReplay text script old new
IsUnhindered (ToExercise documents) old new = IsReadyToExercise old new
IsUnhindered ToCheck old new = (r : Receipt) × (body : List ℕ) × IsReadyToCheck r body old new
IsUnhindered (ToMakeReceipt id) old new = (g : Layout) × IsReadyForReceipt id g old new
IsUnhindered (ToFindBetween from to) old new = (g : Layout) × IsReadyBetween g old new

-- What is answered where nothing hinders this: it is done; or, where memory is taken, none was to be had; or, where a
-- document is looked up or a receipt of it is asked for, none has the identifier; or the receipt would have too many
-- cells. An exercise may end, besides, as the path of one of its identifiers is full.
abbrev pub IsAnswered : Request → Result Unit Refusal → Type 0
IsAnswered (ToFormat slots lists version) result = IsOkAlone result
IsAnswered (ToIngest id stamp) result = IsOkOrNoMemory result
IsAnswered (ToFind asked) result = IsOkOrNoMemory result
IsAnswered (ToLookUp id) result = IsOkOrAbsent result
IsAnswered ToRecover result = IsOkAlone result
IsAnswered ToAudit result = IsOkOrNoMemory result
IsAnswered ToReplay result = IsOkOrNoMemory result
IsAnswered (ToExercise documents) result = IsOkOrOfExercise result
IsAnswered ToCheck result = IsOkOrNoMemory result
IsAnswered (ToMakeReceipt id) result = IsOkOrNoReceipt result
IsAnswered (ToFindBetween from to) result = IsOkOrNoMemory result
