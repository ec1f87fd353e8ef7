-- What was done with a file that was opened, of what its steps ensure.
use Rattle.std.proofs.Common.{◌≡◌, ℕ, List, Option, Result, Ok, Err, OnOk, OnErr, subst}
use Rattle.cell_types.specs.declared.refusal.Refusal.{Refusal}
use Rattle.worm_device.specs.State.{DeviceState}
use Rattle.worm_device.specs.declared.device.Failed.{Failed}
use Rattle.host_files.specs.File.{FileState}
use Rattle.host_ports.specs.Memories.{GatheredBytes}
use Rattle.host_ports.specs.Sinks.{SinkState, Gets, PutsPart}
use Rattle.host_ports.specs.Sources.{SourceState}
use Rattle.program_host.specs.declared.fault.Fault.{Fault}
use Rattle.program.specs.OneFile.{IsShown, RanOver, WorksOver, World, new_device}

-- what was done behind a path was done behind a word of the same bytes
pub same_path : {H F : Type 0} (Opened : H → List ℕ → Option F → H → Type 0) (state : F → FileState)
    (path word : List ℕ) (words : List (List ℕ)) (old new : World H) (result : Result Unit Fault) → path ≡ word
    → WorksOver Opened state path words old new result → WorksOver Opened state word words old new result
same_path Opened state path word words old new result is works =
    subst (λ (p : List ℕ). WorksOver Opened state p words old new result) is works

-- all of a text was put, or a part of it
pub shown_by : (text piece : List ℕ) (old new : SinkState) (shown : Result Unit Failed) → piece ≡ text
    → OnOk shown (Gets old.held new.held piece) → OnErr shown (PutsPart piece old new) → IsShown text old new shown
shown_by text piece old new (Ok u) is whole part = subst (λ (p : List ℕ). Gets old.held new.held p) is whole
shown_by text piece old new (Err failed) is whole part = subst (λ (p : List ℕ). PutsPart p old new) is part

-- the command ran over the device of this file
pub ran_over : {F : Type 0} (state : F → FileState) (words : List (List ℕ)) (device : DeviceState) (file : F)
    (old new : SourceState) (text : GatheredBytes) (done : Result Unit Refusal) → device ≡ new_device (state file)
    → RanOver state words device old new text done → RanOver state words (new_device (state file)) old new text done
ran_over state words device file old new text done is ran =
    subst (λ (d : DeviceState). RanOver state words d old new text done) is ran
