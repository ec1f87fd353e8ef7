-- Laws of the words that contracts on devices and views use.
use Rattle.std.specs.Prelude.{◌↔◌}
use Rattle.cell_types.specs.Image.{Image, Between, Extends}
use Rattle.worm_device.specs.State.{DeviceState, LeftSince}
use Rattle.worm_device.specs.Calls.{Called, Elapses, LeavesAll}
use Rattle.worm_device.specs.Views.{ViewState, IsView, Viewed, Rests}

-- Called holds of no call, and of one row of calls after another
abbrev pub CallsCompose : Type 0
CallsCompose =
    ((a : DeviceState) → Called a a) × ((a b c : DeviceState) → Called a b → Called b c → Called a c)

-- Called says Elapses
abbrev pub CallsElapse : Type 0
CallsElapse = (a b : DeviceState) → Called a b → Elapses a b

-- A crash at any moment of a row of calls leaves all that was sure before it, and nothing that does not stand
-- after it, whoever else wrote.
abbrev pub CrashesKeepWhatWasSure : Type 0
CrashesKeepWhatWasSure =
    (a b : DeviceState) (image : Image) → Called a b → LeftSince b a.moment image → Between a.sure b.image image

-- LeavesAll says that each image from what was sure at a call's entry to what stands at its exit may be left
abbrev pub ACrashInACall : Type 0
ACrashInACall = (a b : DeviceState) (image : Image) → LeavesAll a b → Between a.sure b.image image
    → LeftSince b a.moment image

-- Viewed holds of no call, and of one row of calls after another
abbrev pub ViewsCompose : Type 0
ViewsCompose =
    ((a : ViewState) → Viewed a a) × ((a b c : ViewState) → Viewed a b → Viewed b c → Viewed a c)

-- Viewed says Rests
abbrev pub ViewsRest : Type 0
ViewsRest = (a b : ViewState) → Viewed a b → Rests a b

-- what could have been left since the present moment lies between the sure image and the image
abbrev pub ACrashNow : Type 0
ACrashNow = (s : DeviceState) (image : Image) → LeftSince s s.moment image ↔ Between s.sure s.image image

-- an image that has all that stands below what is planned, and each planned cell, has all that the view shows
abbrev pub PlannedCellsShow : Type 0
PlannedCellsShow =
    (s : ViewState) (image : Image) → IsView s → Extends s.lower image → Extends s.planned image → Extends s.image image
