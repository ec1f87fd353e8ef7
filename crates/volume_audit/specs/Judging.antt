-- What checking the rules over kept cells says of the image that they show.
use Rattle.std.specs.Prelude.{◌≡◌, ◌⊎◌, ℕ, Option, Some, None, Result, Ok, Err, ⊤}
use Rattle.cell_types.specs.Image.{Image}
use Rattle.cell_types.specs.Layout.{Layout}
use Rattle.cell_types.specs.declared.refusal.Evidence.{Evidence}
use Rattle.cell_types.specs.declared.refusal.Refusal.{Refusal}
use Rattle.cell_types.specs.declared.refusal.Refusal.TheVariants.{Tampered, NoMemory}
use Rattle.tamper_rules.specs.Settling.{IsSettled}
use Rattle.log_audit.specs.Findings.{AreMetBelow, IsFirstBroken, Stops}
use Rattle.log_audit.specs.Logs.{IsUnended}
use Rattle.volume_audit.specs.Reports.{IsReport}
use Rattle.volume_audit.specs.declared.report.AuditReport.{AuditReport}

-- how checking some rules may end, and why: each rule of a lower number is kept, or the first that is broken is named
abbrev pub Passes : Layout → Image → ℕ → Result Unit Refusal → Type 0
Passes g image number (Ok u) = AreMetBelow g image number
Passes g image number (Err refusal) = Stops g image refusal

-- what was found is the refusal, and nothing that was found is none
abbrev pub RefusesFound : Option Evidence → Result Unit Refusal → Type 0
RefusesFound None result = result ≡ Ok tt
RefusesFound (Some e) result = result ≡ Err (Tampered e)

-- How checking all rules may end, and why: the image is settled, and these are its numbers; or the least rule that is
-- broken is named at its least cell; or a slot has not ended.
abbrev pub Judges : Layout → Image → Result AuditReport Refusal → Type 0
Judges g image (Ok report) = IsSettled g image × IsReport g image report
Judges g image (Err (Tampered e)) = IsFirstBroken g image e ⊎ IsUnended g image e
Judges g image (Err NoMemory) = ⊤
Judges g image (Err refusal) = ⊥
