-- A check that finds, and one that does not.
use Rattle.std.proofs.Common.{◌≡◌, inr, Option, Some, None, Result, Ok, Err, subst}
use Rattle.cell_types.specs.Image.{Image}
use Rattle.cell_types.specs.Layout.{Layout}
use Rattle.cell_types.specs.declared.refusal.Evidence.{Evidence}
use Rattle.cell_types.specs.declared.refusal.Refusal.{Refusal}
use Rattle.cell_types.specs.declared.refusal.Refusal.TheVariants as refusals
use Rattle.tamper_rules.specs.Rules.{Rule, number_of}
use Rattle.log_audit.specs.Findings.{IsMetAll, FindsBroken, AreMetBelow, IsFirstBroken}
use Rattle.log_audit.specs.Logs.{LogEnds, LogChecks}
use Rattle.log_audit.specs.declared.log.Log.{Log}

pub first_found : (g : Layout) (image : Image) (rule : Rule) (answer : Option Evidence) (e : Evidence) → AreMetBelow g image (number_of rule) → FindsBroken g image rule answer
    → answer ≡ Some e → IsFirstBroken g image e
first_found g image rule answer e lower finds is = record { rule = rule; least = subst (FindsBroken g image rule) is finds; lower = lower }

pub found_none : (g : Layout) (image : Image) (rule : Rule) (found : Option Evidence) → FindsBroken g image rule found → found ≡ None → IsMetAll g image rule
found_none g image rule found finds is = subst (FindsBroken g image rule) is finds

pub log_checks : (g : Layout) (image : Image) (result : Result Log Refusal) → AreMetBelow g image 4 → LogEnds g image result
    → LogChecks g image result
log_checks g image (Ok log) met ends = (ends, met)
log_checks g image (Err (refusals.Tampered e)) met ends = inr ends
log_checks g image (Err refusals.NoMemory) met ends = ends
log_checks g image (Err refusals.Usage) met ends = ends
log_checks g image (Err (refusals.Duplicate n)) met ends = ends
log_checks g image (Err refusals.BadIdentifier) met ends = ends
log_checks g image (Err refusals.TooLong) met ends = ends
log_checks g image (Err (refusals.TooManyTerms l n)) met ends = ends
log_checks g image (Err (refusals.BadWord n)) met ends = ends
log_checks g image (Err (refusals.BadScript n)) met ends = ends
log_checks g image (Err (refusals.Full n m)) met ends = ends
log_checks g image (Err refusals.SlotsFull) met ends = ends
log_checks g image (Err refusals.PathFull) met ends = ends
log_checks g image (Err refusals.DeviceFault) met ends = ends
log_checks g image (Err refusals.SourceFault) met ends = ends
log_checks g image (Err refusals.SinkFault) met ends = ends
log_checks g image (Err refusals.NotFormatted) met ends = ends
log_checks g image (Err (refusals.NotAVolume c)) met ends = ends
log_checks g image (Err (refusals.WrongSize n m)) met ends = ends
log_checks g image (Err (refusals.NotBlank n)) met ends = ends
log_checks g image (Err refusals.TooSmall) met ends = ends
log_checks g image (Err refusals.Absent) met ends = ends
log_checks g image (Err refusals.StampNeeded) met ends = ends
log_checks g image (Err refusals.StampUnused) met ends = ends
log_checks g image (Err (refusals.StampTooEarly n m)) met ends = ends
log_checks g image (Err refusals.NoStamps) met ends = ends
log_checks g image (Err (refusals.ReceiptTooLong n)) met ends = ends
log_checks g image (Err (refusals.BadReceipt n)) met ends = ends
log_checks g image (Err (refusals.CellDiffers n)) met ends = ends
log_checks g image (Err (refusals.NotShown n)) met ends = ends
