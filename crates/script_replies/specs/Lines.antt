-- The lines that answer the events of a script: one a reply.
use Rattle.std.specs.Prelude.{◌≡◌, ◌+◌, ℕ, List, [], ◌∷◌, ◌++◌, codes, decimal, length}
use Rattle.hex.specs.Hex.{encode_lower}
use Rattle.cell_types.specs.Refusals.{status_of}
use Rattle.cell_types.specs.declared.refusal.Evidence.{Evidence}
use Rattle.cell_types.specs.declared.refusal.Refusal.{Refusal}
use Rattle.cell_types.specs.declared.refusal.Refusal.TheVariants.{Tampered}
use Rattle.record_query.specs.declared.found.Match.{Match}
use Rattle.recovery_engine.specs.declared.settling.Step.{Step}
use Rattle.recovery_engine.specs.declared.settling.Step.TheVariants.{Nothing, Abandoned, Completed}
use Rattle.volume_audit.specs.declared.report.AuditReport.{AuditReport}
use Rattle.worm_memory.specs.declared.losses.Crash.{Crash}
use Rattle.script_replies.specs.declared.reply.Reply.{Reply}
use Rattle.script_replies.specs.declared.reply.Reply.TheVariants as reply

-- the evidence of a tampering: rule, cell, and what stands there
abbrev pub evidence_words : Evidence → List ℕ
evidence_words e =
    codes "tampered " ++ (decimal e.rule ++ (codes " " ++ (decimal e.cell ++ (codes " " ++ encode_lower e.found))))

-- why there is no answer
abbrev pub refusal_words : Refusal → List ℕ
refusal_words (Tampered evidence) = evidence_words evidence
refusal_words refusal = codes "refused"

-- the slots, each behind a space
abbrev pub slots_words : List Match → List ℕ
slots_words [] = []
slots_words (m ∷ ms) = codes " " ++ (decimal m.slot ++ slots_words ms)

-- the slot and the length of a body
abbrev pub body_words : ℕ → List ℕ → List ℕ
body_words slot body = codes "slot " ++ (decimal slot ++ (codes ", " ++ (decimal (length body) ++ codes " bytes")))

-- the numbers of a sound volume
abbrev pub report_words : AuditReport → List ℕ
report_words r =
    codes "sound: " ++ (decimal r.done ++ (codes " done, " ++ (decimal r.abandoned
    ++ (codes " abandoned, " ++ (decimal r.written ++ codes " written cells")))))

-- what settling did
abbrev pub step_words : Step → List ℕ
step_words Nothing = codes "nothing to settle"
step_words (Abandoned slot) = codes "slot " ++ (decimal slot ++ codes " abandoned")
step_words (Completed slot) = codes "slot " ++ (decimal slot ++ codes " completed")

-- how many cells a crash could take, and how many it left
abbrev pub crash_words : Crash → List ℕ
crash_words crash = codes "kept " ++ (decimal crash.kept ++ (codes " of " ++ decimal crash.unsure))

-- what any event is answered, in words
abbrev pub reply_words : Reply → List ℕ
reply_words reply.Formatted = codes "formatted"
reply_words (reply.Acknowledged slot) = codes "acknowledged " ++ decimal slot
reply_words (reply.Found matches) = codes "found" ++ slots_words matches
reply_words (reply.Body slot body) = body_words slot body
reply_words (reply.Sound report) = report_words report
reply_words (reply.Settled step) = step_words step
reply_words reply.ForeignDone = codes "done"
reply_words (reply.ForeignTaken cell) = codes "taken " ++ encode_lower cell
reply_words (reply.Crashed crash) = crash_words crash
reply_words (reply.Refused refusal) = refusal_words refusal

-- 0 for an answer, and for a refusal its own
abbrev pub reply_status : Reply → ℕ
reply_status (reply.Refused refusal) = status_of refusal
reply_status r = 0

-- the line of the reply to the event of this number: the number, the status, the words
abbrev pub reply_line : ℕ → Reply → List ℕ
reply_line number r =
    decimal number ++ (codes " " ++ (decimal (reply_status r) ++ (codes " " ++ (reply_words r ++ codes "\n"))))

-- a line for each reply, the first with this number
abbrev pub lines_from : ℕ → List Reply → List ℕ
lines_from number [] = []
lines_from number (r ∷ replies) = reply_line number r ++ lines_from (number + 1) replies

-- the text of replies to the events of a script, which are numbered from 1
abbrev pub replies_text : List Reply → List ℕ
replies_text replies = lines_from 1 replies

-- No replies have no text; and one reply more is one line more, with the next number, behind what stood there. This
-- says what the text of any replies is.
pub record OneLineEach : Type 0 where
  pub none : replies_text [] ≡ []
  pub more : (replies : List Reply) (r : Reply)
      → replies_text (replies ++ r ∷ []) ≡ replies_text replies ++ reply_line (length replies + 1) r
