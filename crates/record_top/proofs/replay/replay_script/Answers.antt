-- Each exit, by how far the command came.
use Rattle.std.proofs.Common.{ℕ, List, Ok, Err, refl, subst, ◌∙◌}
use Rattle.cell_types.specs.declared.refusal.Refusal.TheVariants.{NoMemory, SinkFault}
use Rattle.cell_types.proofs.Passed.{handed}
use Rattle.script_events.specs.Scripts.{IsScript, ReadScriptEnds}
use Rattle.record_top.specs.Replaying.{replayed, unread, untaken}
use Rattle.volume_commands.specs.Taking.{refusal_of_body_fault}
use Rattle.volume_commands.proofs.Taken.{is_body}
use Rattle.volume_commands.proofs.Reports.{gets_as, part_as}
use Rattle.record_top.proofs.replay.replay_script.Goals as goal

-- what was read is within the limits
pub lines_of-requires : goal.lines_of-requires
lines_of-requires g c = c.scripts_are_in_limits.ensures _ c.in_ok-script.script c.in_ok-script.ensures

-- no text was taken
pub returns-in_err-text : goal.returns-in_err-text
returns-in_err-text g c =
    let fault = c.in_err-text.field-0.0 in
    let fails = c.in_err-text.ensures.fails in
    rw (handed c.from_residual.result (refusal_of_body_fault fault) c.from_residual.ensures.1)
    (untaken fails.0 fault fails.1 fails.2 refl refl refl)

-- the text was not read
pub returns-in_err-script : goal.returns-in_err-script
returns-in_err-script g c =
    let body = c.in_ok-text.ensures.body in
    let refusal = c.in_err-script.field-0.0 in
    rw (handed c.from_residual-in_err-script.result refusal c.from_residual-in_err-script.ensures.1)
    (unread c.in_ok-text.text.items refusal (is_body body.0) body.1 body.2
    (subst (λ (t : List ℕ). ReadScriptEnds t (Err refusal)) c.deref.ensures.value c.in_err-script.ensures)
    refl refl refl)

-- no memory was to be had to replay it
pub returns-in_err-lines : goal.returns-in_err-lines
returns-in_err-lines g c =
    let body = c.in_ok-text.ensures.body in
    let script = c.in_ok-script.script in
    rw (handed c.from_residual-in_err-lines.result NoMemory c.from_residual-in_err-lines.ensures.1)
    (replayed c.in_ok-text.text.items script (Err NoMemory) (is_body body.0) body.1 body.2
    (subst (λ (t : List ℕ). IsScript t script) c.deref.ensures.value c.in_ok-script.ensures) refl refl (refl, refl))

-- the sink failed
pub returns-in_err-put_text : goal.returns-in_err-put_text
returns-in_err-put_text g c =
    let body = c.in_ok-text.ensures.body in
    let script = c.in_ok-script.script in
    let told = c.in_ok-lines.ensures in
    let failed = c.from_residual-in_err-put_text in
    rw (handed failed.result SinkFault failed.ensures.1)
    (replayed c.in_ok-text.text.items script (Ok told.0) (is_body body.0) body.1 body.2
    (subst (λ (t : List ℕ). IsScript t script) c.deref.ensures.value c.in_ok-script.ensures) told.1 refl
    (part_as (c.as_bytes.ensures.value ∙ told.2) c.in_err-put_text.ensures.part))

-- the replies were put out
pub returns : goal.returns
returns g c =
    let body = c.in_ok-text.ensures.body in
    let script = c.in_ok-script.script in
    let told = c.in_ok-lines.ensures in
    replayed c.in_ok-text.text.items script (Ok told.0) (is_body body.0) body.1 body.2
    (subst (λ (t : List ℕ). IsScript t script) c.deref.ensures.value c.in_ok-script.ensures) told.1 refl
    (gets_as (g.K.Sink.state c.args.sink.now) (g.K.Sink.state c.put_text.new.sink) (c.as_bytes.ensures.value ∙ told.2) c.in_ok-put_text.ensures.whole)
