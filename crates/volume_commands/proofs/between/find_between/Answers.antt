-- Each exit, by how far the command came.
use Rattle.std.proofs.Common.{ℕ, List, Ok, Err, refl, subst, ap, ◌∙◌}
use Rattle.cell_types.specs.declared.refusal.Refusal.TheVariants.{NoMemory, SinkFault}
use Rattle.cell_types.proofs.Passed.{handed}
use Rattle.volume_commands.specs.Spanning.{span_text}
use Rattle.volume_commands.proofs.Reports.{gets_as, part_as}
use Rattle.volume_commands.proofs.between.find_between.Goals as goal

-- the search was ended
pub returns-in_err-matches : goal.returns-in_err-matches
returns-in_err-matches g c =
    let refusal = c.in_err-matches.field-0.0 in
    rw (handed c.from_residual.result refusal c.from_residual.ensures.1)
    (record { answer = Err refusal; finds = c.in_err-matches.ensures; source = refl; tells = (refl, refl) })

-- no memory was to be had for the text
pub returns-in_err-text : goal.returns-in_err-text
returns-in_err-text g c =
    rw (handed c.from_residual-in_err-text.result NoMemory c.from_residual-in_err-text.ensures.1)
    (record { answer = Ok c.in_ok-matches.matches; finds = c.in_ok-matches.ensures; source = refl; tells = refl })

-- the sink failed
pub returns-in_err-put_text : goal.returns-in_err-put_text
returns-in_err-put_text g c =
    let failed = c.from_residual-in_err-put_text in
    let text = c.deref-2.ensures.value ∙ c.in_ok-text.ensures ∙ ap span_text c.deref.ensures.value in
    rw (handed failed.result SinkFault failed.ensures.1)
    (record {
      answer = Ok c.in_ok-matches.matches;
      finds = c.in_ok-matches.ensures;
      source = refl;
      tells = part_as text c.in_err-put_text.ensures.part;
    })

-- the text was put out
pub returns : goal.returns
returns g c =
    let text = c.deref-2.ensures.value ∙ c.in_ok-text.ensures ∙ ap span_text c.deref.ensures.value in
    record {
      answer = Ok c.in_ok-matches.matches;
      finds = c.in_ok-matches.ensures;
      source = refl;
      tells = gets_as (g.K.Sink.state c.args.sink.now) (g.K.Sink.state c.put_text.new.sink) text c.in_ok-put_text.ensures.whole;
    }
