-- Each exit, by how far the command came.
use Rattle.std.proofs.Common.{arith, Ok, Err, map, refl, ap, ◌∙◌}
use Rattle.std.specs.String.{string_bytes}
use Rattle.cell_types.specs.declared.refusal.Refusal.TheVariants.{NoMemory, SinkFault}
use Rattle.cell_types.proofs.Passed.{handed}
use Rattle.volume_commands.specs.Finding.{find_text, unruled}
use Rattle.volume_commands.specs.Ports.{ports_of}
use Rattle.std.proofs.lemmas.List.{length-map}
use Rattle.volume_commands.proofs.Finds.{found, not_searched, some_term}
use Rattle.volume_commands.proofs.Reports.{gets_as, part_as}
use Rattle.volume_commands.proofs.find.find_documents.Goals as goal

-- cell 0 told no rule
pub returns-in_err-rule : goal.returns-in_err-rule
returns-in_err-rule g c =
    let refusal = c.in_err-rule.field-0.0 in
    rw (handed c.from_residual.result refusal c.from_residual.ensures.1)
    (unruled refusal c.in_err-rule.ensures refl refl refl)

-- the terms were not read
pub returns-in_err-terms : goal.returns-in_err-terms
returns-in_err-terms g c =
    let source = g.S.Source.state c.args.source.now in
    let sink = g.K.Sink.state c.args.sink.now in
    let old = ports_of (g.D.Device.state c.args.device.now) source sink in
    let new = ports_of (g.D.Device.state c.rule_on.new.device) source sink in
    let refusal = c.in_err-terms.field-0.0 in
    rw (handed c.from_residual-in_err-terms.result refusal c.from_residual-in_err-terms.ensures.1)
    (not_searched (map string_bytes c.args.words.now) c.in_ok-rule.rule old new refusal c.in_ok-rule.ensures
    c.in_err-terms.ensures refl refl)

-- some term is sought
pub find-requires : goal.find-requires
find-requires g c =
    rw c.deref.ensures.value
    (record {
      some = some_term c.in_ok-rule.rule (map string_bytes c.args.words.now) c.in_ok-terms.terms.items
          c.in_ok-terms.ensures (omega (arith, c.requires.some, length-map c.args.words.now string_bytes));
    })

-- the search was ended
pub returns-in_err-matches : goal.returns-in_err-matches
returns-in_err-matches g c =
    let refusal = c.in_err-matches.field-0.0 in
    rw (handed c.from_residual-in_err-matches.result refusal c.from_residual-in_err-matches.ensures.1)
    (found (Err refusal) c.in_ok-rule.ensures c.in_ok-terms.ensures c.deref.ensures.value c.in_err-matches.ensures refl
    (refl, refl))

-- no memory was to be had for the text
pub returns-in_err-text : goal.returns-in_err-text
returns-in_err-text g c =
    rw (handed c.from_residual-in_err-text.result NoMemory c.from_residual-in_err-text.ensures.1)
    (found (Ok c.in_ok-matches.matches) c.in_ok-rule.ensures c.in_ok-terms.ensures c.deref.ensures.value
    c.in_ok-matches.ensures refl refl)

-- the sink failed
pub returns-in_err-put_text : goal.returns-in_err-put_text
returns-in_err-put_text g c =
    let failed = c.from_residual-in_err-put_text in
    let text = c.deref-3.ensures.value ∙ c.in_ok-text.ensures ∙ ap find_text c.deref-2.ensures.value in
    rw (handed failed.result SinkFault failed.ensures.1)
    (found (Ok c.in_ok-matches.matches) c.in_ok-rule.ensures c.in_ok-terms.ensures c.deref.ensures.value
    c.in_ok-matches.ensures refl (part_as text c.in_err-put_text.ensures.part))

-- the text was put out
pub returns : goal.returns
returns g c =
    let text = c.deref-3.ensures.value ∙ c.in_ok-text.ensures ∙ ap find_text c.deref-2.ensures.value in
    found (Ok c.in_ok-matches.matches) c.in_ok-rule.ensures c.in_ok-terms.ensures c.deref.ensures.value
    c.in_ok-matches.ensures refl
    (gets_as (g.K.Sink.state c.args.sink.now) (g.K.Sink.state c.put_text.new.sink) text c.in_ok-put_text.ensures.whole)
