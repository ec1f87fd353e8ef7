use Rattle.std.proofs.Common.{Some, ap, sym, ◌∙◌}
use Rattle.serde_json.specs.View.{view}
use Rattle.script_events.proofs.OneKind.{term_said}
use Rattle.script_events.proofs.texts.term.Goals as goal

pub returns : goal.returns
returns c =
    term_said c.args.rule c.as_bytes.result.now (view c.args.value.now) c.term_of.result
    (sym c.in-Some.ensures ∙ ap Some (sym c.as_bytes.ensures.value)) c.term_of.ensures
