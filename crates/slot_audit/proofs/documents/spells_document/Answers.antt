-- No document, and one.
use Rattle.std.proofs.Common.{sym, subst}
use Rattle.tamper_rules.specs.Rules.{HasDocument}
use Rattle.log_audit.specs.Kept.{image_of_kept}
use Rattle.log_audit.specs.declared.kept.KeptCells.{KeptCells}
use Rattle.log_audit.proofs.Deciding.{no, yes}
use Rattle.slot_audit.proofs.Reading.{read_one, read_none}
use Rattle.slot_audit.proofs.documents.spells_document.Goals as goal

pub returns-in_default : goal.returns-in_default
returns-in_default c = no (λ has. read_none c.new-shown.result.kept.now c.read_document.new.view.kept.now c.args.start c.args.bytes
    c.in_default.field-0 c.in_default.ensures.viewed c.in_default.ensures.ends
    (subst (λ (k : KeptCells). HasDocument (image_of_kept k) c.args.start c.args.bytes) (sym c.new-shown.ensures) has))

pub returns : goal.returns
returns c = yes (subst (λ (k : KeptCells). HasDocument (image_of_kept k) c.args.start c.args.bytes) c.new-shown.ensures
    (read_one c.new-shown.result.kept.now c.read_document.new.view.kept.now c.args.start c.args.bytes
    c.in-Ok._head c.in-Ok.ensures.viewed c.in-Ok.ensures.ends))
