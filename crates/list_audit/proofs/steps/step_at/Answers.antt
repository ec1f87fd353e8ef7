-- No posting stands there, or another one.
use Rattle.std.proofs.Common.{◌≡◌, Some, sym, ◌∙◌}
use Rattle.log_audit.proofs.Deciding.{decided_no}
use Rattle.list_audit.proofs.steps.step_at.Goals as goal

pub returns-in_default : goal.returns-in_default
returns-in_default c = c.in_default.ensures.none c.args.posting.now

pub returns : goal.returns
returns c = λ holds.
    let both : Some c.in-Some.held ≡ Some c.args.posting.now = sym c.in-Some.is ∙ c.posting_at.ensures.one c.args.posting.now holds in
    let same : c.in-Some.held ≡ c.args.posting.now = cc in
    decided_no _ c.says_as.ensures c.if-says_as.false same
