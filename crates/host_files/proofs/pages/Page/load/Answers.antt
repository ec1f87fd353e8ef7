use Rattle.std.proofs.Common.{◌≡◌, ◌∙◌, take, drop, ap, arith}
use Rattle.std.proofs.lemmas.Option.{same_Some}
use Rattle.host_files.proofs.PageBytes.{given_cell, answered}
use Rattle.host_files.proofs.pages.Page.load.Goals as goal

pub returns-clause-holds : goal.returns-clause-holds
returns-clause-holds g c told is number place one within inside =
    let same : c.args.number ≡ number = same_Some _ _ one in
    let given = answered _ _ _ told c.in_ok-read_at.was is c.read_at.ensures.answer in
    given_cell _ _ told.now.bytes _ place given (omega arith)
    ∙ ap (λ n. take 16 (drop n told.now.bytes)) (omega arith)
