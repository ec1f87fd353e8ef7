use Rattle.std.proofs.Common.{None, refl, ◌/◌}
use Rattle.std.proofs.lemmas.Option.{none-some}
use Rattle.host_files.specs.declared.pages.Page.{Page}
use Rattle.host_files.proofs.PageSets.{holds_patched, holds_set, patched_set, apart_set, none_holds, on_rest}
use Rattle.host_files.proofs.pages.Pages.forget.Goals as goal

pub invariant_of-self-clause-apart : goal.invariant_of-self-clause-apart
invariant_of-self-clause-apart c =
    apart_set c.args.self.now.pages.items c.in-Some.frame _ c.args.self.now.apart
    (λ number other is on. absurd (none-some number is))

pub returns-in-Some-clause-same : goal.returns-in-Some-clause-same
returns-in-Some-clause-same c cells bytes old =
    let page : Page = record { number = None; used = 0; bytes = c.index_mut-page.result.now.bytes } in
    holds_set cells bytes c.args.self.now.pages.items c.in-Some.frame page old (none_holds cells bytes page refl)

pub returns-in-Some-clause-put : goal.returns-in-Some-clause-put
returns-in-Some-clause-put c piece cells bytes within sixteen old =
    let page : Page = record { number = None; used = 0; bytes = c.index_mut-page.result.now.bytes } in
    patched_set cells c.args.at c.in-Some.frame piece bytes c.args.self.now.pages.items page within sixteen
    c.in-Some.ensures.found
    c.args.self.now.apart old (none_holds cells _ page refl)

pub returns-in_default-clause-put : goal.returns-in_default-clause-put
returns-in_default-clause-put c piece cells bytes within sixteen old = λ frame page is.
    holds_patched cells c.args.at piece bytes page within sixteen (old frame page is)
    (λ on. c.in_default.ensures.none refl frame (page, is, on))

-- the page was held nowhere else
pub returns-in-Some-clause-gone : goal.returns-in-Some-clause-gone
returns-in-Some-clause-gone c frame on =
    let page : Page = record { number = None; used = 0; bytes = c.index_mut-page.result.now.bytes } in
    let rest = on_rest c.args.self.now.pages.items c.in-Some.frame page frame (c.args.at / 256) refl on in
    rest.0 (c.args.self.now.apart (c.args.at / 256) frame c.in-Some.frame rest.1 c.in-Some.ensures.found)

pub returns-in_default-clause-gone : goal.returns-in_default-clause-gone
returns-in_default-clause-gone c = c.in_default.ensures.none refl
