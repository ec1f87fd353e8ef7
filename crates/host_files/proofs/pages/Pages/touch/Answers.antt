use Rattle.std.proofs.Common.{refl, arith}
use Rattle.host_files.specs.declared.pages.Page.{Page}
use Rattle.host_files.proofs.PageSets.{holds_set, apart_set, on_same, read_is}
use Rattle.host_files.proofs.pages.Pages.touch.Goals as goal

pub invariant_of-self-clause-apart : goal.invariant_of-self-clause-apart
invariant_of-self-clause-apart c =
    let pages = c.args.self.now.pages in
    apart_set pages.items c.args.frame _ c.args.self.now.apart
    (λ number other is on. c.args.self.now.apart number other c.args.frame on
    (c.index_mut-page.result.now, read_is pages.items _ _ (omega arith) c.index_mut-page.ensures.value, is))

pub returns-clause-on : goal.returns-clause-on
returns-clause-on c on =
    let page = c.index_mut-page.result.now in
    let new : Page = record page { used = c.saturating_add-self.result } in
    on_same c.args.self.now.pages.items c.args.frame page new c.args.number
    (read_is c.args.self.now.pages.items _ _ (omega arith) c.index_mut-page.ensures.value) on refl

pub returns-clause-holds : goal.returns-clause-holds
returns-clause-holds c cells bytes old =
    let page = c.index_mut-page.result.now in
    let new : Page = record page { used = c.saturating_add-self.result } in
    holds_set cells bytes _ c.args.frame new old
    (old c.args.frame page (read_is c.args.self.now.pages.items _ _ (omega arith) c.index_mut-page.ensures.value))
