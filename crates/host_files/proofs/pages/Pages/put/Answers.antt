use Rattle.std.proofs.Common.{ap, refl, ◌∙◌}
use Rattle.std.proofs.lemmas.Option.{get_or_from_slice_get}
use Rattle.host_files.specs.declared.pages.Page.{Page}
use Rattle.host_files.proofs.PageSets.{holds_patched, patched_set, apart_set, put_page, got_is}
use Rattle.host_files.proofs.pages.Pages.put.Goals as goal

pub invariant_of-self-clause-apart : goal.invariant_of-self-clause-apart
invariant_of-self-clause-apart c =
    let found = c.in-Some.ensures.found in
    apart_set c.args.self.now.pages.items c.in-Some.frame _ c.args.self.now.apart
    (λ number other is on. c.args.self.now.apart number other c.in-Some.frame on (
      c.index_mut.result.now,
      got_is c.args.self.now.pages.items c.in-Some.frame found.0 c.index_mut.result.now
          found.1 c.index_mut.ensures.value,
      is,
    ))

pub returns-in-Some : goal.returns-in-Some
returns-in-Some c cells bytes within sixteen old =
    let found = c.in-Some.ensures.found in
    let page = c.index_mut.result.now in
    let here = got_is c.args.self.now.pages.items c.in-Some.frame found.0 page found.1 c.index_mut.ensures.value in
    let new : Page = record { number = page.number; used = page.used; bytes = c.put_at.new.bytes } in
    patched_set cells c.args.at c.in-Some.frame c.args.cell bytes c.args.self.now.pages.items new within sixteen
    found c.args.self.now.apart old
    (put_page cells c.args.at c.args.cell bytes page new within sixteen
    (ap (λ (p : Page). p.number) (c.index_mut.ensures.value ∙ get_or_from_slice_get c.args.self.now.pages.items
    c.in-Some.frame found.0 page found.1) ∙ found.2) refl
    c.put_at.ensures.holds c.put_at.ensures.others (old c.in-Some.frame page here))

pub returns-in_default : goal.returns-in_default
returns-in_default c cells bytes within sixteen old = λ frame page is.
    holds_patched cells c.args.at c.args.cell bytes page within sixteen (old frame page is)
    (λ on. c.in_default.ensures.none refl frame (page, is, on))
