use Rattle.std.proofs.Common.{None, refl, length-set, ◌∙◌, arith}
use Rattle.std.proofs.lemmas.Option.{none-some, slice_get_within}
use Rattle.host_files.specs.declared.pages.Page.{Page}
use Rattle.host_files.proofs.PageSets.{apart_set, on_rest}
use Rattle.host_files.proofs.pages.Pages.clear.Goals as goal

pub invariant_of-self-clause-apart : goal.invariant_of-self-clause-apart
invariant_of-self-clause-apart c =
    apart_set c.loop-frame.self.pages.items c.loop-frame.frame _ c.loop-frame.self.apart
    (λ number other is on. absurd (none-some number is))

pub loop-frame-preserved : goal.loop-frame-preserved
loop-frame-preserved c =
    let page : Page = record { number = None; used = 0; bytes = c.index_mut-page.result.now.bytes } in (
      length-set c.loop-frame.self.pages.items c.loop-frame.frame page ∙ c.loop-frame.invariant.0,
      λ frame number below on.
          let rest = on_rest c.loop-frame.self.pages.items c.loop-frame.frame page frame number refl on in
          c.loop-frame.invariant.1 frame number (omega (arith, below, rest.0)) rest.1,
    )

pub returns : goal.returns
returns c frame number on =
    c.loop-frame.invariant.1 frame number
    (omega (arith, c.loop-frame.invariant.0, slice_get_within c.loop-frame.self.pages.items frame on.0 on.1)) on
