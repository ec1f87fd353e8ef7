use Rattle.std.proofs.Common.{◌≡◌, Some, ap, ◌∙◌, subst, arith, ⊎_elim, rules, tests}
use Rattle.std.proofs.lemmas.Bool.{cases_lt}
use Rattle.std.proofs.lemmas.Option.{slice_get_within, get_or_from_slice_get}
use Rattle.host_files.specs.Pages.{IsOn}
use Rattle.host_files.specs.declared.pages.Page.{Page}
use Rattle.host_files.proofs.pages.Pages.find.Goals as goal

pub loop-frame-preserved : goal.loop-frame-preserved
loop-frame-preserved c frame below on =
    ⊎_elim
    (λ before. c.loop-frame.invariant frame before on)
    (λ here.
    let same : frame ≡ c.loop-frame.frame = omega arith in
    let found = subst (λ n. IsOn c.args.self.now.pages.items n c.args.number) same on in
    let number : c.index.result.now.number ≡ Some c.args.number =
    ap (λ (p : Page). p.number) (c.index.ensures ∙ get_or_from_slice_get c.args.self.now.pages.items
    c.loop-frame.frame found.0 c.index.result.now found.1) ∙ found.2
    in search (rules, tests))
    (cases_lt frame c.loop-frame.frame)

pub returns-clause-none : goal.returns-clause-none
returns-clause-none c none frame on =
    let inside = slice_get_within _ frame on.0 on.1 in
    c.loop-frame.invariant frame (omega arith) on
