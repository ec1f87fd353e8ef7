-- What the page holds.
use Rattle.std.proofs.Common.{◌≡◌, ◌+◌, ◌-◌, ◌*◌, ◌/◌, ◌%◌, ◌∙◌, ℕ, length, take, drop, ap, sym, arith}
use Rattle.std.proofs.lemmas.Option.{same_Some}
use Rattle.worm_device.specs.ReadBytes.{cell_bytes}
use Rattle.host_files.specs.declared.pages.Page.{Page}
use Rattle.host_files.proofs.PageSets.{got_is}
use Rattle.host_files.proofs.ReadDirectly.{given_bytes}
use Rattle.host_files.proofs.pages.Pages.copy_held.Goals as goal

pub returns-clause-held : goal.returns-clause-held
returns-clause-held c did cells told hold inside place less =
    let on = c.in-Some.ensures in
    let page = c.index-page.result.now in
    let first = c.args.at % 256 in
    let copied = c.copy_from_slice.new.self in
    let same : on.0 ≡ page = same_Some on.0 page (sym on.1
    ∙ got_is c.args.self.now.pages.items c.in-Some.frame on.0 page on.1 c.index-page.ensures) in
    let count : 16 * first + length c.args.bytes.now - 16 * first ≡ length copied =
    omega (arith, c.copy_from_slice.auto.self) in
    let given : copied ≡ take (length copied) (drop (16 * first) page.bytes) =
    c.copy_from_slice.ensures.after ∙ ap (λ (n : ℕ). take n (drop (16 * first) page.bytes)) count in
    given_bytes first place copied page.bytes given less
    ∙ ap (λ (p : Page). cell_bytes p.bytes (first + place)) (sym same)
    ∙ hold c.in-Some.frame on.0 on.1 (c.args.at / 256) (first + place) on.2 (omega arith) (omega arith)
    ∙ ap (cell_bytes told) (omega arith)
