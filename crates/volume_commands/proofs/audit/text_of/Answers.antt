-- Four pieces, one behind the other.
use Rattle.std.proofs.Common.{◌++◌, ◌∙◌, ℕ, List, ap}
use Rattle.std.specs.Prelude.{codes}
use Rattle.volume_commands.specs.Auditing.{count_text}
use Rattle.volume_commands.proofs.Reports.{joined}
use Rattle.volume_commands.proofs.audit.text_of.Goals as goal

pub returns : goal.returns
returns c =
    let r = c.args.report.now in
    let done = count_text r.done (codes " done, ") in
    let abandoned = count_text r.abandoned (codes " abandoned, ") in
    let written = count_text r.written (codes " written cells\n") in
    c.in_ok-push_count-3.ensures
    ∙ ap (λ (t : List ℕ). t ++ written) (c.in_ok-push_count-2.ensures
    ∙ ap (λ (t : List ℕ). t ++ abandoned) (c.in_ok-push_count.ensures
    ∙ ap (λ (t : List ℕ). t ++ done) (c.in_ok-extend_from_slice.ensures.items
    ∙ ap (λ (t : List ℕ). t ++ codes "sound: ") c.new-text.ensures.items)))
    ∙ joined (codes "sound: ") done abandoned written
