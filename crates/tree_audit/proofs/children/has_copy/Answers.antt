-- No journal cell names the cell; and the one that does holds the same, or not.
use Rattle.std.proofs.Common.{◌+◌, ℕ, sym, ◌∙◌, ap}
use Rattle.log_audit.specs.Kept.{image_of_kept}
use Rattle.log_audit.proofs.Deciding.{no}
use Rattle.tree_audit.proofs.Leading.{same_copies}
use Rattle.tree_audit.proofs.children.has_copy.Goals as goal

pub returns-in_default : goal.returns-in_default
returns-in_default c = no (λ h. c.in_default.ensures h.place h.inside (same_copies c.requires.itself h.same))

pub returns : goal.returns
returns c =
    let image = image_of_kept c.args.kept.now in
    let there = c.in-Some.ensures in (
      λ yes. record {
        place = c.in-Some.place;
        inside = there.inside;
        same = ap (λ (from : ℕ). image (from + c.in-Some.place)) (sym c.journal_at.ensures.at) ∙ c.holds.ensures.0 yes ∙ sym c.requires.stands;
      },
      λ h.
          let at = there.one h.place h.inside (same_copies c.requires.itself h.same) in
          c.holds.ensures.1 (ap (λ (from : ℕ). image (from + c.in-Some.place)) c.journal_at.ensures.at
          ∙ ap (λ (k : ℕ). image (_ + k)) (sym at) ∙ h.same ∙ c.requires.stands),
    )
