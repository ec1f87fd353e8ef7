-- The target lies in no slot's blocks; or in those of one, whose journal has a copy or none.
use Rattle.std.proofs.Common.{sym, ◌∙◌, arith}
use Rattle.std.proofs.lemmas.Option.{none-some}
use Rattle.log_audit.proofs.Deciding.{no}
use Rattle.tree_audit.proofs.Leading.{copies_itself, journaled, lies_in, has_its_copy}
use Rattle.tree_audit.proofs.children.is_journaled.Goals as goal

pub has_copy-requires-clause-itself : goal.has_copy-requires-clause-itself
has_copy-requires-clause-itself c = copies_itself c.requires.leads (omega (arith, c.ranges.cell.fits))

pub returns-in_default : goal.returns-in_default
returns-in_default c = no (λ j. c.in_default.ensures.none j.owner (lies_in j))

pub returns-in_default-stored_slot : goal.returns-in_default-stored_slot
returns-in_default-stored_slot c = let lies = c.in-Some.ensures.some in
    no (λ j. (c.in_default-stored_slot).ensures.none lies.start lies.length lies.bytes lies.journal lies.stores)

pub returns-in_default-at : goal.returns-in_default-at
returns-in_default-at c = no (λ j. none-some _ (sym (c.in_default-at).is ∙ c.at.ensures ∙ c.requires.leads.held.stands))

pub returns : goal.returns
returns c =
    let lies = c.in-Some.ensures.some in
    let stored = (c.in-Some-stored_slot).ensures in (
      λ yes. journaled stored.some stored.same lies (c.has_copy.ensures.0 yes),
      λ j. c.has_copy.ensures.1 (has_its_copy c.requires.met stored.some stored.same lies j),
    )
