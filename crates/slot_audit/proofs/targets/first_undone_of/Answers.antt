-- A blank cell asks nothing; a place more; the first place whose target holds something else; and all.
use Rattle.std.proofs.Common.{◌+◌, ℕ, refl, sym, ◌∙◌, ap, subst, arith}
use borrow.Author.Count.{below_more}
use Rattle.log_audit.specs.Kept.{image_of_kept}
use Rattle.log_audit.proofs.Deciding.{decided_no, decided_yes}
use Rattle.slot_audit.specs.Journals.{IsRedone, IsRedoneAt}
use Rattle.slot_audit.proofs.Redoing.{blank_asks_nothing}
use Rattle.slot_audit.proofs.targets.first_undone_of.Goals as goal

pub loop-place-preserved-in_default : goal.loop-place-preserved-in_default
loop-place-preserved-in_default c =
    let image = image_of_kept c.args.kept.now in
    below_more (IsRedone image c.args.stored.now) c.loop-place.place c.loop-place.invariant
    (subst (IsRedoneAt image) (ap (λ (from : ℕ). from + c.loop-place.place) c.journal_at-from.ensures.at)
    (blank_asks_nothing image _ (sym c.at.ensures ∙ c.in_default.is)))

pub loop-place-preserved : goal.loop-place-preserved
loop-place-preserved c =
    let image = image_of_kept c.args.kept.now in
    below_more (IsRedone image c.args.stored.now) c.loop-place.place c.loop-place.invariant
    (subst (IsRedoneAt image) (ap (λ (from : ℕ). from + c.loop-place.place) c.journal_at-from.ensures.at)
    (decided_yes _ c.is_redone.ensures c.if-is_redone.true))

pub returns-in-loop-place : goal.returns-in-loop-place
returns-in-loop-place c =
    let image = image_of_kept c.args.kept.now in
    let at = ap (λ (from : ℕ). from + c.loop-place.place) c.journal_at-from.ensures.at in
    record {
      number = refl;
      place = c.loop-place.place;
      inside = c.loop-place-test.true;
      cell = at;
      stands = sym c.at.ensures ∙ c.in-Some.is;
      bad = λ good. decided_no _ c.is_redone.ensures c.if-is_redone.false (subst (IsRedoneAt image) (sym at) good);
      before = c.loop-place.invariant;
    }

pub returns : goal.returns
returns c = λ place less. c.loop-place.invariant place (omega (arith, less, c.loop-place-test.false))
